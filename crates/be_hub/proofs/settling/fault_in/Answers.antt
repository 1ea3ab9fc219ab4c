use Rattle.std.proofs.Common.{◌≡◌, None, Some, find, rules, arith}
use Rattle.std.specs.List.{list_any}
use Rattle.be_hub.specs.Files.{is_split_end}
use Rattle.be_hub.specs.Settling.{CountsSplits}
use Rattle.be_hub.proofs.Unbroken.{all_unbroken}
use Rattle.be_hub.proofs.FilesClosed.{none_mapped, found_holds}
use Rattle.be_hub.proofs.settling.fault_in.Goals as goal

pub returns-in-Some : goal.returns-in-Some
returns-in-Some g c = λ is.
    let first : find (λ end. list_any is_split_end end.ends.items) c.args.ends.now ≡ Some c.in-Some.end.now = search rules in
    let found = found_holds (λ end. CountsSplits end.seat end.ends.items) (λ end. list_any is_split_end end.ends.items) c.args.ends.now c.in-Some.end.now c.requires first in
    let none : c.rift.result ≡ None = none_mapped _ c.rift.result c.map.result is c.map.ensures.cases in
    absurd (omega (arith, found.0 found.1, c.rift.ensures.none.0 none))

pub returns-in-None : goal.returns-in-None
returns-in-None g c = λ is. all_unbroken (λ end. end.ends.items) c.args.ends.now (search rules) (search rules)
