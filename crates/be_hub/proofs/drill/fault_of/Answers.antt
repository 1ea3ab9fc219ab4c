use Rattle.std.proofs.Common.{◌≡◌, None, Some, find, rules, arith}
use Rattle.be_hub.specs.Files.{is_split_end}
use Rattle.be_hub.proofs.FilesClosed.{all_read, none_mapped, split_counted}
use Rattle.be_hub.proofs.drill.fault_of.Goals as goal

pub returns-in-Some : goal.returns-in-Some
returns-in-Some g c = record {
  read = λ is.
      let first : find (λ end. is_split_end end.end) c.args.ends.now ≡ Some c.in-Some.end.now = search rules in
      let some = split_counted (λ end. end.seat) (λ end. end.end) c.args.ends.now c.in-Some.end.now c.requires.ends first in
      let none : c.rift.result ≡ None = none_mapped _ c.rift.result c.map.result is c.map.ensures.cases in
      absurd (omega (arith, some, c.rift.ensures.none.0 none));
}

pub returns-in-None : goal.returns-in-None
returns-in-None g c =
    record { read = λ is. all_read (λ end. end.seat) (λ end. end.end) c.args.ends.now (search rules) (search rules) c.requires.ends }
