use Rattle.std.proofs.Common.{◌≡◌, ◌-◌, length}
use Rattle.std.specs.List.{list_any}
use Rattle.be_cover.specs.Covering.{allows_none, attributes}
use Rattle.be_cover.proofs.Assigning.{attrs_from}
use Rattle.be_cover.proofs.events.is_void.Given as goal

abbrev pub invariant-loop-number : goal.invariant-loop-number
invariant-loop-number l =
    list_any (allows_none l.s l.q) (attrs_from l.number (length l.s - l.number)) ≡ list_any (allows_none l.s l.q) (attributes l.s)
