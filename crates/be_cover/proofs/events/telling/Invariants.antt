use Rattle.std.proofs.Common.{◌≡◌, ◌-◌, length, find}
use Rattle.be_cover.specs.Covering.{tells, attributes}
use Rattle.be_cover.proofs.Assigning.{attrs_from}
use Rattle.be_cover.proofs.events.telling.Given as goal

abbrev pub invariant-loop-number : goal.invariant-loop-number
invariant-loop-number l =
    find (tells l.s l.q l.r) (attrs_from l.number (length l.s - l.number)) ≡ find (tells l.s l.q l.r) (attributes l.s)
