use Rattle.std.proofs.Common.{◌≡◌, ◌+◌, length, drop}
use Rattle.be_shape.specs.Plain.{parts_as}
use Rattle.be_shape.specs.Search.{all_of}
use Rattle.be_match.specs.Ahead.{ahead_in_parts}
use Rattle.be_match.proofs.ahead.count_parts.Given as goal

-- what was counted, and what is still to be counted
abbrev pub invariant-loop-part : goal.invariant-loop-part
invariant-loop-part l =
    (l.cost.visits + length (ahead_in_parts l.e (parts_as (drop l.part-index l.parts))) ≡ l.initial.cost.visits + length (ahead_in_parts l.e (parts_as l.parts)))
    × (l.cost.tested + length (all_of (ahead_in_parts l.e (parts_as (drop l.part-index l.parts)))) ≡ l.initial.cost.tested + length (all_of (ahead_in_parts l.e (parts_as l.parts))))
