use Rattle.std.proofs.Common.{◌≡◌, ◌≤◌, ◌<◌, ℕ, List, length, get_or}
use Rattle.be_model.specs.declared.changes.Row.{Row}
use Rattle.be_shape.specs.declared.nodes.Part.{Part}
use Rattle.be_shape.specs.Plain.{part_as, parts_as}
use Rattle.be_remove.specs.Taken.{Lacks}
use Rattle.be_remove.specs.Turns.{place_at}
use Rattle.be_remove.proofs.takes.+takes.Given as goal

-- nothing has been taken, and no part that had its turn has the row; the parts that are left are unchanged, so that the
-- recursion goes down
pub record Sought (row : Row) (was is : List Part) (likely turn last : ℕ) : Type 0 where
  pub same : parts_as is ≡ parts_as was
  pub many : length is ≡ length was
  pub end : last ≡ length was
  pub lacks : (t : ℕ) → t < turn → (q : Part) → q ≡ get_or was (place_at likely t) q → Lacks row (part_as q).1
  pub left : (t : ℕ) (d : Part) → turn ≤ t → get_or is (place_at likely t) d ≡ get_or was (place_at likely t) d

abbrev pub invariant-take_from_parts-loop-turn : goal.invariant-take_from_parts-loop-turn
invariant-take_from_parts-loop-turn l = Sought l.row l.initial.parts.items l.parts.items l.likely l.turn l.turn-end
