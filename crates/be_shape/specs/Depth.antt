-- How deep a tree may be.
use Rattle.std.specs.Prelude.{◌≡◌, ◌≤◌, ℕ, ◌+◌, ◌*◌, true, List, length, nat_le, Some}
use Rattle.std.specs.List.{list_all, sum_by}
use Rattle.be_base.specs.declared.limits.TheConstants.{PREDICATES}
use Rattle.be_model.specs.declared.changes.Row.{Row}
use Rattle.be_model.specs.declared.paths.Hop.{Hop}
use Rattle.be_model.specs.declared.preds.Pred.{Pred}
use Rattle.be_model.specs.Bounds.{bits_at}
use Rattle.be_model.specs.Schemas.{Attributes}
use Rattle.be_shape.specs.Paths.{walk}
use Rattle.be_shape.specs.Plain.{Plain, rows_below}

-- the most nodes below the root on the way to a row: for each predicate its part, and one for each halving of its domain
abbrev pub most_steps : Attributes → Row → ℕ
most_steps s row = sum_by (λ (p : Pred). 1 + bits_at s p.attr) row.conj

-- a path to a node has no more steps than each row below the node allows
abbrev pub StepsAreBounded : Attributes → Plain → Type 0
StepsAreBounded s root =
    (path : List Hop) (n : Plain) → walk path root ≡ Some n → list_all (λ row. nat_le (length path) (most_steps s row)) (rows_below n) ≡ true

-- no path, the root with it, has more nodes than 33 for each of 32 predicates, and the root
abbrev pub DepthIsBounded : Plain → Type 0
DepthIsBounded root = (path : List Hop) (n : Plain) → walk path root ≡ Some n → 1 + length path ≤ 1 + PREDICATES * 33
