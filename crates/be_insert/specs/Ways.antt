-- Where a row goes at a node.
use Rattle.std.specs.Prelude.{◌≡◌, ℕ, ℤ, pos, ◌+◌, true, false, List, [], ◌∷◌, slice_get, int_lt, Option, Some, None, if◌then◌else◌}
use Rattle.std.specs.List.{list_any}
use Rattle.be_base.specs.declared.names.AttrNo.{AttrNo}
use Rattle.be_model.specs.declared.changes.Row.{Row}
use Rattle.be_model.specs.declared.paths.Hop.{Hop}
use Rattle.be_model.specs.declared.paths.Hop.TheVariants.{Part, Low, High}
use Rattle.be_model.specs.Rows.{has}
use Rattle.be_model.specs.Schemas.{Attributes}
use Rattle.be_score.specs.Scores.{weight}
use Rattle.be_shape.specs.Plain.{Plain, parts_under}
use Rattle.be_shape.specs.Shape.{NodeRange, attrs_of}
use Rattle.be_shape.specs.Paths.{child}
use Rattle.be_shape.specs.Children.{children, may_pass}

-- the better of the part so far and the next, where the row has the next one's attribute: of two equal weights the first
abbrev pub heavier : Option (ℕ × ℤ) → ℕ × ℤ → Option (ℕ × ℤ)
heavier None next = Some next
heavier (Some best) next = if int_lt best.1 next.1 then Some next else Some best

abbrev pub better_part : Attributes → Row → Option (ℕ × ℤ) → ℕ → AttrNo → Option (ℕ × ℤ)
better_part s row best i a = if has a row then heavier best (i, pos (weight s a row)) else best

-- the place and the weight of the best part
abbrev pub best_from : Attributes → Row → ℕ → Option (ℕ × ℤ) → List AttrNo → Option (ℕ × ℤ)
best_from s row i best [] = best
best_from s row i best (a ∷ more) = best_from s row (i + 1) (better_part s row best i a) more

-- the step is there, and for a part its place among the parts
abbrev pub IsThere : Plain → Hop × ℕ → Type 0
IsThere n (Part a, i) = slice_get (attrs_of (parts_under n)) i ≡ Some a
IsThere n (Low, i) = (m : Plain) × (child Low n ≡ Some m)
IsThere n (High, i) = (m : Plain) × (child High n ≡ Some m)

-- the row may pass the step
pub record IsWay (s : Attributes) (r : NodeRange) (n : Plain) (row : Row) (way : Hop × ℕ) : Type 0 where
  pub passes : may_pass s way.0 r row ≡ true
  pub there : IsThere n way

abbrev pub NoWay : Attributes → NodeRange → Plain → Row → Type 0
NoWay s r n row = list_any (λ (x : Hop × Plain). may_pass s x.0 r row) (children n) ≡ false
