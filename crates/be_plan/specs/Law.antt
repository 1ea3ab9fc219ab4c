-- What a plan promises: its step stands, and where there is none, none of those that it looks for stands anywhere.
use Rattle.std.specs.Prelude.{◌≡◌, ◌≤◌, ℕ, true, false, List, count_by, Some}
use Rattle.std.specs.List.{Contains}
use Rattle.be_base.specs.declared.names.AttrNo.{AttrNo}
use Rattle.be_base.specs.declared.limits.TheConstants.{EARLY_ROWS}
use Rattle.be_model.specs.declared.changes.Row.{Row}
use Rattle.be_model.specs.declared.paths.Hop.{Hop}
use Rattle.be_model.specs.declared.paths.Hop.TheVariants.{Part}
use Rattle.be_model.specs.declared.paths.Step.TheVariants.{SplitPart, SplitHalf, Merge, Shift}
use Rattle.be_model.specs.Schemas.{Attributes}
use Rattle.be_model.specs.Rows.{has}
use Rattle.be_score.specs.Picks.{pick}
use Rattle.be_shape.specs.Plain.{Plain, leaf_of}
use Rattle.be_shape.specs.Shape.{nothing}
use Rattle.be_shape.specs.Paths.{walk}
use Rattle.be_shape.specs.Children.{may_pass}
use Rattle.be_shape.specs.NodeList.{known_along}
use Rattle.be_shape.specs.Steps.{rows_at, stands}
use Rattle.be_plan.specs.Plan.{gains}

-- no node can be merged; no row of a part weighs 500 more on the attribute of another; no attribute that divides a leaf
-- best is had by 8 of its rows; no half that isn't there encloses 8 rows of a leaf
pub record NothingStands (s : Attributes) (alpha : ℕ) (root : Plain) : Type 0 where
  pub merge : (path : List Hop) → stands s (Merge path) root ≡ false
  pub shift : (path : List Hop) (n : Plain) (from to : AttrNo) (row : Row) → walk path root ≡ Some n → Contains (rows_at (Part from) n) row → gains s from row to ≡ true → stands s (Shift path from to row.id) root ≡ false
  pub part : (path : List Hop) (n : Plain) (a : AttrNo) → walk path root ≡ Some n → pick s (leaf_of n) (known_along s path nothing).used alpha ≡ Some a → EARLY_ROWS ≤ count_by (has a) (leaf_of n) → stands s (SplitPart path a) root ≡ false
  pub half : (path : List Hop) (n : Plain) (half : Hop) → walk path root ≡ Some n → EARLY_ROWS ≤ count_by (may_pass s half (known_along s path nothing).range) (leaf_of n) → stands s (SplitHalf path half) root ≡ false
