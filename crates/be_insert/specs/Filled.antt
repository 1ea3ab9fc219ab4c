-- What holds of a tree while a row is put into it.
use Rattle.std.specs.Prelude.{◌≡◌, ℕ, ◌<◌, ◌+◌, ◌-◌, ◌&&◌, ◌||◌, Bool, true, List, length, take, nat_le, nat_lt, Option, Some, None, if◌then◌else◌}
use Rattle.std.specs.List.{list_all, count_by}
use Rattle.be_base.specs.declared.limits.TheConstants.{LEAF_ROWS}
use Rattle.be_model.specs.declared.changes.Row.{Row}
use Rattle.be_model.specs.declared.paths.Hop.{Hop}
use Rattle.be_model.specs.declared.paths.Hop.TheVariants.{Low, High}
use Rattle.be_model.specs.Schemas.{Attributes}
use Rattle.be_shape.specs.Plain.{Plain, leaf_of, rows_below}
use Rattle.be_shape.specs.Shape.{NodeRange, can_split, Known, everywhere, is_placed_at, is_drawn_at, is_pruned_at, is_stuck, may_stand}
use Rattle.be_shape.specs.Children.{children, known_below, may_pass}
use Rattle.be_shape.specs.Right.{is_right_at}

-- the leaf of a settled node
abbrev pub settles : Attributes → Known → List Row → Bool
settles s k leaf = nat_le (length leaf) LEAF_ROWS || list_all (is_stuck s k) leaf

-- a leaf that was settled has one row more, the last
abbrev pub is_filled : Attributes → Known → List Row → Bool
is_filled s k leaf =
    nat_le (length leaf) (LEAF_ROWS + 1) || list_all (is_stuck s k) (take (length leaf - 1) leaf)

-- all nodes are right but that the leaf of this one may have a row too much, the last
pub record IsFilled (s : Attributes) (k : Known) (n : Plain) : Type 0 where
  pub placed : is_placed_at s k n ≡ true
  pub drawn : is_drawn_at s k n ≡ true
  pub pruned : is_pruned_at k n ≡ true
  pub below : list_all (λ (x : Hop × Plain). everywhere (is_right_at s) s (known_below s x.0 k) x.1) (children n) ≡ true
  pub may : list_all (may_stand s) (rows_below n) ≡ true
  pub some : 0 < length (leaf_of n)
  pub filled : is_filled s k (leaf_of n) ≡ true

-- the half with more rows, the low one on a tie
abbrev pub better_half : ℕ → ℕ → Option Hop
better_half low high =
    if nat_lt 0 low && nat_le high low then Some Low else (if nat_lt 0 high then Some High else None)

-- the half of a range that encloses more of the rows
abbrev pub half_for : Attributes → NodeRange → List Row → Option Hop
half_for s r rows =
    if can_split r then better_half (count_by (may_pass s Low r) rows) (count_by (may_pass s High r) rows) else None
