-- What rows give each attribute.
use Rattle.std.specs.Prelude.{◌≡◌, ℕ, ℤ, ◌+◌, ◌<◌, int_le, List, length, slice_index_or, Option, Some, None, if◌then◌else◌}
use Rattle.be_base.specs.declared.limits.TheConstants.{ATTRIBUTES}
use Rattle.be_base.specs.declared.names.AttrNo.{AttrNo}
use Rattle.be_model.specs.declared.changes.Row.{Row}
use Rattle.be_model.specs.Schemas.{Attributes, numbered}
use Rattle.be_model.specs.Rows.{has}
use Rattle.be_score.specs.Scores.{weight, with_attr, gain}

abbrev pub AreZeros : List ℕ → Type 0
AreZeros xs = (a : ℕ) → a < ATTRIBUTES → slice_index_or xs a 0 ≡ 0

abbrev pub AreBelow : ℕ → List ℕ → Type 0
AreBelow bound xs = (a : ℕ) → a < ATTRIBUTES → slice_index_or xs a 0 < bound

-- for each attribute, the gain of these rows and how many have it
pub record IsTally (s : Attributes) (rows : List Row) (gains counts : List ℕ) : Type 0 where
  pub gain : (a : ℕ) → a < ATTRIBUTES → slice_index_or gains a 0 ≡ gain s rows (numbered a)
  pub count : (a : ℕ) → a < ATTRIBUTES → slice_index_or counts a 0 ≡ length (with_attr (numbered a) rows)

-- a row more
pub record Adds (s : Attributes) (row : Row) (gains counts gains' counts' : List ℕ) : Type 0 where
  pub gain : (a : ℕ) → a < ATTRIBUTES → slice_index_or gains' a 0 ≡ slice_index_or gains a 0 + (if has (numbered a) row then weight s (numbered a) row else 0)
  pub count : (a : ℕ) → a < ATTRIBUTES → slice_index_or counts' a 0 ≡ slice_index_or counts a 0 + (if has (numbered a) row then 1 else 0)

-- of two attributes with their scores, the later where its score is higher
abbrev pub better_of : Option (AttrNo × ℤ) → AttrNo × ℤ → AttrNo × ℤ
better_of None next = next
better_of (Some best) next = if int_le next.1 best.1 then best else next
