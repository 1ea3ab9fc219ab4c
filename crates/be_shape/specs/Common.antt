-- The attributes that many rows of a leaf have.
use Rattle.std.specs.Prelude.{◌≡◌, ℕ, ◌+◌, ◌<◌, ◌≤◌, ◌==◌, Bool, true, false, List, length, nat_le, count_by, slice_index_or, Option, if◌then◌else◌}
use Rattle.std.specs.Global.{Box}
use Rattle.be_base.specs.declared.names.AttrNo.{AttrNo}
use Rattle.be_base.specs.declared.limits.TheConstants.{ATTRIBUTES, EARLY_ROWS}
use Rattle.be_model.specs.declared.changes.Row.{Row}
use Rattle.be_model.specs.Rows.{has}
use Rattle.be_shape.specs.declared.listings.RowAttrs.{RowAttrs}
use Rattle.be_shape.specs.declared.listings.RowAttrs.TheVariants.{Zero, One, Two, Three, Many}
use Rattle.be_shape.specs.declared.large.Large.{Large}
use Rattle.be_shape.specs.Large.{IsBeside}
use Rattle.be_shape.specs.Leaves.{rows_of_places, are_rows}
use Rattle.be_shape.specs.Listed.{is_many, any_listed, attrs_of}

-- the attribute of this number is listed
abbrev pub is_listed : ℕ → RowAttrs → Bool
is_listed a l = any_listed (λ b. b.0 == a) l

-- each attribute that at least 8 of the rows have is listed, unless none are told
abbrev pub AreCommon : List Row → RowAttrs → Type 0
AreCommon rows l =
    is_many l ≡ false → (a : AttrNo) → a.0 < ATTRIBUTES → nat_le EARLY_ROWS (count_by (has a) rows) ≡ true → is_listed a.0 l ≡ true

-- a row whose place lists the attribute, and one whose place doesn't tell its attributes
abbrev pub lists : ℕ → Row → Bool
lists a row = is_listed a (attrs_of row.conj)

abbrev pub lists_many : Row → Bool
lists_many row = is_many (attrs_of row.conj)

-- with an attribute more
abbrev pub with_common : ℕ → RowAttrs → RowAttrs
with_common x Zero = One x
with_common x (One a) = Two a x
with_common x (Two a b) = Three a b x
with_common x (Three a b c) = Many
with_common x Many = Many

-- counts below a bound don't fall, and rise by at least one where a test holds
abbrev pub Notes : ℕ → (ℕ → Bool) → List ℕ → List ℕ → Type 0
Notes bound test counts counts' =
    (a n : ℕ) → a < ATTRIBUTES → n < bound → n ≤ slice_index_or counts a 0 → n + (if test a then 1 else 0) ≤ slice_index_or counts' a 0

-- each attribute that is counted so often is listed, unless none are told
abbrev pub IsTold : List ℕ → ℕ → RowAttrs → Type 0
IsTold counts wanted l =
    (a : ℕ) → a < ATTRIBUTES → wanted ≤ slice_index_or counts a 0 → is_many l ≡ false → is_listed a l ≡ true

-- the rows of a leaf stand at its places; they are counted, what many of them have is told, and what stands beside them is of them
pub record IsLeaf (count : ℕ) (common : RowAttrs) (places : List (Option Row)) (large : Option (Box Large)) : Type 0 where
  pub rows : are_rows places ≡ true
  pub counted : length places ≡ count
  pub told : AreCommon (rows_of_places places) common
  pub beside : IsBeside places large
