-- The attributes of a row, where they are few.
use Rattle.std.specs.Prelude.{ℕ, ◌||◌, ◌%◌, Bool, true, false, List, [], ◌∷◌, if◌then◌else◌}
use Rattle.be_base.specs.declared.names.AttrNo.{AttrNo}
use Rattle.be_model.specs.declared.preds.Pred.{Pred}
use Rattle.be_model.specs.Schemas.{numbered}
use Rattle.be_shape.specs.declared.listings.RowAttrs.{RowAttrs}
use Rattle.be_shape.specs.declared.listings.RowAttrs.TheVariants.{Zero, One, Two, Three, Many}
use Rattle.be_shape.specs.Glances.{Test, Glance, is_part, glance_of}

abbrev pub is_many : RowAttrs → Bool
is_many Zero = false
is_many (One x) = false
is_many (Two x y) = false
is_many (Three x y z) = false
is_many Many = true

-- one of the attributes that are listed passes a test
abbrev pub any_listed : (AttrNo → Bool) → RowAttrs → Bool
any_listed test Zero = false
any_listed test (One x) = test (numbered x)
any_listed test (Two x y) = test (numbered x) || test (numbered y)
any_listed test (Three x y z) = test (numbered x) || test (numbered y) || test (numbered z)
any_listed test Many = false

-- the attributes of tests
abbrev pub listed : List Test → RowAttrs
listed [] = Zero
listed (x ∷ []) = One x.0.0
listed (x ∷ y ∷ []) = Two x.0.0 y.0.0
listed (x ∷ y ∷ z ∷ []) = Three x.0.0 y.0.0 z.0.0
listed (x ∷ y ∷ z ∷ w ∷ more) = Many

-- the attributes that a glance tells
abbrev pub attrs_told : Glance → RowAttrs
attrs_told g = if is_part g.extent then Many else listed g.tests

-- the attributes of a condition, or `Many` where the glance doesn't tell them all
abbrev pub attrs_of : List Pred → RowAttrs
attrs_of conj = attrs_told (glance_of conj)

-- the lower 6 bits of a number, by which most others are told apart
abbrev pub low_part : ℕ → ℕ
low_part n = n % 64
