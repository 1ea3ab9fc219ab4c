-- Whether a row may pass to a child.
use Rattle.std.proofs.Common.{◌≡◌, Bool, true, false, ◌||◌, [], refl, sym, ap, ◌∙◌, List}
use Rattle.std.specs.List.{list_any}
use Rattle.be_model.specs.declared.changes.Row.{Row}
use Rattle.be_model.specs.Rows.{has}
use Rattle.be_model.specs.Schemas.{Attributes}
use Rattle.be_shape.specs.Plain.{Parts, Half, node}
use Rattle.be_shape.specs.Shape.{NodeRange, known, lower, upper, fits_half, attrs_of}
use Rattle.be_shape.proofs.Levels.{passes_is}
use Rattle.be_remove.specs.Taken.{has_way}

turned : (a b c : Bool) → (a || b || c) ≡ (c || a || b)
turned true true true = refl
turned true true false = refl
turned true false true = refl
turned true false false = refl
turned false true true = refl
turned false true false = refl
turned false false true = refl
turned false false false = refl

pub way_is : (s : Attributes) (r : NodeRange) (rows : List Row) (parts : Parts) (low high : Half) (row : Row)
    → (fits_half s (known (lower r) []) low row || fits_half s (known (upper r) []) high row || list_any (λ a. has a row) (attrs_of parts)) ≡ has_way s r (node rows parts low high) row
way_is s r rows parts low high row =
    turned (fits_half s (known (lower r) []) low row) (fits_half s (known (upper r) []) high row) (list_any (λ a. has a row) (attrs_of parts)) ∙ passes_is s (known r []) rows parts low high row

pub low_way : (s : Attributes) (r : NodeRange) (rows : List Row) (parts : Parts) (low high : Half) (row : Row) → fits_half s (known (lower r) []) low row ≡ true → true ≡ has_way s r (node rows parts low high) row
low_way s r rows parts low high row h =
    ap (λ b. b || fits_half s (known (upper r) []) high row || list_any (λ a. has a row) (attrs_of parts)) (sym h) ∙ way_is s r rows parts low high row

pub high_way : (s : Attributes) (r : NodeRange) (rows : List Row) (parts : Parts) (low high : Half) (row : Row) → fits_half s (known (lower r) []) low row ≡ false → fits_half s (known (upper r) []) high row ≡ true → true ≡ has_way s r (node rows parts low high) row
high_way s r rows parts low high row l h =
    ap (λ b. false || b || list_any (λ a. has a row) (attrs_of parts)) (sym h) ∙ ap (λ b. b || fits_half s (known (upper r) []) high row || list_any (λ a. has a row) (attrs_of parts)) (sym l) ∙ way_is s r rows parts low high row
