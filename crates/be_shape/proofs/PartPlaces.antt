-- The attribute of a part at its place.
use Rattle.std.proofs.Common.{◌≡◌, ◌<◌, ℕ, zero, suc, List, [], ◌∷◌, length, slice_get, get_or, Some, refl, sym, ap, arith}
use Rattle.be_base.specs.declared.names.AttrNo.{AttrNo}
use Rattle.be_shape.specs.declared.nodes.Part.{Part}
use Rattle.be_shape.specs.Plain.{part_as, parts_as}
use Rattle.be_shape.specs.Shape.{attrs_of}

-- the attribute of a part at its place
pub attrs_length : (ps : List Part) → length (attrs_of (parts_as ps)) ≡ length ps
attrs_length [] = refl
attrs_length (p ∷ ps) = ap (λ n. suc n) (attrs_length ps)

pub attr_there : (ps : List Part) (i : ℕ) (p : Part) → i < length ps → p ≡ get_or ps i p → slice_get (attrs_of (parts_as ps)) i ≡ Some (part_as p).0
attr_there [] i p l e = absurd (omega arith)
attr_there (q ∷ ps) zero p l e = ap (λ z. Some (part_as z).0) (sym e)
attr_there (q ∷ ps) (suc i) p l e = attr_there ps i p (omega arith) e

pub within : (xs : List AttrNo) (i : ℕ) (x : AttrNo) → slice_get xs i ≡ Some x → i < length xs
within [] i x h = absurd (cc)
within (y ∷ xs) zero x h = omega arith
within (y ∷ xs) (suc i) x h = let l = within xs i x h in omega arith

pub part_within : (ps : List Part) (i : ℕ) (a : AttrNo) → slice_get (attrs_of (parts_as ps)) i ≡ Some a → i < length ps
part_within ps i a h = omega (arith, within (attrs_of (parts_as ps)) i a h, attrs_length ps)
