-- Conditions, written out, and what a place tells of them.
use Rattle.std.proofs.Common.{◌≡◌, List, [], ◌∷◌, pos, refl}
use Rattle.be_base.specs.declared.names.AttrNo.{AttrNo}
use Rattle.be_model.specs.declared.ops.Op.{Op}
use Rattle.be_model.specs.declared.ops.Op.TheVariants.{Lt, Le, Eq, Ne, Ge, Between}
use Rattle.be_model.specs.declared.preds.Pred.{Pred}
use Rattle.be_model.specs.Schemas.{numbered}
use Rattle.be_shape.specs.declared.glances.Extent.TheVariants.{Whole, Few, Part}
use Rattle.be_shape.specs.Glances.{greatest, least, glance, glance_of}

abbrev price : AttrNo
price = numbered 0

abbrev side : AttrNo
side = numbered 1

abbrev size : AttrNo
size = numbered 2

abbrev age : AttrNo
age = numbered 3

abbrev on : AttrNo → Op → Pred
on a op = record { attr = a; op = op }

-- of four attributes the widest, which is the first, has no test
abbrev four : List Pred
four = on price (Ge (pos 5)) ∷ on side (Eq (pos 7)) ∷ on price (Le (pos 9)) ∷ on size (Between (pos 1) (pos 3)) ∷ on age (Between (pos 10) (pos 20)) ∷ []

four_told : glance_of four ≡ glance ((side, (pos 7, pos 7)) ∷ (size, (pos 1, pos 3)) ∷ (age, (pos 10, pos 20)) ∷ []) Part
four_told = refl

-- of equally wide ones the last are left out, and not what is narrower
equal_told : glance_of (on price (Ge (pos 5)) ∷ on side (Ge (pos 5)) ∷ on age (Ge (pos 5)) ∷ on size (Eq (pos 4)) ∷ []) ≡ glance ((price, (pos 5, greatest)) ∷ (side, (pos 5, greatest)) ∷ (size, (pos 4, pos 4)) ∷ []) Part
equal_told = refl

-- of three attributes each has its test, and a further one on one of them has none where the others want the room
abbrev three : List Pred
three = on price (Ge (pos 5)) ∷ on price (Lt (pos 9)) ∷ on side (Ne (pos 7)) ∷ on size (Eq (pos 4)) ∷ []

three_told : glance_of three ≡ glance ((price, (pos 5, greatest)) ∷ (side, (least, greatest)) ∷ (size, (pos 4, pos 4)) ∷ []) Few
three_told = refl

-- two on one attribute are the whole condition
two_told : glance_of (on price (Ge (pos 5)) ∷ on price (Lt (pos 9)) ∷ []) ≡ glance ((price, (pos 5, greatest)) ∷ (price, (least, pos 8)) ∷ []) Whole
two_told = refl

-- a further `!=` takes no room
unequal_told : glance_of (on price (Ge (pos 5)) ∷ on price (Ne (pos 7)) ∷ []) ≡ glance ((price, (pos 5, greatest)) ∷ []) Few
unequal_told = refl
