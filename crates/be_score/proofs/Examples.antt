-- Worked values of the definitions: three rows `price = 5` and one row `qty = 0`.
use Rattle.std.proofs.Common.{◌≡◌, ℕ, pos, negsuc, List, [], ◌∷◌, refl}
use Rattle.std.specs.Prelude.{codes}
use Rattle.be_model.specs.declared.changes.Row.{Row}
use Rattle.be_model.specs.declared.ops.Op.TheVariants.{Eq}
use Rattle.be_model.specs.declared.schemas.Domain.TheVariants.{Int}
use Rattle.be_model.specs.Schemas.{Attributes, attribute_of, numbered}
use Rattle.be_score.specs.Scores.{weight, score}

abbrev schema : Attributes
schema = attribute_of (codes "price") (Int (pos 0) (pos 1000)) ∷ attribute_of (codes "qty") (Int (negsuc 4) (pos 5)) ∷ []

abbrev priced : ℕ → Row
priced id = record { id = record { 0 = id }; session = record { 0 = 1 }; name = codes "a"; conj = record { attr = numbered 0; op = Eq (pos 5) } ∷ [] }

abbrev other : Row
other = record { id = record { 0 = 3 }; session = record { 0 = 1 }; name = codes "b"; conj = record { attr = numbered 1; op = Eq (pos 0) } ∷ [] }

abbrev rows : List Row
rows = priced 0 ∷ priced 1 ∷ priced 2 ∷ other ∷ []

weight_of_price : weight schema (numbered 0) (priced 0) ≡ 1000
weight_of_price = refl

weight_of_quantity : weight schema (numbered 1) other ≡ 910
weight_of_quantity = refl

score_of_price : score schema rows 50 (numbered 0) ≡ pos 100000
score_of_price = refl

score_of_quantity : score schema rows 50 (numbered 1) ≡ negsuc 104499
score_of_quantity = refl
