-- The bound of the cost on three trees: the tree of three levels, an empty one, and one whose root has 17 stuck rows.
use Rattle.std.proofs.Common.{◌≡◌, [], ◌∷◌, refl}
use Rattle.be_model.specs.Domains.{bits}
use Rattle.be_model.specs.Bounds.{visits_bound, tested_bound}
use Rattle.be_model.specs.ByIds.{rows_of}
use Rattle.be_shape.specs.Plain.{Plain, contents}
use Rattle.be_shape.specs.Search.{visits, tested}
use Rattle.be_shape.proofs.ExampleTree.{schema, tree, leaf, any, sixteen, nothing_given, one_price, one_sale}

-- an event without values: the root alone, of which one row is covered
visits_of_none : visits_bound schema nothing_given (rows_of (contents tree)) ≡ 1
visits_of_none = refl

tests_of_none : tested_bound nothing_given 1 (rows_of (contents tree)) ≡ 17
tests_of_none = refl

-- a price: 1 and 2 halvings for each of four rows; four rows are covered
visits_of_price : visits_bound schema one_price (rows_of (contents tree)) ≡ 13
unfolding bits
visits_of_price = refl

tests_of_price : tested_bound one_price 3 (rows_of (contents tree)) ≡ 52
tests_of_price = refl

-- a price and a side: 1 and 1 halving more for the row that has both; all five rows are covered
visits_of_sale : visits_bound schema one_sale (rows_of (contents tree)) ≡ 15
unfolding bits
visits_of_sale = refl

tests_of_sale : tested_bound one_sale 4 (rows_of (contents tree)) ≡ 69
tests_of_sale = refl

-- without rows the root alone is visited, and the bound is exact
abbrev empty : Plain
empty = leaf []

empty_bound : visits_bound schema one_sale (rows_of (contents empty)) ≡ visits schema one_sale empty
empty_bound = refl

empty_tests : tested_bound one_sale 0 (rows_of (contents empty)) ≡ tested schema one_sale empty
empty_tests = refl

-- 17 rows without a condition stand at the root, are tested at each search, and are all covered
abbrev full : Plain
full = leaf (any ∷ sixteen any)

full_visits : visits_bound schema one_sale (rows_of (contents full)) ≡ visits schema one_sale full
full_visits = refl

full_tests : tested schema one_sale full ≡ 17
full_tests = refl

full_bound : tested_bound one_sale 1 (rows_of (contents full)) ≡ 33
full_bound = refl
