-- A tree of three levels, written out, and what the definitions say of it.
use Rattle.std.proofs.Common.{◌≡◌, ℕ, true, false, List, [], ◌∷◌, ◌++◌, map, Some, None, refl}
use Rattle.std.specs.Prelude.{pos, codes}
use Rattle.be_base.specs.declared.names.AttrNo.{AttrNo}
use Rattle.be_model.specs.declared.ops.Op.{Op}
use Rattle.be_model.specs.declared.ops.Op.TheVariants.{Eq, Ne, Ge, Between}
use Rattle.be_model.specs.declared.preds.Pred.{Pred}
use Rattle.be_model.specs.declared.changes.Row.{Row}
use Rattle.be_model.specs.declared.paths.Hop.TheVariants.{Part, Low, High}
use Rattle.be_model.specs.declared.schemas.Domain.TheVariants.{Int}
use Rattle.be_model.specs.Schemas.{Attributes, attribute_of, numbered}
use Rattle.be_model.specs.Matching.{Assignments, satisfied}
use Rattle.be_model.specs.Rows.{id_of}
use Rattle.be_model.specs.ByIds.{row_at, rows_of}
use Rattle.be_shape.specs.Plain.{Plain, node, Parts, no_part, part, no_half, half, contents}
use Rattle.be_shape.specs.Paths.{walk, range_at}
use Rattle.be_shape.specs.Search.{visits, tested}
use Rattle.be_shape.specs.Shape.{is_placed, is_drawn, is_pruned, is_settled, rows_lie}

-- attribute 0 has the values 0 to 3, attribute 1 the values 0 and 1
abbrev pub schema : Attributes
schema = attribute_of (codes "price") (Int (pos 0) (pos 3)) ∷ attribute_of (codes "side") (Int (pos 0) (pos 1)) ∷ []

abbrev pub price : AttrNo
price = numbered 0

abbrev pub side : AttrNo
side = numbered 1

abbrev pub on : AttrNo → Op → Pred
on a op = record { attr = a; op = op }

abbrev pub row : ℕ → List Pred → Row
row id conj = record { id = record { 0 = id }; session = record { 0 = 1 }; name = codes "a"; conj = conj }

abbrev pub any : Row
any = row 7 []

abbrev pub middle_price : Row
middle_price = row 4 (on price (Between (pos 1) (pos 2)) ∷ [])

abbrev pub least_price : Row
least_price = row 9 (on price (Eq (pos 0)) ∷ [])

abbrev pub high_price : Row
high_price = row 2 (on price (Ge (pos 2)) ∷ [])

abbrev pub middle_sale : Row
middle_sale = row 5 (on price (Ne (pos 3)) ∷ on side (Eq (pos 0)) ∷ [])

abbrev pub leaf : List Row → Plain
leaf rows = node rows no_part no_half no_half

-- below the root the part of the price; below that the part of the side and both halves
abbrev pub prices : List Row → Parts → List Row → List Row → Plain
prices here parts low high = node here parts (half (leaf low)) (half (leaf high))

abbrev pub sales : Parts
sales = part side (leaf (middle_sale ∷ [])) no_part

abbrev pub root : List Row → Plain → Plain
root here below = node here (part price below no_part) no_half no_half

abbrev pub tree : Plain
tree = root (any ∷ []) (prices (middle_price ∷ []) sales (least_price ∷ []) (high_price ∷ []))

lies : rows_lie schema tree ≡ true
lies = refl

placed : is_placed schema tree ≡ true
placed = refl

drawn : is_drawn schema tree ≡ true
drawn = refl

pruned : is_pruned schema tree ≡ true
pruned = refl

settled : is_settled schema tree ≡ true
settled = refl

contained : map (λ (r : ℕ × Row). r.0) (contents tree) ≡ 2 ∷ 4 ∷ 5 ∷ 7 ∷ 9 ∷ []
contained = refl

contained_rows : rows_of (contents tree) ≡ high_price ∷ middle_price ∷ middle_sale ∷ any ∷ least_price ∷ []
contained_rows = refl

looked_up : row_at 5 (contents tree) ≡ Some middle_sale
looked_up = refl

not_there : row_at 6 (contents tree) ≡ None
not_there = refl

-- paths, and the ranges at their ends
at_the_side : walk (Part price ∷ Part side ∷ []) tree ≡ Some (leaf (middle_sale ∷ []))
at_the_side = refl

at_no_part : walk (Part side ∷ []) tree ≡ None
at_no_part = refl

range_of_root : range_at schema [] tree ≡ None
range_of_root = refl

range_of_part : range_at schema (Part price ∷ []) tree ≡ Some (price, pos 0, pos 3)
range_of_part = refl

range_of_low : range_at schema (Part price ∷ Low ∷ []) tree ≡ Some (price, pos 0, pos 1)
range_of_low = refl

range_of_high : range_at schema (Part price ∷ High ∷ []) tree ≡ Some (price, pos 2, pos 3)
range_of_high = refl

range_of_side : range_at schema (Part price ∷ Part side ∷ []) tree ≡ Some (side, pos 0, pos 1)
range_of_side = refl

range_of_none : range_at schema (Part price ∷ Low ∷ Low ∷ []) tree ≡ None
range_of_none = refl

-- searches: of the root alone, of the part and the low half, and of the side too
abbrev pub nothing_given : Assignments
nothing_given = []

abbrev pub one_price : Assignments
one_price = (price, pos 1 ∷ []) ∷ []

abbrev pub one_sale : Assignments
one_sale = (price, pos 1 ∷ []) ∷ (side, pos 0 ∷ []) ∷ []

-- values in both halves
abbrev pub two_prices : Assignments
two_prices = (price, pos 0 ∷ pos 3 ∷ []) ∷ []

visits_of_none : visits schema nothing_given tree ≡ 1
visits_of_none = refl

tests_of_none : tested schema nothing_given tree ≡ 1
tests_of_none = refl

visits_of_price : visits schema one_price tree ≡ 3
visits_of_price = refl

tests_of_price : tested schema one_price tree ≡ 3
tests_of_price = refl

visits_of_sale : visits schema one_sale tree ≡ 4
visits_of_sale = refl

tests_of_sale : tested schema one_sale tree ≡ 4
tests_of_sale = refl

visits_of_two : visits schema two_prices tree ≡ 4
visits_of_two = refl

tests_of_two : tested schema two_prices tree ≡ 4
tests_of_two = refl

found_by_two : map id_of (satisfied two_prices (rows_of (contents tree))) ≡ 2 ∷ 7 ∷ 9 ∷ []
found_by_two = refl

found_by_price : map id_of (satisfied one_price (rows_of (contents tree))) ≡ 4 ∷ 7 ∷ []
found_by_price = refl

found_by_sale : map id_of (satisfied one_sale (rows_of (contents tree))) ≡ 4 ∷ 5 ∷ 7 ∷ []
found_by_sale = refl

-- trees that aren't placed: a row without the part's attribute, a row outside its range, an attribute used twice,
-- halves of the root, halves of one value, parts that don't rise, an id that stands twice
row_without_attribute : is_placed schema (root [] (leaf (any ∷ []))) ≡ false
row_without_attribute = refl

row_outside_range : is_placed schema (root [] (prices [] no_part (high_price ∷ []) (high_price ∷ []))) ≡ false
row_outside_range = refl

attribute_used_twice : is_placed schema (root [] (root [] (leaf (least_price ∷ [])))) ≡ false
attribute_used_twice = refl

halves_of_the_root : is_placed schema (node [] no_part (half (leaf (least_price ∷ []))) no_half) ≡ false
halves_of_the_root = refl

halves_of_one_value : is_placed schema (root [] (node [] no_part (half (node [] no_part (half (node [] no_part (half (leaf (least_price ∷ []))) no_half)) no_half)) no_half)) ≡ false
halves_of_one_value = refl

parts_not_rising : is_placed schema (node [] (part side (leaf (middle_sale ∷ [])) (part price (leaf (least_price ∷ [])) no_part)) no_half no_half) ≡ false
parts_not_rising = refl

id_twice : is_placed schema (root (row 9 [] ∷ []) (leaf (least_price ∷ []))) ≡ false
id_twice = refl

-- trees that aren't drawn: a row of a part's attribute above the part, a row of a half above the half
row_above_its_part : is_drawn schema (root (least_price ∷ []) (leaf (high_price ∷ []))) ≡ false
row_above_its_part = refl

row_above_its_half : is_drawn schema (root [] (node (least_price ∷ []) no_part (half (leaf (row 1 (on price (Eq (pos 1)) ∷ []) ∷ []))) no_half)) ≡ false
row_above_its_half = refl

-- trees that aren't pruned: an empty part, an empty half
empty_part : is_pruned schema (root (any ∷ []) (leaf [])) ≡ false
empty_part = refl

empty_half : is_pruned schema (root [] (prices [] no_part (least_price ∷ []) [])) ≡ false
empty_half = refl

-- 16 rows may stand anywhere, 17 only where all are stuck
abbrev pub four : Row → List Row
four x = x ∷ x ∷ x ∷ x ∷ []

abbrev pub sixteen : Row → List Row
sixteen x = four x ++ four x ++ four x ++ four x

sixteen_rows : is_settled schema (leaf (sixteen least_price)) ≡ true
sixteen_rows = refl

a_part_is_due : is_settled schema (leaf (least_price ∷ sixteen least_price)) ≡ false
a_part_is_due = refl

a_half_is_due : is_settled schema (root [] (leaf (least_price ∷ sixteen least_price))) ≡ false
a_half_is_due = refl

stuck_at_the_root : is_settled schema (leaf (any ∷ sixteen any)) ≡ true
stuck_at_the_root = refl

stuck_between_halves : is_settled schema (root [] (leaf (middle_price ∷ sixteen middle_price))) ≡ true
stuck_between_halves = refl

one_not_stuck : is_settled schema (root [] (leaf (least_price ∷ sixteen middle_price))) ≡ false
one_not_stuck = refl

-- a row that doesn't lie in the schema, an id that is too great
row_outside_schema : rows_lie schema (leaf (row 1 (on price (Eq (pos 4)) ∷ []) ∷ [])) ≡ false
row_outside_schema = refl

id_too_great : rows_lie schema (leaf (row 281474976710656 [] ∷ [])) ≡ false
id_too_great = refl
