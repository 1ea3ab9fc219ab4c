-- What a place of a leaf tells of its row without a look at the row: at most three tests, and how much of the row these are.
use Rattle.std.specs.Prelude.{ℕ, ℤ, pos, negsuc, ◌+ℤ◌, ◌-ℤ◌, ◌&&◌, ◌||◌, Bool, true, false, ◌==◌, ◌+◌, List, [], ◌∷◌, ◌++◌, length, nat_le, Option, Some, None, option_map, option_and_then, int_lt, int_le, if◌then◌else◌}
use Rattle.std.specs.List.{list_any, list_all}
use Rattle.std.specs.Option.{is_some}
use Rattle.std.specs.Ordering.{int_eq}
use Rattle.std.specs.Int.{int_max, int_min}
use Rattle.be_base.specs.declared.names.AttrNo.{AttrNo}
use Rattle.be_model.specs.declared.ops.Op.{Op}
use Rattle.be_model.specs.declared.ops.Op.TheVariants.{Lt, Le, Eq, Ne, Ge, Gt, Between, OneOf, NoneOf}
use Rattle.be_model.specs.declared.preds.Pred.{Pred}
use Rattle.be_model.specs.Domains.{Range}
use Rattle.be_model.specs.Hulls.{first_of_values, last_of_values, is_on}
use Rattle.be_model.specs.Matching.{Assignments, values_of}
use Rattle.be_shape.specs.declared.glances.Bounds.{Bounds}
use Rattle.be_shape.specs.declared.glances.Extent.{Extent}
use Rattle.be_shape.specs.declared.glances.Extent.TheVariants.{Whole, Few, Part}
use Rattle.be_shape.specs.declared.widths.Narrowest.{Narrowest}
use Rattle.be_shape.specs.Widths.{width_of, width, first_three, with_width, has_place}

-- the least number of 32 bits and the last but one, which stand for no bound. The last stands for no value
abbrev pub least : ℤ
least = negsuc 2147483647

abbrev pub greatest : ℤ
greatest = pos 2147483646

abbrev pub is_in : ℤ × ℤ → ℤ → Bool
is_in ends v = (int_eq ends.0 least || int_le ends.0 v) && (int_eq ends.1 greatest || int_le v ends.1)

-- one of the values that an event gives an attribute is between the ends
abbrev pub has_in : ℤ × ℤ → Option (List ℤ) → Bool
has_in ends None = false
has_in ends (Some vs) = list_any (is_in ends) vs

-- the number, where it is strictly between the least and the greatest
abbrev pub small : ℤ → Option ℤ
small v = if int_lt least v && int_lt v greatest then Some v else None

abbrev pub bounds : ℤ → ℤ → Bool → Bounds
bounds low high exact = record { ends = (low, high); exact = exact }

-- ends beyond which the comparison holds of nothing, and whether it holds of all between them
abbrev pub bounds_of : Op → Option Bounds
bounds_of (Lt x) = option_map (λ v. bounds least (v -ℤ pos 1) true) (small x)
bounds_of (Le x) = option_map (λ v. bounds least v true) (small x)
bounds_of (Eq x) = option_map (λ v. bounds v v true) (small x)
bounds_of (Ne x) = Some (bounds least greatest false)
bounds_of (Ge x) = option_map (λ v. bounds v greatest true) (small x)
bounds_of (Gt x) = option_map (λ v. bounds (v +ℤ pos 1) greatest true) (small x)
bounds_of (Between x y) = option_and_then (λ v. option_map (λ w. bounds v w (int_le v w)) (small y)) (small x)
bounds_of (OneOf xs) = option_and_then (λ v. option_map (λ w. bounds v w false) (small (last_of_values xs))) (small (first_of_values xs))
bounds_of (NoneOf xs) = Some (bounds least greatest false)

-- a test: an attribute, and ends between which it is to have a value
abbrev pub Test : Type 0
Test = AttrNo × (ℤ × ℤ)

abbrev pub passes : Assignments → Test → Bool
passes e t = has_in t.1 (values_of e t.0)

-- the event passes the tests
abbrev pub may_meet : Assignments → List Test → Bool
may_meet e tests = list_all (passes e) tests

-- the ends of the test on an attribute
abbrev pub test_on : AttrNo → List Test → Option (ℤ × ℤ)
test_on a [] = None
test_on a (t ∷ ts) = if t.0.0 == a.0 then Some t.1 else test_on a ts

-- an event that passes the tests satisfies the condition
abbrev pub is_whole : Extent → Bool
is_whole Whole = true
is_whole Few = false
is_whole Part = false

-- there may be attributes of the condition with no test
abbrev pub is_part : Extent → Bool
is_part Whole = false
is_part Few = false
is_part Part = true

-- tests, and how much of a condition they are
pub record Glance : Type 0 where
  pub tests : List Test
  pub extent : Extent

abbrev pub glance : List Test → Extent → Glance
glance tests extent = record { tests = tests; extent = extent }

-- with the same tests and this extent. Where there may be attributes with no test, that stays so
abbrev pub with_extent : Extent → Glance → Glance
with_extent x g = if is_part g.extent then g else glance g.tests x

-- with a test more, or where there is no room for it, of this extent
abbrev pub with_test : Extent → AttrNo → Bounds → Glance → Glance
with_test x a b g =
    if nat_le 256 a.0 || nat_le 3 (length g.tests) then with_extent x g
    else glance (g.tests ++ (a, b.ends) ∷ []) (if b.exact || is_part g.extent then g.extent else Few)

abbrev pub with_bounds : Extent → AttrNo → Option Bounds → Glance → Glance
with_bounds x a None g = with_extent x g
with_bounds x a (Some b) g = with_test x a b g

-- the bounds of a predicate whose attribute none before it has
abbrev pub new_bounds : List Pred → Pred → Option Bounds
new_bounds before p = if list_any (is_on p.attr) before then None else bounds_of p.op

-- the same, of one of the three narrowest alone
abbrev pub narrow_bounds : Narrowest → List Pred → Pred → Option Bounds
narrow_bounds t before p = if has_place (length before) t then new_bounds before p else None

-- the ends refuse no value
abbrev pub are_widest : ℤ × ℤ → Bool
are_widest ends = int_eq ends.0 least && int_eq ends.1 greatest

-- bounds that refuse some value
abbrev pub refusing : Option Bounds → Option Bounds
refusing None = None
refusing (Some b) = if are_widest b.ends then None else Some b

-- the bounds of a predicate on an attribute that has a test. Where many are still to come, it leaves the room to others
abbrev pub further_bounds : Bool → Pred → Option Bounds
further_bounds few p = if few then refusing (bounds_of p.op) else None

-- with a predicate more, behind these. The first on an attribute gives a test where it is one of the narrowest and there is room, and a
-- further one only where the first did. Where the first gave none, others on its attribute give none, but those on other attributes may
abbrev pub with_pred : Narrowest → Bool → List Pred → Pred → Glance → Glance
with_pred t few before p g =
    if is_some (test_on p.attr g.tests) then with_bounds Few p.attr (further_bounds few p) g
    else with_bounds Part p.attr (narrow_bounds t before p) g

-- few are still to come where there is room for a test of each
abbrev pub with_preds : Narrowest → List Pred → List Pred → Glance → Glance
with_preds t before [] g = g
with_preds t before (p ∷ ps) g = with_preds t (before ++ p ∷ []) ps (with_pred t (nat_le (length g.tests + length (p ∷ ps)) 3) before p g)

-- with the width of the bounds, where there are any
abbrev pub with_width_of : Option Bounds → ℕ → Narrowest → Narrowest
with_width_of None at t = t
with_width_of (Some b) at t = with_width (width (width_of b.ends) at) t

-- with those of the first predicates on attributes
abbrev pub with_widths : List Pred → List Pred → Narrowest → Narrowest
with_widths before [] t = t
with_widths before (p ∷ ps) t = with_widths (before ++ p ∷ []) ps (with_width_of (new_bounds before p) (length before) t)

-- of more than three predicates the three narrowest that are the first on their attributes, so that the widest tests are left out. By
-- any others a glance would be as true
abbrev pub narrowest_of : List Pred → Narrowest
narrowest_of conj = if nat_le (length conj) 3 then first_three else with_widths [] conj first_three

-- what is told of a condition
abbrev pub glance_of : List Pred → Glance
glance_of conj = with_preds (narrowest_of conj) [] conj (glance [] Whole)

-- the hull that a test stands for, over a domain
abbrev pub hull_low : Range → ℤ → ℤ
hull_low d low = if int_eq low least then d.0 else int_min d.1 low

abbrev pub hull_high : Range → ℤ → ℤ
hull_high d high = if int_eq high greatest then d.1 else high

abbrev pub hull_in : Range → ℤ × ℤ → Range
hull_in d ends = (hull_low d ends.0, int_max (hull_low d ends.0) (hull_high d ends.1))
