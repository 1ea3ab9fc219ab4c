-- Worked values of the definitions.
use Rattle.std.proofs.Common.{◌≡◌, ℕ, zero, suc, ℤ, pos, negsuc, ◌+ℤ◌, true, false, List, [], ◌∷◌, Some, None, refl}
use Rattle.be_model.specs.declared.ops.Op.{Op}
use Rattle.be_model.specs.declared.ops.Op.TheVariants.{Lt, Le, Eq, Ne, Ge, Gt, Between, OneOf, NoneOf}
use Rattle.be_model.specs.declared.preds.Pred.{Pred}
use Rattle.be_base.specs.declared.names.AttrNo.{AttrNo}
use Rattle.be_model.specs.Domains.{Range, is_some_within, bits, width, low_half, high_half}
use Rattle.be_model.specs.Forms.{is_values}
use Rattle.be_model.specs.Schemas.{numbered}
use Rattle.be_model.specs.Matching.{Assignments, holds, meets, satisfies}
use Rattle.be_model.specs.Hulls.{hull, span}

abbrev prices : Range
prices = (pos 0, pos 1000)

abbrev quantities : Range
quantities = (negsuc 4, pos 5)

less_than : hull prices (Lt (pos 10)) ≡ (pos 0, pos 9)
less_than = refl

less_than_all : hull prices (Lt (pos 0)) ≡ (pos 0, pos 0)
less_than_all = refl

at_most : hull prices (Le (pos 10)) ≡ (pos 0, pos 10)
at_most = refl

equal_to : hull quantities (Eq (negsuc 4)) ≡ (negsuc 4, negsuc 4)
equal_to = refl

other_than : hull quantities (Ne (negsuc 4)) ≡ quantities
other_than = refl

at_least : hull prices (Ge (pos 10)) ≡ (pos 10, pos 1000)
at_least = refl

more_than : hull prices (Gt (pos 10)) ≡ (pos 11, pos 1000)
more_than = refl

more_than_all : hull prices (Gt (pos 1000)) ≡ (pos 1000, pos 1000)
more_than_all = refl

turned : hull quantities (Between (pos 3) (negsuc 2)) ≡ (pos 3, pos 3)
turned = refl

one_of : hull prices (OneOf (pos 2 ∷ pos 5 ∷ pos 9 ∷ [])) ≡ (pos 2, pos 9)
one_of = refl

none_of : hull prices (NoneOf (pos 2 ∷ [])) ≡ prices
none_of = refl

turned_holds_of_nothing : holds (Between (pos 3) (negsuc 2)) (pos 0) ≡ false
turned_holds_of_nothing = refl

other_than_itself : holds (Ne (negsuc 4)) (negsuc 4) ≡ false
other_than_itself = refl

abbrev price : AttrNo
price = numbered 0

abbrev quantity : AttrNo
quantity = numbered 1

abbrev on : AttrNo → Op → Pred
on a op = record { attr = a; op = op }

-- the span is the hull of the first predicate on the attribute, whatever the others are
first_is_less : span prices price (on price (Lt (pos 5)) ∷ on price (Gt (pos 900)) ∷ []) ≡ Some (pos 0, pos 4)
first_is_less = refl

first_is_more : span prices price (on price (Gt (pos 900)) ∷ on price (Lt (pos 5)) ∷ []) ≡ Some (pos 901, pos 1000)
first_is_more = refl

first_is_unequal : span prices price (on price (Ne (pos 5)) ∷ on price (Eq (pos 7)) ∷ []) ≡ Some prices
first_is_unequal = refl

first_is_equal : span prices price (on price (Eq (pos 7)) ∷ on price (Ne (pos 5)) ∷ []) ≡ Some (pos 7, pos 7)
first_is_equal = refl

first_is_a_set : span prices price (on price (OneOf (pos 2 ∷ pos 9 ∷ [])) ∷ on price (Le (pos 4)) ∷ []) ≡ Some (pos 2, pos 9)
first_is_a_set = refl

first_is_no_set : span quantities quantity (on quantity (NoneOf (pos 2 ∷ [])) ∷ on quantity (Ge (pos 3)) ∷ []) ≡ Some quantities
first_is_no_set = refl

first_is_turned : span quantities quantity (on quantity (Between (pos 3) (negsuc 2)) ∷ []) ≡ Some (pos 3, pos 3)
first_is_turned = refl

first_on_the_attribute : span quantities quantity (on price (Lt (pos 5)) ∷ on quantity (Le (pos 1)) ∷ on quantity (Eq (pos 5)) ∷ []) ≡ Some (negsuc 4, pos 1)
first_on_the_attribute = refl

off_the_attribute : span quantities quantity (on price (Gt (pos 500)) ∷ []) ≡ None
off_the_attribute = refl

of_no_predicate : span prices price [] ≡ None
of_no_predicate = refl

not_assigned : satisfies [] (on price (Ne (pos 5)) ∷ []) ≡ false
not_assigned = refl

-- below 5 and above 900: no one value is both, and a set may have one of each
abbrev far_apart : List Pred
far_apart = on price (Lt (pos 5)) ∷ on price (Gt (pos 900)) ∷ []

abbrev priced : List ℤ → Assignments
priced vs = (price, vs) ∷ []

by_two_values : satisfies (priced (pos 3 ∷ pos 950 ∷ [])) far_apart ≡ true
by_two_values = refl

by_one_value : satisfies (priced (pos 3 ∷ [])) far_apart ≡ false
by_one_value = refl

by_neither_value : satisfies (priced (pos 5 ∷ pos 900 ∷ [])) far_apart ≡ false
by_neither_value = refl

-- the span holds one of the two values, and what both hulls have in common would hold neither
held_by_the_span : is_some_within (pos 0, pos 4) (pos 3 ∷ pos 950 ∷ []) ≡ true
held_by_the_span = refl

not_in_common : is_some_within (pos 901, pos 901) (pos 3 ∷ pos 950 ∷ []) ≡ false
not_in_common = refl

unequal_to_one : meets (Ne (pos 5)) (pos 5 ∷ pos 6 ∷ []) ≡ true
unequal_to_one = refl

unequal_to_none : meets (Ne (pos 5)) (pos 5 ∷ []) ≡ false
unequal_to_none = refl

-- a set has at most 64 values
abbrev rising_from : ℤ → ℕ → List ℤ
rising_from v zero = []
rising_from v (suc n) = v ∷ rising_from (v +ℤ pos 1) n

full_set : is_values (rising_from (negsuc 0) 64) ≡ true
full_set = refl

too_large_a_set : is_values (rising_from (negsuc 0) 65) ≡ false
too_large_a_set = refl

empty_set : is_values [] ≡ false
empty_set = refl

doubled_value : is_values (pos 5 ∷ pos 5 ∷ []) ≡ false
doubled_value = refl

halvings_of_prices : bits (width prices) ≡ 10
unfolding bits
halvings_of_prices = refl

halvings_of_one : bits 1 ≡ 0
unfolding bits
halvings_of_one = refl

low_prices : low_half prices ≡ (pos 0, pos 500)
low_prices = refl

high_prices : high_half prices ≡ (pos 501, pos 1000)
high_prices = refl

low_quantities : low_half quantities ≡ (negsuc 4, pos 0)
low_quantities = refl

high_quantities : high_half quantities ≡ (pos 1, pos 5)
high_quantities = refl
