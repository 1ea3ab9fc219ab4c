-- When a value and a set of values meet a comparison, and when an event satisfies a condition.
use Rattle.std.specs.Prelude.{ℤ, ◌==◌, ◌<◌, Bool, false, not, ◌&&◌, List, [], ◌∷◌, filter, map, length, Option, Some, None, int_lt, int_le, if◌then◌else◌}
use Rattle.std.specs.List.{list_any, list_all}
use Rattle.std.specs.Ordering.{int_eq}
use Rattle.std.specs.Option.{is_some}
use Rattle.be_base.specs.declared.names.AttrNo.{AttrNo}
use Rattle.be_model.specs.declared.ops.Op.{Op}
use Rattle.be_model.specs.declared.ops.Op.TheVariants.{Lt, Le, Eq, Ne, Ge, Gt, Between, OneOf, NoneOf}
use Rattle.be_model.specs.declared.preds.Pred.{Pred}
use Rattle.be_model.specs.declared.changes.Row.{Row}

-- an event, as the sets of values that it gives to attributes
abbrev pub Assignments : Type 0
Assignments = List (AttrNo × List ℤ)

-- the attributes that have values
abbrev pub attrs_of : Assignments → List AttrNo
attrs_of e = map (λ (item : AttrNo × List ℤ). item.0) e

abbrev pub is_among : List ℤ → ℤ → Bool
is_among xs v = list_any (λ x. int_eq x v) xs

-- at least one of the values is among the set's
abbrev pub has_some : List ℤ → List ℤ → Bool
has_some xs vs = list_any (is_among xs) vs

-- at least one of the values isn't
abbrev pub lacks_some : List ℤ → List ℤ → Bool
lacks_some xs vs = list_any (λ v. not (is_among xs v)) vs

-- whether the value meets the comparison
abbrev pub holds : Op → ℤ → Bool
holds (Lt x) v = int_lt v x
holds (Le x) v = int_le v x
holds (Eq x) v = int_eq v x
holds (Ne x) v = not (int_eq v x)
holds (Ge x) v = int_le x v
holds (Gt x) v = int_lt x v
holds (Between x y) v = int_le x v && int_le v y
holds (OneOf xs) v = is_among xs v
holds (NoneOf xs) v = not (is_among xs v)

-- whether at least one value of the set meets the comparison
abbrev pub meets : Op → List ℤ → Bool
meets op vs = list_any (holds op) vs

-- the set of values that an event gives to an attribute
abbrev pub values_of : Assignments → AttrNo → Option (List ℤ)
values_of [] a = None
values_of (item ∷ items) a = if item.0.0 == a.0 then Some item.1 else values_of items a

abbrev pub is_assigned : Assignments → AttrNo → Bool
is_assigned e a = is_some (values_of e a)

-- a comparison of an attribute without values isn't met
abbrev pub is_met : Option (List ℤ) → Op → Bool
is_met None op = false
is_met (Some vs) op = meets op vs

-- for every predicate the event gives its attribute a set, of which at least one value meets the comparison
abbrev pub satisfies : Assignments → List Pred → Bool
satisfies e conj = list_all (λ (p : Pred). is_met (values_of e p.attr) p.op) conj

-- the rows that the event satisfies
abbrev pub satisfied : Assignments → List Row → List Row
satisfied e rows = filter (λ (row : Row). satisfies e row.conj) rows

-- the event satisfies some of the rows
abbrev pub FindsSome : Assignments → List Row → Type 0
FindsSome e rows = 0 < length (satisfied e rows)
