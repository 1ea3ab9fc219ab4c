-- The hull of a predicate and the span of a conjunction: ranges of values that a search need look at.
use Rattle.std.specs.Prelude.{ℤ, pos, ◌+ℤ◌, ◌-ℤ◌, ◌-◌, ◌==◌, Bool, List, length, find, get_or, Option, option_map, option_and_then}
use Rattle.std.specs.Int.{int_max, int_min}
use Rattle.be_base.specs.declared.names.AttrNo.{AttrNo}
use Rattle.be_model.specs.declared.ops.Op.{Op}
use Rattle.be_model.specs.declared.ops.Op.TheVariants.{Lt, Le, Eq, Ne, Ge, Gt, Between, OneOf, NoneOf}
use Rattle.be_model.specs.declared.preds.Pred.{Pred}
use Rattle.be_model.specs.Domains.{Range}
use Rattle.be_model.specs.Schemas.{Attributes, range_of}

abbrev pub first_of_values : List ℤ → ℤ
first_of_values xs = get_or xs 0 (pos 0)

abbrev pub last_of_values : List ℤ → ℤ
last_of_values xs = get_or xs (length xs - 1) (pos 0)

-- the hull of a comparison over a domain. A set rises, so its first value is the least
abbrev pub hull : Range → Op → Range
hull d (Lt x) = (d.0, int_max d.0 (x -ℤ pos 1))
hull d (Le x) = (d.0, x)
hull d (Eq x) = (x, x)
hull d (Ne x) = d
hull d (Ge x) = (x, d.1)
hull d (Gt x) = (int_min d.1 (x +ℤ pos 1), d.1)
hull d (Between x y) = (x, int_max x y)
hull d (OneOf xs) = (first_of_values xs, last_of_values xs)
hull d (NoneOf xs) = d

abbrev pub is_on : AttrNo → Pred → Bool
is_on a p = p.attr.0 == a.0

-- the span of a conjunction on an attribute of this domain: the hull of its first predicate there.
-- It can't be what all hulls have in common, since two predicates may be met by two values of a set
abbrev pub span : Range → AttrNo → List Pred → Option Range
span d a conj = option_map (λ (p : Pred). hull d p.op) (find (is_on a) conj)

-- the span on an attribute that the schema has
abbrev pub span_in : Attributes → AttrNo → List Pred → Option Range
span_in s a conj = option_and_then (λ d. span d a conj) (range_of s a)
