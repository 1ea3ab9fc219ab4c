-- What lies in a schema.
use Rattle.std.specs.Prelude.{ℤ, Bool, true, false, List, [], ◌∷◌, Option, Some, None}
use Rattle.std.specs.List.{list_all}
use Rattle.be_base.specs.declared.names.AttrNo.{AttrNo}
use Rattle.be_model.specs.declared.ops.Op.{Op}
use Rattle.be_model.specs.declared.ops.Op.TheVariants.{Lt, Le, Eq, Ne, Ge, Gt, Between, OneOf, NoneOf}
use Rattle.be_model.specs.declared.preds.Pred.{Pred}
use Rattle.be_model.specs.declared.changes.Row.{Row}
use Rattle.be_model.specs.Entries.{Entry, subscribed, unsubscribed, left}
use Rattle.be_model.specs.Domains.{Range, is_within}
use Rattle.be_model.specs.Schemas.{Attributes, range_of}
use Rattle.be_model.specs.Matching.{Assignments}

-- the values that a comparison names
abbrev pub values_in : Op → List ℤ
values_in (Lt x) = x ∷ []
values_in (Le x) = x ∷ []
values_in (Eq x) = x ∷ []
values_in (Ne x) = x ∷ []
values_in (Ge x) = x ∷ []
values_in (Gt x) = x ∷ []
values_in (Between x y) = x ∷ y ∷ []
values_in (OneOf xs) = xs
values_in (NoneOf xs) = xs

abbrev pub lies_within : Range → List ℤ → Bool
lies_within r vs = list_all (is_within r) vs

-- there is a range, and the values are in it
abbrev pub lies_in : Option Range → List ℤ → Bool
lies_in None vs = false
lies_in (Some r) vs = lies_within r vs

-- the schema has the attribute, and each value is in its domain
abbrev pub pred_lies : Attributes → Pred → Bool
pred_lies s p = lies_in (range_of s p.attr) (values_in p.op)

abbrev pub conj_lies : Attributes → List Pred → Bool
conj_lies s conj = list_all (pred_lies s) conj

abbrev pub item_lies : Attributes → AttrNo × List ℤ → Bool
item_lies s item = lies_in (range_of s item.0) item.1

-- the schema has the event's attributes, and their values are in their domains
abbrev pub event_lies : Attributes → Assignments → Bool
event_lies s e = list_all (item_lies s) e

abbrev pub row_lies : Attributes → Row → Bool
row_lies s row = conj_lies s row.conj

-- what a change adds lies in the schema
abbrev pub entry_lies : Attributes → Entry → Bool
entry_lies s (subscribed k n row) = row_lies s row
entry_lies s (unsubscribed k n name) = true
entry_lies s (left k n) = true
