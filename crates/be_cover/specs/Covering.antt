-- When a condition is covered by another one, and the event that shows that it isn't.
use Rattle.std.specs.Prelude.{◌≡◌, ℤ, ◌==◌, ◌&&◌, ◌||◌, not, Bool, true, false, List, [], ◌∷◌, map, find, length, Option, Some, None, is_some, is_none, option_map, if◌then◌else◌}
use Rattle.std.specs.List.{list_any, list_all, filter_map, range_with_len}
use Rattle.be_base.specs.declared.names.AttrNo.{AttrNo}
use Rattle.be_model.specs.declared.preds.Pred.{Pred}
use Rattle.be_model.specs.Domains.{Range, is_within}
use Rattle.be_model.specs.Schemas.{Attributes, numbered, range_of}
use Rattle.be_model.specs.Forms.{IsEvent}
use Rattle.be_model.specs.Hulls.{is_on}
use Rattle.be_model.specs.Lies.{event_lies}
use Rattle.be_model.specs.Matching.{Assignments, holds, satisfies}
use Rattle.be_cover.specs.Ranges.{least_in}

-- each attribute has one value
abbrev pub is_single : Assignments → Bool
is_single e = list_all (λ (item : AttrNo × List ℤ). length item.1 == 1) e

-- an event of single values that lies in the schema
pub record IsSingleEvent (s : Attributes) (e : Assignments) : Type 0 where
  pub form : IsEvent e
  pub single : is_single e ≡ true
  pub lies : event_lies s e ≡ true

-- q is covered by r: each event of single values that satisfies q satisfies r
abbrev pub IsCovered : Attributes → List Pred → List Pred → Type 0
IsCovered s q r = (e : Assignments) → IsSingleEvent s e → satisfies e q ≡ true → satisfies e r ≡ true

-- the event shows that q isn't covered by r
pub record IsApart (s : Attributes) (q r : List Pred) (e : Assignments) : Type 0 where
  pub single : IsSingleEvent s e
  pub first : satisfies e q ≡ true
  pub other : satisfies e r ≡ false

-- every predicate on the attribute holds of the value
abbrev pub hold_on : AttrNo → List Pred → ℤ → Bool
hold_on a c v = list_all (λ (p : Pred). not (is_on a p) || holds p.op v) c

abbrev pub is_value : Option Range → ℤ → Bool
is_value None v = false
is_value (Some r) v = is_within r v

-- the condition allows the value: it is in the attribute's domain, and every predicate on the attribute holds of it
abbrev pub allows : Attributes → List Pred → AttrNo → ℤ → Bool
allows s c a v = is_value (range_of s a) v && hold_on a c v

-- some predicate is on the attribute
abbrev pub has : List Pred → AttrNo → Bool
has c a = list_any (is_on a) c

-- the least value that the condition allows
abbrev pub least_allowed : Attributes → List Pred → AttrNo → Option ℤ
least_allowed s c a = least_in (allows s c a) (range_of s a)

-- the least value that q allows and r doesn't
abbrev pub least_apart : Attributes → List Pred → List Pred → AttrNo → Option ℤ
least_apart s q r a = least_in (λ v. allows s q a v && not (allows s r a v)) (range_of s a)

-- the attributes of a schema, rising
abbrev pub attributes : Attributes → List AttrNo
attributes s = map numbered (range_with_len 0 (length s))

-- the attribute is one of q, which allows none of its values
abbrev pub allows_none : Attributes → List Pred → AttrNo → Bool
allows_none s q a = has q a && is_none (least_allowed s q a)

-- the attribute is one of r, and isn't one of q or has a value that q allows and r doesn't
abbrev pub tells : Attributes → List Pred → List Pred → AttrNo → Bool
tells s q r a = has r a && (not (has q a) || is_some (least_apart s q r a))

-- the value that an attribute is given: the least one that q allows, but for the attribute that tells q and r apart
abbrev pub chosen : Attributes → List Pred → List Pred → AttrNo → AttrNo → Option ℤ
chosen s q r by a =
    if not (has q a) then None else (if a.0 == by.0 then least_apart s q r a else least_allowed s q a)

abbrev pub assigned : AttrNo → Option ℤ → Option (AttrNo × List ℤ)
assigned a v = option_map (λ (x : ℤ). (a, x ∷ [])) v

-- the event of these values
abbrev pub event_at : Attributes → List Pred → List Pred → AttrNo → Assignments
event_at s q r by = filter_map (λ a. assigned a (chosen s q r by a)) (attributes s)

-- the event that tells q and r apart by the first attribute that does. There is none where an attribute of q has no value
unfoldable pub apart_event : Attributes → List Pred → List Pred → Option Assignments
apart_event s q r =
    if list_any (allows_none s q) (attributes s) then None else option_map (event_at s q r) (find (tells s q r) (attributes s))
