-- What layers above cite: attributes that a schema has, values of an event, predicates on one attribute.
use Rattle.std.proofs.Common.{◌≡◌, ℤ, pos, negsuc, ◌≤ℤ◌, ◌<◌, Bool, true, false, eqb, cond, List, [], ◌∷◌, length, All, Option, Some, None, option_map, refl, ap, subst}
use Rattle.std.proofs.lemmas.Bool.{eqb-true}
use Rattle.std.proofs.lemmas.Option.{slice_get_within}
use Rattle.std.proofs.lemmas.List.Elements.{All-head, All-tail}
use Rattle.std.proofs.lemmas.List.Sums.{AllPass-from_list_all}
use Rattle.be_base.specs.declared.names.AttrNo.{AttrNo}
use Rattle.be_model.specs.declared.preds.Pred.{Pred}
use Rattle.be_model.specs.declared.schemas.Attribute.{Attribute}
use Rattle.be_model.specs.Domains.{Range, bounds_of}
use Rattle.be_model.specs.Schemas.{Attributes, IsSchema, attribute_at, range_of, numbered, is_domain}
use Rattle.be_model.specs.Matching.{Assignments, values_of}
use Rattle.be_model.specs.Lies.{values_in, lies_within, lies_in, pred_lies, item_lies, event_lies}
use Rattle.be_model.proofs.Attributes.{all_at, rising_bounds, low_bounds, high_bounds}

-- the attribute that a range is of
pub attribute_of_range : (s : Attributes) (a : AttrNo) (r : Range) → range_of s a ≡ Some r → (x : Attribute) × (attribute_at s a ≡ Some x) × (bounds_of x.domain ≡ r)
attribute_of_range s a r h = by_option (attribute_at s a) refl h
  where
    by_option : (o : Option Attribute) → attribute_at s a ≡ o → option_map (λ (x : Attribute). bounds_of x.domain) o ≡ Some r → (x : Attribute) × (attribute_at s a ≡ Some x) × (bounds_of x.domain ≡ r)
    by_option None e k = absurd (cc)
    by_option (Some x) e k = (x, e, cc)

-- the schema has an attribute that has a range
pub range_below : (s : Attributes) (a : AttrNo) (r : Range) → range_of s a ≡ Some r → a.0 < length s
range_below s a r h = let x = attribute_of_range s a r h in slice_get_within s a.0 x.0 x.1

-- the range of an attribute isn't empty, and 32 bits hold it
pub record IsSound (r : Range) : Type 0 where
  pub rising : r.0 ≤ℤ r.1
  pub low : negsuc 2147483647 ≤ℤ r.0
  pub high : r.1 ≤ℤ pos 2147483647

pub range_sound : (s : Attributes) (a : AttrNo) (r : Range) → IsSchema s → range_of s a ≡ Some r → IsSound r
range_sound s a r f h =
    let x = attribute_of_range s a r h in
    let valid : is_domain x.0.domain ≡ true = all_at (λ (y : Attribute). is_domain y.domain) s a.0 x.0 f.domains x.1 in
    subst IsSound x.2 (record { rising = rising_bounds x.0.domain valid; low = low_bounds x.0.domain valid; high = high_bounds x.0.domain valid })

-- a predicate that lies in a schema is on an attribute with a range, in which its values are
pub range_of_pred : (s : Attributes) (p : Pred) → pred_lies s p ≡ true → (r : Range) × (range_of s p.attr ≡ Some r) × (lies_within r (values_in p.op) ≡ true)
range_of_pred s p h = by_option (range_of s p.attr) refl h
  where
    by_option : (o : Option Range) → range_of s p.attr ≡ o → lies_in o (values_in p.op) ≡ true → (r : Range) × (range_of s p.attr ≡ Some r) × (lies_within r (values_in p.op) ≡ true)
    by_option None e k = absurd (cc)
    by_option (Some r) e k = (r, e, k)

pub same_attribute : (a b : AttrNo) → eqb a.0 b.0 ≡ true → a ≡ b
same_attribute a b h = ap numbered (eqb-true a.0 b.0 h)

-- the values of an attribute have what all sets of the event have
values_step : (P : AttrNo → List ℤ → Type 0) (item : AttrNo × List ℤ) (a : AttrNo) (vs : List ℤ) (o : Option (List ℤ)) (b : Bool) → eqb item.0.0 a.0 ≡ b → P item.0 item.1 → (o ≡ Some vs → P a vs)
    → cond b (Some item.1) o ≡ Some vs → P a vs
values_step P item a vs o true e here later k =
    let same : item.1 ≡ vs = cc in
    subst (λ b. P b vs) (same_attribute item.0 a e) (subst (P item.0) same here)
values_step P item a vs o false e here later k = later k

values_have : (P : AttrNo → List ℤ → Type 0) (e : Assignments) (a : AttrNo) (vs : List ℤ) → All (λ (item : AttrNo × List ℤ). P item.0 item.1) e → values_of e a ≡ Some vs → P a vs
values_have P [] a vs h k = absurd (cc)
values_have P (item ∷ items) a vs h k =
    let of_item = λ (i : AttrNo × List ℤ). P i.0 i.1 in
    values_step P item a vs (values_of items a) (eqb item.0.0 a.0) refl (All-head of_item item items h) (values_have P items a vs (All-tail of_item item items h)) k

-- the schema has the attributes to which an event that lies in it gives values, and the values are in their ranges
pub range_of_values : (s : Attributes) (e : Assignments) (a : AttrNo) (vs : List ℤ) → event_lies s e ≡ true → values_of e a ≡ Some vs
    → (r : Range) × (range_of s a ≡ Some r) × (lies_within r vs ≡ true)
range_of_values s e a vs h k =
    by_range (range_of s a) refl (values_have (λ b ws. lies_in (range_of s b) ws ≡ true) e a vs (AllPass-from_list_all (item_lies s) e h) k)
  where
    by_range : (o : Option Range) → range_of s a ≡ o → lies_in o vs ≡ true → (r : Range) × (range_of s a ≡ Some r) × (lies_within r vs ≡ true)
    by_range None e l = absurd (cc)
    by_range (Some r) e l = (r, e, l)
