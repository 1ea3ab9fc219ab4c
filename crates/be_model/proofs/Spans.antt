-- Spans: where there is one, and what it holds.
use Rattle.std.proofs.Common.{◌≡◌, ◌↔◌, inl, inr, ℤ, Bool, true, false, not, List, [], ◌∷◌, find, is_some, Option, Some, None, IsNone, IfSome, is_none, option_map, option_and_then, refl, sym, ap, ◌∙◌}
use Rattle.std.specs.List.{list_any, position}
use Rattle.std.proofs.lemmas.Bool.{and_parts, or_cases, or_left, or_right, or_from, not-true}
use Rattle.std.proofs.lemmas.List.Sums.{AllPass-from_list_all}
use Rattle.be_base.specs.declared.names.AttrNo.{AttrNo}
use Rattle.be_model.specs.declared.ops.Op.{Op}
use Rattle.be_model.specs.declared.preds.Pred.{Pred}
use Rattle.be_model.specs.Domains.{Range, is_within, is_some_within}
use Rattle.be_model.specs.Schemas.{Attributes, range_of}
use Rattle.be_model.specs.Forms.{OpForm}
use Rattle.be_model.specs.Hulls.{hull, is_on, span, span_in}
use Rattle.be_model.specs.Laws.{SpansHold, SpansLie, SpansAre, IsPart}
use Rattle.be_model.specs.Lies.{lies_in, lies_within, values_in, pred_lies, conj_lies}
use Rattle.be_model.specs.Matching.{Assignments, holds, meets, is_met, values_of, satisfies}
use Rattle.be_model.proofs.Lists.{position-none, list_all-not_any, is_some-find, found_passes, found_has}
use Rattle.be_model.proofs.Ranges.{hulls_hold, hulls_lie}
use Rattle.be_model.proofs.InSchema.{range_sound, range_of_values, same_attribute}

-- there is no span where no predicate is on the attribute
pub span_none : (d : Range) (a : AttrNo) (conj : List Pred) → is_none (span d a conj) ≡ not (list_any (is_on a) conj)
span_none d a conj = mapped (find (is_on a) conj) ∙ ap not (is_some-find (is_on a) conj)
  where
    mapped : (o : Option Pred) → is_none (option_map (λ (p : Pred). hull d p.op) o) ≡ not (is_some o)
    mapped None = refl
    mapped (Some p) = refl

pub IsNone-from : (r : Option Range) (b : Bool) → is_none r ≡ not b → (IsNone r ↔ (b ≡ false))
IsNone-from None true h = absurd (cc)
IsNone-from None false h = (λ _. refl, λ _. refl)
IsNone-from (Some r) true h = (λ n. absurd (cc), λ e. absurd (cc))
IsNone-from (Some r) false h = absurd (cc)

off : (s : Attributes) (a : AttrNo) (p : Pred) (b : Bool) → is_on a p ≡ b → pred_lies s p ≡ true → range_of s a ≡ None → b ≡ false
off s a p false e h k = refl
off s a p true e h k =
    let r : range_of s p.attr ≡ None = ap (range_of s) (same_attribute p.attr a e) ∙ k in
    let f : pred_lies s p ≡ false = ap (λ o. lies_in o (values_in p.op)) r in
    absurd (cc)

-- what lies in a schema has no predicate on an attribute that the schema hasn't
pub none_outside : (s : Attributes) (a : AttrNo) (conj : List Pred) → conj_lies s conj ≡ true → range_of s a ≡ None → list_any (is_on a) conj ≡ false
none_outside s a [] h k = refl
none_outside s a (p ∷ ps) h k =
    let both = and_parts (pred_lies s p) (conj_lies s ps) h in
    or_from (is_on a p) (list_any (is_on a) ps) (off s a p (is_on a p) refl both.0 k) (none_outside s a ps both.1 k)

span_of_range : (s : Attributes) (a : AttrNo) (conj : List Pred) (r : Option Range) → range_of s a ≡ r → conj_lies s conj ≡ true
    → (IsNone (option_and_then (λ d. span d a conj) r) ↔ (list_any (is_on a) conj ≡ false))
span_of_range s a conj None e h = (λ _. none_outside s a conj h e, λ _. refl)
span_of_range s a conj (Some d) e h = IsNone-from (span d a conj) (list_any (is_on a) conj) (span_none d a conj)

-- there is no span exactly where no predicate is on the attribute
pub spans_are : SpansAre
spans_are s a conj h = span_of_range s a conj (range_of s a) refl h

-- the span on an attribute is the hull of the first predicate there
pub span_is : (s : Attributes) (a : AttrNo) (conj : List Pred) (d : Range) (p : Pred) → range_of s a ≡ Some d → find (is_on a) conj ≡ Some p → span_in s a conj ≡ Some (hull d p.op)
span_is s a conj d p e f = ap (λ o. option_and_then (λ r. span r a conj) o) e ∙ ap (λ o. option_map (λ (q : Pred). hull d q.op) o) f

-- what `Conj::span` answers, from the first predicate on the attribute
pub pred_found : (s : Attributes) (a : AttrNo) (conj : List Pred) (p : Pred) → conj_lies s conj ≡ true → find (is_on a) conj ≡ Some p → pred_lies s p ≡ true
pred_found s a conj p lies first =
    found_has (λ (q : Pred). pred_lies s q ≡ true) (is_on a) conj p (AllPass-from_list_all (pred_lies s) conj lies) first

pub span_found : (s : Attributes) (a : AttrNo) (conj : List Pred) (p : Pred) (r : Range) → find (is_on a) conj ≡ Some p → option_map (λ d. hull d p.op) (range_of s p.attr) ≡ Some r
    → Some r ≡ span_in s a conj
span_found s a conj p r first h = by_range (range_of s a) refl
  where
    on : range_of s a ≡ range_of s p.attr
    on = ap (range_of s) (sym (same_attribute p.attr a (found_passes (is_on a) conj p first)))

    by_range : (o : Option Range) → range_of s a ≡ o → Some r ≡ span_in s a conj
    by_range None e = let none : None ≡ Some r = ap (option_map (λ d. hull d p.op)) (sym e ∙ on) ∙ h in absurd (cc)
    by_range (Some d) e =
        let some : Some (hull d p.op) ≡ Some r = ap (option_map (λ x. hull x p.op)) (sym e ∙ on) ∙ h in
        sym some ∙ sym (span_is s a conj d p e first)

pub some_on : (a : AttrNo) (conj : List Pred) (p : Pred) → find (is_on a) conj ≡ Some p → list_any (is_on a) conj ≡ true
some_on a conj p first = sym (is_some-find (is_on a) conj) ∙ ap is_some first

pub none_on : (a : AttrNo) (conj : List Pred) → find (is_on a) conj ≡ None → list_any (is_on a) conj ≡ false
none_on a conj first = sym (is_some-find (is_on a) conj) ∙ ap is_some first

-- where a set of values of the range meets a comparison, the hull of the comparison holds one of them
met_within : (d : Range) (op : Op) (vs : List ℤ) → OpForm op → lies_within d vs ≡ true → meets op vs ≡ true → is_some_within (hull d op) vs ≡ true
met_within d op [] f l m = absurd (cc)
met_within d op (v ∷ vs) f l m =
    let in_range = and_parts (is_within d v) (lies_within d vs) l in
    elim (or_cases (holds op v) (meets op vs) m) [
      | inl h ↦ or_left (is_within (hull d op) v) (is_some_within (hull d op) vs) (hulls_hold d op v f in_range.0 h)
      | inr h ↦ or_right (is_within (hull d op) v) (is_some_within (hull d op) vs) (met_within d op vs f in_range.1 h)
    ]

-- what a condition that an event satisfies says of its first predicate on an attribute
record FirstMet (e : Assignments) (a : AttrNo) (conj : List Pred) : Type 0 where
  pub pred : Pred
  pub first : find (is_on a) conj ≡ Some pred
  pub values : List ℤ
  pub given : values_of e a ≡ Some values
  pub met : meets pred.op values ≡ true

found_any : (o : Option Pred) → is_some o ≡ true → (p : Pred) × (o ≡ Some p)
found_any None h = absurd (cc)
found_any (Some p) h = (p, refl)

met_values : (o : Option (List ℤ)) (op : Op) → is_met o op ≡ true → (vs : List ℤ) × (o ≡ Some vs) × (meets op vs ≡ true)
met_values None op h = absurd (cc)
met_values (Some vs) op h = (vs, refl, h)

first_met : (e : Assignments) (a : AttrNo) (conj : List Pred) → satisfies e conj ≡ true → list_any (is_on a) conj ≡ true → FirstMet e a conj
first_met e a conj sat any =
    let first = found_any (find (is_on a) conj) (is_some-find (is_on a) conj ∙ any) in
    let p = first.0 in
    let is_satisfied = λ (q : Pred). is_met (values_of e q.attr) q.op in
    let met = found_has (λ (q : Pred). is_satisfied q ≡ true) (is_on a) conj p (AllPass-from_list_all is_satisfied conj sat) first.1 in
    let here : is_met (values_of e a) p.op ≡ true = ap (λ b. is_met (values_of e b) p.op) (sym (same_attribute p.attr a (found_passes (is_on a) conj p first.1))) ∙ met in
    let values = met_values (values_of e a) p.op here in
    record { pred = p; first = first.1; values = values.0; given = values.1; met = values.2 }

-- on each attribute of a condition, the span holds a value of each event that satisfies the condition
pub spans_hold : SpansHold
spans_hold s e a conj f lies sat any =
    let m = first_met e a conj sat any in
    let d = range_of_values s e a m.values lies m.given in
    record {
      range = hull d.0 m.pred.op;
      span = span_is s a conj d.0 m.pred d.1 m.first;
      values = m.values;
      given = m.given;
      held = met_within d.0 m.pred.op m.values (found_has (λ (p : Pred). OpForm p.op) (is_on a) conj m.pred f.forms m.first) d.2 m.met;
    }

-- spans are parts of domains
pub spans_lie : SpansLie
spans_lie s a conj d is_schema f lies e = by_first (find (is_on a) conj) refl
  where
    first_lies : (p : Pred) → find (is_on a) conj ≡ Some p → lies_within d (values_in p.op) ≡ true
    first_lies p k =
        let at : range_of s p.attr ≡ Some d = ap (range_of s) (same_attribute p.attr a (found_passes (is_on a) conj p k)) ∙ e in
        ap (λ o. lies_in o (values_in p.op)) (sym at) ∙ found_has (λ (q : Pred). pred_lies s q ≡ true) (is_on a) conj p (AllPass-from_list_all (pred_lies s) conj lies) k

    by_first : (o : Option Pred) → find (is_on a) conj ≡ o → IfSome (span_in s a conj) (IsPart d)
    by_first None k =
        rw (ap (λ r. option_and_then (λ x. span x a conj) r) e ∙ ap (λ r. option_map (λ (q : Pred). hull d q.op) r) k) tt
    by_first (Some p) k =
        rw (span_is s a conj d p e k) (hulls_lie d p.op (found_has (λ (q : Pred). OpForm q.op) (is_on a) conj p f.forms k) (range_sound s a d is_schema e).rising (first_lies p k))

-- a condition lies in a schema where no place is the first outside
pub lies-position_none : (s : Attributes) (conj : List Pred) → position (λ p. not (pred_lies s p)) conj ≡ None → conj_lies s conj ≡ true
lies-position_none s conj h = list_all-not_any (pred_lies s) conj ∙ ap not ((position-none (λ p. not (pred_lies s p)) conj).0 h)

pub position_none-lies : (s : Attributes) (conj : List Pred) → conj_lies s conj ≡ true → position (λ p. not (pred_lies s p)) conj ≡ None
position_none-lies s conj h =
    (position-none (λ p. not (pred_lies s p)) conj).1 (not-true (list_any (λ p. not (pred_lies s p)) conj) (sym (list_all-not_any (pred_lies s) conj) ∙ h))
