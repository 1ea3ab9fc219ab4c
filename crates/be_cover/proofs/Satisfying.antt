-- What single values say of conditions.
use Rattle.std.proofs.Common.{◌≡◌, ◌<◌, ℤ, Bool, true, false, not, eqb, cond, ◌&&◌, ◌||◌, List, [], ◌∷◌, length, find, is_some, Option, Some, None, refl, sym, ap, subst, ◌∙◌, ⊎_elim, arith}
use Rattle.std.proofs.lemmas.Bool.{and_parts, and_from, and_left, and_right, and_cases, or_parts, or_left, or_right, eq-eqb, eqb-true, not-false, true≢false}
use Rattle.be_base.specs.declared.names.AttrNo.{AttrNo}
use Rattle.be_model.specs.declared.ops.Op.{Op}
use Rattle.be_model.specs.declared.preds.Pred.{Pred}
use Rattle.be_model.specs.Domains.{is_within}
use Rattle.be_model.specs.Schemas.{Attributes, range_of}
use Rattle.be_model.specs.Hulls.{is_on}
use Rattle.be_model.specs.Lies.{conj_lies}
use Rattle.be_model.specs.Matching.{Assignments, holds, is_met, values_of, satisfies}
use Rattle.be_model.proofs.Lists.{is_some-find, found_passes}
use Rattle.be_model.proofs.Spans.{pred_found}
use Rattle.be_model.proofs.InSchema.{same_attribute, range_of_pred, range_below, range_of_values}
use Rattle.be_cover.specs.Covering.{is_single, IsSingleEvent, hold_on, is_value, allows, has}

found_any : (o : Option Pred) → is_some o ≡ true → (p : Pred) × (o ≡ Some p)
found_any None h = absurd (cc)
found_any (Some p) h = (p, refl)

-- the schema has the attributes of a condition that lies in it
pub has_below : (s : Attributes) (c : List Pred) (a : AttrNo) → conj_lies s c ≡ true → has c a ≡ true → a.0 < length s
has_below s c a lies h =
    let first = found_any (find (is_on a) c) (is_some-find (is_on a) c ∙ h) in
    let p = first.0 in
    let r = range_of_pred s p (pred_found s a c p lies first.1) in
    let below = range_below s p.attr r.0 r.1 in
    subst (λ n. n < length s) (eqb-true p.attr.0 a.0 (found_passes (is_on a) c p first.1)) below

pub implied : (b c : Bool) → b ≡ true → (not b || c) ≡ true → c ≡ true
implied true c e h = h
implied false c e h = absurd (cc)

or_false : (b : Bool) → (b || false) ≡ b
or_false true = refl
or_false false = refl

-- what one value says of a comparison
met_one : (o : Option (List ℤ)) (v : ℤ) (op : Op) → o ≡ Some (v ∷ []) → is_met o op ≡ holds op v
met_one o v op e = ap (λ x. is_met x op) e ∙ or_false (holds op v)

own : (p : Pred) → is_on p.attr p ≡ true
own p = eq-eqb p.attr.0 p.attr.0 refl

-- an event satisfies a condition where, of each of its attributes, all predicates hold of its one value
pub satisfies_from : (e : Assignments) (c : List Pred) → ((a : AttrNo) → has c a ≡ true → (v : ℤ) × (values_of e a ≡ Some (v ∷ [])) × (hold_on a c v ≡ true)) → satisfies e c ≡ true
satisfies_from e [] h = refl
satisfies_from e (p ∷ ps) h =
    let here = h p.attr (or_left (is_on p.attr p) (has ps p.attr) (own p)) in
    let holds_here = and_parts (not (is_on p.attr p) || holds p.op here.0) (hold_on p.attr ps here.0) here.2 in
    and_from (is_met (values_of e p.attr) p.op) (satisfies e ps)
    (met_one (values_of e p.attr) here.0 p.op here.1 ∙ implied (is_on p.attr p) (holds p.op here.0) (own p) holds_here.0)
    (satisfies_from e ps (λ a k. let l = h a (or_right (is_on a p) (has ps a) k) in
    (l.0, l.1, (and_parts (not (is_on a p) || holds p.op l.0) (hold_on a ps l.0) l.2).1)))

-- a condition on an attribute without a value isn't satisfied
pub unsatisfied_without : (e : Assignments) (c : List Pred) (a : AttrNo) → values_of e a ≡ None → has c a ≡ true → satisfies e c ≡ false
unsatisfied_without e [] a none h = absurd (cc)
unsatisfied_without e (p ∷ ps) a none h = by_test (is_on a p) refl h (λ k. unsatisfied_without e ps a none k)
  where
    by_test : (b : Bool) → is_on a p ≡ b → (b || has ps a) ≡ true → (has ps a ≡ true → satisfies e ps ≡ false) → satisfies e (p ∷ ps) ≡ false
    by_test true t k later =
        and_left (is_met (values_of e p.attr) p.op) (satisfies e ps) (ap (λ o. is_met o p.op) (ap (values_of e) (same_attribute p.attr a t) ∙ none))
    by_test false t k later = and_right (is_met (values_of e p.attr) p.op) (satisfies e ps) (later k)

-- nor one of which a predicate doesn't hold of the value
pub unsatisfied_by : (e : Assignments) (c : List Pred) (a : AttrNo) (v : ℤ) → values_of e a ≡ Some (v ∷ []) → hold_on a c v ≡ false → satisfies e c ≡ false
unsatisfied_by e [] a v given h = absurd (cc)
unsatisfied_by e (p ∷ ps) a v given h =
    ⊎_elim (λ k. here k) (λ k. and_right (is_met (values_of e p.attr) p.op) (satisfies e ps) (unsatisfied_by e ps a v given k))
    (and_cases (not (is_on a p) || holds p.op v) (hold_on a ps v) h)
  where
    here : (not (is_on a p) || holds p.op v) ≡ false → (is_met (values_of e p.attr) p.op && satisfies e ps) ≡ false
    here k =
        let parts = or_parts (not (is_on a p)) (holds p.op v) k in
        let on = not-false (is_on a p) parts.0 in
        and_left (is_met (values_of e p.attr) p.op) (satisfies e ps) (met_one (values_of e p.attr) v p.op (ap (values_of e) (same_attribute p.attr a on) ∙ given) ∙ parts.1)

-- where an event satisfies a condition, all predicates on an attribute hold of its one value
pub satisfied_holds : (e : Assignments) (c : List Pred) (a : AttrNo) (v : ℤ) → satisfies e c ≡ true → values_of e a ≡ Some (v ∷ []) → hold_on a c v ≡ true
satisfied_holds e c a v sat given = by_test (hold_on a c v) refl
  where
    by_test : (b : Bool) → hold_on a c v ≡ b → b ≡ true
    by_test true k = refl
    by_test false k = let f = unsatisfied_by e c a v given k in absurd (true≢false (sym sat ∙ f))

one_of_length : (vs : List ℤ) → eqb (length vs) 1 ≡ true → (v : ℤ) × (vs ≡ v ∷ [])
one_of_length [] h = absurd (cc)
one_of_length (v ∷ []) h = (v, refl)
one_of_length (v ∷ w ∷ vs) h = absurd (let k = eqb-true (length (v ∷ w ∷ vs)) 1 h in omega (arith, k))

-- an event of single values has one value of each of its attributes
single_value : (e : Assignments) (a : AttrNo) (vs : List ℤ) → is_single e ≡ true → values_of e a ≡ Some vs → (v : ℤ) × (vs ≡ v ∷ [])
single_value [] a vs h k = absurd (cc)
single_value (item ∷ items) a vs h k =
    let parts = and_parts (eqb (length item.1) 1) (is_single items) h in
    by_test (eqb item.0.0 a.0) k parts.0 (λ l. single_value items a vs parts.1 l)
  where
    by_test : (b : Bool) → cond b (Some item.1) (values_of items a) ≡ Some vs → eqb (length item.1) 1 ≡ true → (values_of items a ≡ Some vs → (v : ℤ) × (vs ≡ v ∷ [])) → (v : ℤ) × (vs ≡ v ∷ [])
    by_test true l one later =
        let same : item.1 ≡ vs = cc in
        one_of_length vs (subst (λ ws. eqb (length ws) 1 ≡ true) same one)
    by_test false l one later = later l

-- an event of single values that satisfies a condition has a value of each of its attributes, which the condition allows
pub value_allowed : (s : Attributes) (e : Assignments) (c : List Pred) (a : AttrNo) → IsSingleEvent s e → satisfies e c ≡ true → has c a ≡ true
    → (v : ℤ) × (values_of e a ≡ Some (v ∷ [])) × (allows s c a v ≡ true)
value_allowed s e c a f sat h = by_values (values_of e a) refl
  where
    in_domain : (v : ℤ) → values_of e a ≡ Some (v ∷ []) → is_value (range_of s a) v ≡ true
    in_domain v given =
        let r = range_of_values s e a (v ∷ []) f.lies given in
        ap (λ o. is_value o v) r.1 ∙ (and_parts (is_within r.0 v) true r.2).0

    by_values : (o : Option (List ℤ)) → values_of e a ≡ o → (v : ℤ) × (values_of e a ≡ Some (v ∷ [])) × (allows s c a v ≡ true)
    by_values None k = absurd (true≢false (sym sat ∙ unsatisfied_without e c a k h))
    by_values (Some vs) k =
        let one = single_value e a vs f.single k in
        let given = k ∙ ap (λ ws. Some ws) one.1 in
        (one.0, given, and_from (is_value (range_of s a) one.0) (hold_on a c one.0) (in_domain one.0 given) (satisfied_holds e c a one.0 sat given))
