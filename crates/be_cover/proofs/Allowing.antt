-- What a walk over the predicates of a condition leaves of a domain.
use Rattle.std.proofs.Common.{◌≡◌, ℕ, zero, suc, ◌+◌, ◌<◌, ℤ, ◌≤ℤ◌, Bool, true, false, not, ◌&&◌, ◌||◌, eqb, List, [], ◌∷◌, length, get_or, drop, All, Option, Some, None, refl, sym, ap, subst, ◌∙◌, arith}
use Rattle.std.specs.List.{list_all, flat_map}
use Rattle.std.proofs.lemmas.Bool.{and_parts, and_from, cond-true, cond-false, false_from_ne_true, eq-eqb, ne_eqb}
use Rattle.std.proofs.lemmas.Int.{ints}
use Rattle.std.proofs.lemmas.List.{at_drop_more}
use Rattle.be_base.specs.declared.names.AttrNo.{AttrNo}
use Rattle.be_base.specs.declared.limits.TheConstants.{FIRST_INT, LAST_INT}
use Rattle.be_model.specs.declared.preds.Pred.{Pred}
use Rattle.be_model.specs.Domains.{Range, is_within}
use Rattle.be_model.specs.Schemas.{Attributes, range_of}
use Rattle.be_model.specs.Forms.{OpForm}
use Rattle.be_model.specs.Hulls.{is_on}
use Rattle.be_model.specs.Lies.{values_in, lies_in, lies_within, pred_lies, conj_lies}
use Rattle.be_model.proofs.InSchema.{same_attribute}
use Rattle.be_model.proofs.Ranges.{is_within-wider}
use Rattle.be_cover.specs.Ranges.{is_in, rise_apart, IsLeast, least_in}
use Rattle.be_cover.specs.Pieces.{is_near, pieces}
use Rattle.be_cover.specs.Covering.{hold_on, is_value, allows, least_allowed, least_apart}
use Rattle.be_cover.proofs.Least.{one_least, least_of_same, least_in_is}
use Rattle.be_cover.proofs.Holding.{narrowed, is_in-narrowed}
use Rattle.be_cover.proofs.Rising.{all_also, all_pieces_apart, all_pieces_near}

-- a domain of a schema is within the bounds of all domains
pub near_domain : (d : Range) → FIRST_INT ≤ℤ d.0 → d.1 ≤ℤ LAST_INT → list_all is_near (d ∷ []) ≡ true
near_domain d low high = let n : is_near d ≡ true = grind (arith, ints) in and_from (is_near d) true n refl

pub one_apart : (d : Range) → d.0 ≤ℤ d.1 → rise_apart (d ∷ []) ≡ true
one_apart d h = grind (arith, ints)

-- and so are the values of predicates on its attribute
pub near_values : (s : Attributes) (a : AttrNo) (p : Pred) (d : Range) → pred_lies s p ≡ true → eqb p.attr.0 a.0 ≡ true → range_of s a ≡ Some d → FIRST_INT ≤ℤ d.0 → d.1 ≤ℤ LAST_INT
    → lies_within (FIRST_INT, LAST_INT) (values_in p.op) ≡ true
near_values s a p d lies on is low high =
    let at : range_of s p.attr ≡ Some d = ap (range_of s) (same_attribute p.attr a on) ∙ is in
    let in_domain : lies_within d (values_in p.op) ≡ true = ap (λ o. lies_in o (values_in p.op)) (sym at) ∙ lies in
    all_also (is_within d) (is_within (FIRST_INT, LAST_INT)) (λ v. is_within-wider (FIRST_INT, LAST_INT) d v low high) (values_in p.op) in_domain

-- an element of a list all of which pass
pub passes_at : {X : Type 0} (p : X → Bool) (xs : List X) (i : ℕ) (d : X) → i < length xs → list_all p xs ≡ true → p (get_or xs i d) ≡ true
passes_at p [] i d h k = absurd (omega arith)
passes_at p (x ∷ xs) zero d h k = (and_parts (p x) (list_all p xs) k).0
passes_at p (x ∷ xs) (suc i) d h k = passes_at p xs i d (omega arith) (and_parts (p x) (list_all p xs) k).1

pub near_ends : (r : Range) → is_near r ≡ true → (FIRST_INT ≤ℤ r.0) × (r.1 ≤ℤ LAST_INT)
near_ends r h = (grind (arith, ints), grind (arith, ints))

-- one turn of the walk
pub narrowed_on : (a : AttrNo) (ps : List Pred) (i : ℕ) (d : Pred) (ranges : List Range) → i < length ps → is_on a (get_or ps i d) ≡ true
    → narrowed a (drop i ps) ranges ≡ narrowed a (drop (i + 1) ps) (flat_map (pieces (get_or ps i d).op) ranges)
narrowed_on a ps i d ranges h k =
    at_drop_more (λ qs. narrowed a qs ranges) ps i d h
    ∙ ap (narrowed a (drop (i + 1) ps)) (cond-true (is_on a (get_or ps i d)) (flat_map (pieces (get_or ps i d).op) ranges) ranges k)

pub narrowed_off : (a : AttrNo) (ps : List Pred) (i : ℕ) (d : Pred) (ranges : List Range) → i < length ps → is_on a (get_or ps i d) ≡ false
    → narrowed a (drop i ps) ranges ≡ narrowed a (drop (i + 1) ps) ranges
narrowed_off a ps i d ranges h k =
    at_drop_more (λ qs. narrowed a qs ranges) ps i d h
    ∙ ap (narrowed a (drop (i + 1) ps)) (cond-false (is_on a (get_or ps i d)) (flat_map (pieces (get_or ps i d).op) ranges) ranges k)

-- what is left at the end holds what the condition allows
pub left_is_allowed : (s : Attributes) (a : AttrNo) (ps : List Pred) (d : Range) (ranges : List Range) (v : ℤ) → All (λ (p : Pred). OpForm p.op) ps → range_of s a ≡ Some d
    → ranges ≡ narrowed a ps (d ∷ []) → is_in ranges v ≡ allows s ps a v
left_is_allowed s a ps d ranges v f is e =
    ap (λ rs. is_in rs v) e ∙ is_in-narrowed a ps (d ∷ []) v f
    ∙ ap (λ b. b && hold_on a ps v) (or_false (is_within d v) ∙ ap (λ o. is_value o v) (sym is))
  where
    or_false : (b : Bool) → (b || false) ≡ b
    or_false true = refl
    or_false false = refl

-- the least value of an attribute's domain that passes
pub least_in_domain : (p : ℤ → Bool) (r : Option Range) → ((v : ℤ) → p v ≡ true → is_value r v ≡ true) → IsLeast p (least_in p r)
unfolding least_in
least_in_domain p None inside = λ v. false_from_ne_true (p v) (λ t. let f = inside v t in absurd (cc))
least_in_domain p (Some d) inside = least_in_is p d inside

allowed_is_value : (s : Attributes) (c : List Pred) (a : AttrNo) (v : ℤ) → allows s c a v ≡ true → is_value (range_of s a) v ≡ true
allowed_is_value s c a v h = (and_parts (is_value (range_of s a) v) (hold_on a c v) h).0

pub least_allowed_is : (s : Attributes) (c : List Pred) (a : AttrNo) → IsLeast (allows s c a) (least_allowed s c a)
least_allowed_is s c a = least_in_domain (allows s c a) (range_of s a) (allowed_is_value s c a)

pub least_apart_is : (s : Attributes) (q r : List Pred) (a : AttrNo) → IsLeast (λ v. allows s q a v && not (allows s r a v)) (least_apart s q r a)
least_apart_is s q r a =
    least_in_domain (λ v. allows s q a v && not (allows s r a v)) (range_of s a) (λ v h. allowed_is_value s q a v (and_parts (allows s q a v) (not (allows s r a v)) h).0)

-- what the least value of the ranges is
pub found_allowed : (s : Attributes) (c : List Pred) (a : AttrNo) (ranges : List Range) (o : Option ℤ) → ((v : ℤ) → is_in ranges v ≡ allows s c a v) → IsLeast (is_in ranges) o → o ≡ least_allowed s c a
found_allowed s c a ranges o same least =
    one_least (allows s c a) o (least_allowed s c a) (least_of_same (allows s c a) (is_in ranges) o (λ v. sym (same v)) least) (least_allowed_is s c a)

pub found_apart : (s : Attributes) (q r : List Pred) (a : AttrNo) (ranges others : List Range) (o : Option ℤ) → ((v : ℤ) → is_in ranges v ≡ allows s q a v) → ((v : ℤ) → is_in others v ≡ allows s r a v)
    → IsLeast (λ v. is_in ranges v && not (is_in others v)) o → o ≡ least_apart s q r a
found_apart s q r a ranges others o same other least =
    let wanted : ℤ → Bool = λ v. allows s q a v && not (allows s r a v) in
    let here : ℤ → Bool = λ v. is_in ranges v && not (is_in others v) in
    let equal : (v : ℤ) → wanted v ≡ here v = λ v. ap (λ b. b && not (allows s r a v)) (sym (same v)) ∙ ap (λ b. is_in ranges v && not b) (sym (other v)) in
    one_least wanted o (least_apart s q r a) (least_of_same wanted here o equal least) (least_apart_is s q r a)

-- the predicate at a place of a condition that lies in a schema
pub near_at : (s : Attributes) (c : List Pred) (a : AttrNo) (i : ℕ) (p : Pred) (d : Range) → conj_lies s c ≡ true → i < length c → p ≡ get_or c i p → p.attr.0 ≡ a.0 → range_of s a ≡ Some d → FIRST_INT ≤ℤ d.0 → d.1 ≤ℤ LAST_INT
    → lies_within (FIRST_INT, LAST_INT) (values_in p.op) ≡ true
near_at s c a i p d lies within there on is low high =
    near_values s a p d (ap (pred_lies s) there ∙ passes_at (pred_lies s) c i p within lies) (eq-eqb p.attr.0 a.0 on) is low high

-- the ranges after a turn with a predicate on the attribute
pub record Turned (a : AttrNo) (ps whole : List Pred) (first ranges : List Range) : Type 0 where
  pub rest : narrowed a ps ranges ≡ narrowed a whole first
  pub apart : rise_apart ranges ≡ true
  pub near : list_all is_near ranges ≡ true

pub turned_on : (a : AttrNo) (ps : List Pred) (i : ℕ) (p : Pred) (first ranges next : List Range) → All (λ (q : Pred). OpForm q.op) ps → i < length ps → p ≡ get_or ps i p → p.attr.0 ≡ a.0
    → next ≡ flat_map (pieces p.op) ranges → Turned a (drop i ps) ps first ranges → Turned a (drop (i + 1) ps) ps first next
turned_on a ps i p first ranges next forms within there on is before =
    let form : OpForm p.op = subst (λ (q : Pred). OpForm q.op) (sym there) (form_at ps i p forms within) in
    let same : is_on a (get_or ps i p) ≡ true = ap (is_on a) (sym there) ∙ eq-eqb p.attr.0 a.0 on in
    let next_is : next ≡ flat_map (pieces (get_or ps i p).op) ranges = is ∙ ap (λ (q : Pred). flat_map (pieces q.op) ranges) there in
    record {
      rest = ap (narrowed a (drop (i + 1) ps)) next_is ∙ sym (narrowed_on a ps i p ranges within same) ∙ before.rest;
      apart = ap rise_apart is ∙ all_pieces_apart p.op ranges form before.apart;
      near = ap (list_all is_near) is ∙ all_pieces_near p.op ranges form before.apart before.near;
    }
  where
    form_at : (qs : List Pred) (j : ℕ) (d : Pred) → All (λ (q : Pred). OpForm q.op) qs → j < length qs → OpForm (get_or qs j d).op
    form_at qs j d f h = f j d h

pub turned_off : (a : AttrNo) (ps : List Pred) (i : ℕ) (p : Pred) (first ranges : List Range) → i < length ps → p ≡ get_or ps i p → (p.attr.0 ≡ a.0 → ⊥)
    → Turned a (drop i ps) ps first ranges → Turned a (drop (i + 1) ps) ps first ranges
turned_off a ps i p first ranges within there off before = record {
  rest = sym (narrowed_off a ps i p ranges within (ap (is_on a) (sym there) ∙ ne_eqb p.attr.0 a.0 off)) ∙ before.rest;
  apart = before.apart;
  near = before.near;
}
