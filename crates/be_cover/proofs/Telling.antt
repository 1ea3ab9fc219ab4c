-- The event that tells two conditions apart shows that the first isn't covered, and where there is none it is.
use Rattle.std.proofs.Common.{◌≡◌, ◌<◌, ℤ, Bool, true, false, not, eqb, ◌&&◌, ◌||◌, List, [], ◌∷◌, length, find, is_some, is_none, Option, Some, None, refl, sym, ap, subst, ◌∙◌, arith}
use Rattle.std.specs.Prelude.{if◌then◌else◌, MatchOption, option_map, IsNone, ◌↔◌}
use Rattle.std.specs.List.{list_any}
use Rattle.std.proofs.lemmas.Bool.{and_parts, or_parts, not-true, not-false, eq-eqb, true≢false}
use Rattle.std.proofs.lemmas.List.Folds.{Any-from_list_any}
use Rattle.be_base.specs.declared.names.AttrNo.{AttrNo}
use Rattle.be_model.specs.declared.preds.Pred.{Pred}
use Rattle.be_model.specs.Schemas.{Attributes, range_of}
use Rattle.be_model.specs.Lies.{conj_lies}
use Rattle.be_model.specs.Matching.{Assignments, values_of, satisfies}
use Rattle.be_model.proofs.Lists.{is_some-find, found_passes}
use Rattle.be_model.proofs.InSchema.{same_attribute}
use Rattle.be_cover.specs.Ranges.{IsLeast}
use Rattle.be_cover.specs.Covering.{IsCovered, IsApart, hold_on, is_value, allows, has, least_allowed, least_apart, attributes, allows_none, tells, chosen, event_at, apart_event}
use Rattle.be_cover.proofs.Allowing.{least_allowed_is, least_apart_is}
use Rattle.be_cover.proofs.Assigning.{one_value, values_given, is_single_event, none_passes}
use Rattle.be_cover.proofs.Satisfying.{implied, has_below, satisfies_from, unsatisfied_without, unsatisfied_by, value_allowed}

least_none : (p : ℤ → Bool) (o : Option ℤ) (v : ℤ) → IsLeast p o → is_some o ≡ false → p v ≡ false
least_none p None v h k = h v
least_none p (Some w) v h k = absurd (cc)

least_some : (p : ℤ → Bool) (o : Option ℤ) (v : ℤ) → IsLeast p o → o ≡ Some v → p v ≡ true
least_some p None v h k = absurd (cc)
least_some p (Some w) v h k = let same : w ≡ v = cc in subst (λ x. p x ≡ true) same h.0

there : {X : Type 0} (o : Option X) → is_some o ≡ true → (x : X) × (o ≡ Some x)
there None h = absurd (cc)
there (Some x) h = (x, refl)

none_or_some : (o : Option ℤ) → is_none o ≡ false → is_some o ≡ true
none_or_some None h = absurd (cc)
none_or_some (Some v) h = refl

some_or_none : (o : Option ℤ) → is_none o ≡ true → is_some o ≡ false
some_or_none None h = refl
some_or_none (Some v) h = absurd (cc)

-- a condition one of whose attributes has no value is covered by every other
covered_void : (s : Attributes) (q r : List Pred) → list_any (allows_none s q) (attributes s) ≡ true → IsCovered s q r
covered_void s q r h e f sat =
    let some = Any-from_list_any (allows_none s q) (attributes s) h in
    let a = some.1 in
    let void = and_parts (has q a) (is_none (least_allowed s q a)) some.4 in
    let value = value_allowed s e q a f sat void.0 in
    let none = least_none (allows s q a) (least_allowed s q a) value.0 (least_allowed_is s q a) (some_or_none (least_allowed s q a) void.1) in
    absurd (true≢false (sym value.2 ∙ none))

-- where no attribute tells the conditions apart, the first is covered
covered_untold : (s : Attributes) (q r : List Pred) → conj_lies s r ≡ true → find (tells s q r) (attributes s) ≡ None → IsCovered s q r
covered_untold s q r lies h e f sat = satisfies_from e r each
  where
    each : (a : AttrNo) → has r a ≡ true → (v : ℤ) × (values_of e a ≡ Some (v ∷ [])) × (hold_on a r v ≡ true)
    each a k =
        let below = has_below s r a lies k in
        let untold : list_any (tells s q r) (attributes s) ≡ false = sym (is_some-find (tells s q r) (attributes s)) ∙ ap is_some h in
        let no = none_passes (tells s q r) 0 (length s) a untold (omega arith) (omega arith) in
        let rest : (not (has q a) || is_some (least_apart s q r a)) ≡ false = ap (λ b. b && (not (has q a) || is_some (least_apart s q r a))) (sym k) ∙ no in
        let parts = or_parts (not (has q a)) (is_some (least_apart s q r a)) rest in
        let value = value_allowed s e q a f sat (not-false (has q a) parts.0) in
        let none = least_none (λ v. allows s q a v && not (allows s r a v)) (least_apart s q r a) value.0 (least_apart_is s q r a) parts.1 in
        let both : not (allows s r a value.0) ≡ false = ap (λ b. b && not (allows s r a value.0)) (sym value.2) ∙ none in
        (value.0, value.1, (and_parts (is_value (range_of s a) value.0) (hold_on a r value.0) (not-false (allows s r a value.0) both)).1)

-- what an attribute is given is what the first condition allows
chosen_allowed : (s : Attributes) (q r : List Pred) (by a : AttrNo) (v : ℤ) → chosen s q r by a ≡ Some v → allows s q a v ≡ true
chosen_allowed s q r by a v h = by_tests (has q a) (eqb a.0 by.0) h
  where
    by_tests : (b c : Bool) → (if not b then None else (if c then least_apart s q r a else least_allowed s q a)) ≡ Some v → allows s q a v ≡ true
    by_tests false c k = absurd (cc)
    by_tests true true k =
        (and_parts (allows s q a v) (not (allows s r a v)) (least_some (λ w. allows s q a w && not (allows s r a w)) (least_apart s q r a) v (least_apart_is s q r a) k)).0
    by_tests true false k = least_some (allows s q a) (least_allowed s q a) v (least_allowed_is s q a) k

chosen_there : (s : Attributes) (q r : List Pred) (by a : AttrNo) → has q a ≡ true → is_some (least_allowed s q a) ≡ true → (eqb a.0 by.0 ≡ true → is_some (least_apart s q r a) ≡ true) → is_some (chosen s q r by a) ≡ true
chosen_there s q r by a h k l = by_tests (has q a) (eqb a.0 by.0) h refl
  where
    by_tests : (b c : Bool) → b ≡ true → eqb a.0 by.0 ≡ c → is_some (if not b then None else (if c then least_apart s q r a else least_allowed s q a)) ≡ true
    by_tests false c m e = absurd (cc)
    by_tests true true m e = l e
    by_tests true false m e = k

chosen_by : (s : Attributes) (q r : List Pred) (by : AttrNo) → has q by ≡ true → chosen s q r by by ≡ least_apart s q r by
chosen_by s q r by h = by_tests (has q by) (eqb by.0 by.0) h (eq-eqb by.0 by.0 refl)
  where
    by_tests : (b c : Bool) → b ≡ true → c ≡ true → (if not b then None else (if c then least_apart s q r by else least_allowed s q by)) ≡ least_apart s q r by
    by_tests true true m e = refl
    by_tests true false m e = absurd (cc)
    by_tests false c m e = absurd (cc)

chosen_off : (s : Attributes) (q r : List Pred) (by a : AttrNo) → has q a ≡ false → chosen s q r by a ≡ None
chosen_off s q r by a h = ap (λ b. if not b then None else (if eqb a.0 by.0 then least_apart s q r a else least_allowed s q a)) h

not_void : (s : Attributes) (q : List Pred) (a : AttrNo) → list_any (allows_none s q) (attributes s) ≡ false → has q a ≡ true → a.0 < length s → is_some (least_allowed s q a) ≡ true
not_void s q a h k below =
    let no = none_passes (allows_none s q) 0 (length s) a h (omega arith) (omega arith) in
    none_or_some (least_allowed s q a) (ap (λ b. b && is_none (least_allowed s q a)) (sym k) ∙ no)

-- what tells two conditions apart
record Told (s : Attributes) (q r : List Pred) (by : AttrNo) : Type 0 where
  pub open_ : list_any (allows_none s q) (attributes s) ≡ false
  pub on : has r by ≡ true
  pub apart : (not (has q by) || is_some (least_apart s q r by)) ≡ true
  pub below : by.0 < length s

given_value : (s : Attributes) (q r : List Pred) (by a : AttrNo) → a.0 < length s → values_of (event_at s q r by) a ≡ one_value (chosen s q r by a)
given_value s q r by a below = values_given (chosen s q r by) 0 (length s) a (omega arith) (omega arith)

first_satisfied : (s : Attributes) (q r : List Pred) (by : AttrNo) → conj_lies s q ≡ true → Told s q r by → satisfies (event_at s q r by) q ≡ true
first_satisfied s q r by lies t = satisfies_from (event_at s q r by) q each
  where
    told : (a : AttrNo) → has q a ≡ true → eqb a.0 by.0 ≡ true → is_some (least_apart s q r a) ≡ true
    told a k e =
        let same = same_attribute a by e in
        subst (λ b. has q b ≡ true → is_some (least_apart s q r b) ≡ true) (sym same) (λ m. implied (has q by) (is_some (least_apart s q r by)) m t.apart) k

    each : (a : AttrNo) → has q a ≡ true → (v : ℤ) × (values_of (event_at s q r by) a ≡ Some (v ∷ [])) × (hold_on a q v ≡ true)
    each a k =
        let below = has_below s q a lies k in
        let value = there (chosen s q r by a) (chosen_there s q r by a k (not_void s q a t.open_ k below) (told a k)) in (
          value.0,
          given_value s q r by a below ∙ ap one_value value.1,
          (and_parts (is_value (range_of s a) value.0) (hold_on a q value.0) (chosen_allowed s q r by a value.0 value.1)).1,
        )

other_unsatisfied : (s : Attributes) (q r : List Pred) (by : AttrNo) → Told s q r by → satisfies (event_at s q r by) r ≡ false
other_unsatisfied s q r by t = by_test (has q by) refl
  where
    by_test : (b : Bool) → has q by ≡ b → satisfies (event_at s q r by) r ≡ false
    by_test false k =
        unsatisfied_without (event_at s q r by) r by (given_value s q r by by t.below ∙ ap one_value (chosen_off s q r by by k)) t.on
    by_test true k =
        let value = there (least_apart s q r by) (implied (has q by) (is_some (least_apart s q r by)) k t.apart) in
        let v = value.0 in
        let both = and_parts (allows s q by v) (not (allows s r by v)) (least_some (λ w. allows s q by w && not (allows s r by w)) (least_apart s q r by) v (least_apart_is s q r by) value.1) in
        let domain = (and_parts (is_value (range_of s by) v) (hold_on by q v) both.0).0 in
        let no : hold_on by r v ≡ false = ap (λ b. b && hold_on by r v) (sym domain) ∙ not-true (allows s r by v) both.1 in
        unsatisfied_by (event_at s q r by) r by v (given_value s q r by by t.below ∙ ap one_value (chosen_by s q r by k ∙ value.1)) no

is_apart : (s : Attributes) (q r : List Pred) (by : AttrNo) → conj_lies s q ≡ true → Told s q r by → IsApart s q r (event_at s q r by)
is_apart s q r by lies t = record {
  single = is_single_event s (chosen s q r by) (length s) (λ a v k. (and_parts (is_value (range_of s a) v) (hold_on a q v) (chosen_allowed s q r by a v k)).0);
  first = first_satisfied s q r by lies t;
  other = other_unsatisfied s q r by t;
}

-- the event, or that there is none
pub apart_says : (s : Attributes) (q r : List Pred) → conj_lies s q ≡ true → conj_lies s r ≡ true → MatchOption (apart_event s q r) (IsCovered s q r) (IsApart s q r)
unfolding apart_event
apart_says s q r first other = by_void (list_any (allows_none s q) (attributes s)) refl
  where
    by_found : (o : Option AttrNo) → find (tells s q r) (attributes s) ≡ o → list_any (allows_none s q) (attributes s) ≡ false → MatchOption (option_map (event_at s q r) o) (IsCovered s q r) (IsApart s q r)
    by_found None e k = covered_untold s q r other e
    by_found (Some by) e k =
        let t = and_parts (has r by) (not (has q by) || is_some (least_apart s q r by)) (found_passes (tells s q r) (attributes s) by e) in
        is_apart s q r by first (record { open_ = k; on = t.0; apart = t.1; below = has_below s r by other t.0 })

    by_void : (b : Bool) → list_any (allows_none s q) (attributes s) ≡ b → MatchOption (if b then None else option_map (event_at s q r) (find (tells s q r) (attributes s))) (IsCovered s q r) (IsApart s q r)
    by_void true e = covered_void s q r e
    by_void false e = by_found (find (tells s q r) (attributes s)) refl e

pub void_event : (s : Attributes) (q r : List Pred) → list_any (allows_none s q) (attributes s) ≡ true → None ≡ apart_event s q r
unfolding apart_event
void_event s q r h = ap (λ b. if b then None else option_map (event_at s q r) (find (tells s q r) (attributes s))) (sym h)

pub untold_event : (s : Attributes) (q r : List Pred) (o : Option AttrNo) → list_any (allows_none s q) (attributes s) ≡ false → o ≡ find (tells s q r) (attributes s) → option_map (event_at s q r) o ≡ apart_event s q r
unfolding apart_event
untold_event s q r o h k =
    ap (option_map (event_at s q r)) k ∙ ap (λ b. if b then None else option_map (event_at s q r) (find (tells s q r) (attributes s))) (sym h)

-- what an answer that is the event, or none, says
says : (s : Attributes) (q r : List Pred) (o : Option Assignments) → conj_lies s q ≡ true → conj_lies s r ≡ true → o ≡ apart_event s q r → MatchOption o (IsCovered s q r) (IsApart s q r)
says s q r o first other e =
    subst (λ (x : Option Assignments). MatchOption x (IsCovered s q r) (IsApart s q r)) (sym e) (apart_says s q r first other)

pub none_is_covered : (s : Attributes) (q r : List Pred) (o : Option Assignments) → conj_lies s q ≡ true → conj_lies s r ≡ true → o ≡ apart_event s q r → (IsNone o ↔ IsCovered s q r)
none_is_covered s q r o first other e = by_case o (says s q r o first other e)
  where
    by_case : (x : Option Assignments) → MatchOption x (IsCovered s q r) (IsApart s q r) → (IsNone x ↔ IsCovered s q r)
    by_case None k = (λ n. k, λ n. refl)
    by_case (Some v) k = (λ n. absurd (cc), λ covered. absurd (true≢false (sym (covered v k.single k.first) ∙ k.other)))

pub some_is_apart : (s : Attributes) (q r : List Pred) (v : Assignments) → conj_lies s q ≡ true → conj_lies s r ≡ true → Some v ≡ apart_event s q r → IsApart s q r v
some_is_apart s q r v first other e = says s q r (Some v) first other e
