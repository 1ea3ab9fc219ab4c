-- What the lanes of a place let pass.
use Rattle.std.proofs.Common.{◌≡◌, ⊎_elim, ℤ, ◌≤ℤ◌, ◌<ℤ◌, ◌≤◌, ◌<◌, Bool, true, false, ◌&&◌, ◌||◌, List, [], ◌∷◌, Option, Some, None, cond, refl, sym, ap, ◌∙◌, arith}
use Rattle.std.specs.Int.Signed.{le_z, lt_z}
use Rattle.std.specs.Ordering.{int_eq}
use Rattle.std.proofs.lemmas.Int.{ints}
use Rattle.std.proofs.lemmas.Bool.{and_parts, or_cases, or_left}
use Rattle.be_model.specs.declared.preds.Pred.{Pred}
use Rattle.be_model.specs.Forms.{IsConj}
use Rattle.be_model.specs.Matching.{Assignments, values_of, satisfies}
use Rattle.be_model.specs.Schemas.{numbered}
use Rattle.be_shape.specs.declared.test_counts.Count.{Count}
use Rattle.be_shape.specs.declared.test_counts.Count.TheVariants.{Zero, One, Two, Three}
use Rattle.be_shape.specs.FewTests.{test_of, few_of}
use Rattle.be_shape.specs.Glances.{least, greatest, is_in, has_in, Test, passes, may_meet, is_whole, glance, glance_of}
use Rattle.be_shape.specs.Lanes.{raised, lets, slot_of, ends_of, free, seen, Lane, lets_event, passes_lanes, is_single, are_single, AreFree, HoldLanes}
use Rattle.be_shape.specs.declared.small_sets.Told.{Told}
use Rattle.be_shape.specs.declared.small_sets.Told.TheVariants.{AsWhole, AsFew, AsPart, IsSet}
use Rattle.be_shape.specs.Told.{extent_of, is_sure}
use Rattle.be_shape.proofs.BoundedTests.{is_sound, are_sound, whole_sound}
use Rattle.be_shape.proofs.Slots.{IsSmall, IsSlot, raised_is, lets_if_in, in_if_lets, lets_free, slot_again, ends_small}
use Rattle.be_shape.proofs.SightValues.{maybe_single, values_single}
use Rattle.be_shape.proofs.ToldTests.{both, equal_from, in_from, told}

-- what is seen of single values is a number of 32 bits
pub seen_fits : (vs : Option (List ℤ)) → maybe_single vs ≡ true → seen vs < 4294967296
seen_fits None s = omega arith
seen_fits (Some []) s = absurd cc
seen_fits (Some (v ∷ [])) s = by_test (lt_z least v && lt_z v greatest) s
  where
    one : (v : ℤ) → least <ℤ v → v <ℤ greatest → raised v < 4294967296
    one v l h = omega (arith, ints, raised_is v (record { from = omega (arith, ints, l); to = omega (arith, ints, h) }), h)

    by_test : (b : Bool) → (lt_z least v && lt_z v greatest) ≡ true → cond b (raised v) 0 < 4294967296
    by_test true k = let p = and_parts (lt_z least v) (lt_z v greatest) k in one v (omega (arith, ints, p.0)) (omega (arith, ints, p.1))
    by_test false k = omega arith
seen_fits (Some (v ∷ w ∷ vs)) s = absurd cc

low_says : (x v : ℤ) → least <ℤ v → (int_eq x least || le_z x v) ≡ true → x ≤ℤ v
low_says x v l h = ⊎_elim (λ e. let k = equal_from x least e in omega (arith, ints)) (λ e. omega (arith, ints)) (or_cases (int_eq x least) (le_z x v) h)

high_says : (x v : ℤ) → v <ℤ greatest → (int_eq x greatest || le_z v x) ≡ true → v ≤ℤ x
high_says x v l h = ⊎_elim (λ e. let k = equal_from x greatest e in omega (arith, ints)) (λ e. omega (arith, ints)) (or_cases (int_eq x greatest) (le_z v x) h)

pub one_small : (v : ℤ) → least <ℤ v → v <ℤ greatest → IsSmall v
one_small v l h = record { from = omega (arith, ints, l); to = omega (arith, ints, h) }

-- what is seen of one value
pub one_seen : (v : ℤ) → is_single (v ∷ []) ≡ true → seen (Some (v ∷ [])) ≡ raised v
one_seen v h = ap (λ b. cond b (raised v) 0) h

-- a value between the ends is in their slot
pub kept_by_ends : (ends : ℤ × ℤ) (vs : Option (List ℤ)) → IsSmall ends.0 → IsSmall ends.1 → maybe_single vs ≡ true → has_in ends vs ≡ true → lets (seen vs) (slot_of ends) ≡ true
kept_by_ends ends None a b s h = absurd cc
kept_by_ends ends (Some []) a b s h = absurd cc
kept_by_ends ends (Some (v ∷ [])) a b s h =
    let p = and_parts (lt_z least v) (lt_z v greatest) s in
    let l : least <ℤ v = omega (arith, ints, p.0) in
    let g : v <ℤ greatest = omega (arith, ints, p.1) in
    let i : is_in ends v ≡ true = ⊎_elim (λ k. k) (λ k. absurd cc) (or_cases (is_in ends v) false h) in
    let q = and_parts (int_eq ends.0 least || le_z ends.0 v) (int_eq ends.1 greatest || le_z v ends.1) i in
    ap (λ x. lets x (slot_of ends)) (one_seen v s) ∙ lets_if_in ends v a b (one_small v l g) (low_says ends.0 v l q.0) (high_says ends.1 v g q.1)
kept_by_ends ends (Some (v ∷ w ∷ vs)) a b s h = absurd cc

pub low_back : (x v : ℤ) → IsSmall x → IsSmall v → raised x ≤ raised v → x ≤ℤ v
low_back x v a b h = omega (arith, ints, raised_is x a, raised_is v b, h)

pub none_beyond : (x : ℤ) → IsSmall x → x ≤ℤ greatest → 4294967295 ≤ raised x → ⊥
none_beyond x a h k = absurd (omega (arith, ints, raised_is x a, h, k))

-- of sound ends the slot has nothing else
pub said_by_ends : (ends : ℤ × ℤ) (vs : Option (List ℤ)) → IsSmall ends.0 → IsSmall ends.1 → is_sound ends ≡ true → maybe_single vs ≡ true → lets (seen vs) (slot_of ends) ≡ true → has_in ends vs ≡ true
said_by_ends ends None a b o s h =
    let r = and_parts (le_z ends.0 ends.1) (le_z ends.1 greatest) o in
    absurd (none_beyond ends.1 b (omega (arith, ints, r.1)) (in_if_lets ends 4294967295 a b (omega arith) (omega (arith, ints, r.0)) h).1)
said_by_ends ends (Some []) a b o s h = absurd cc
said_by_ends ends (Some (v ∷ [])) a b o s h =
    let r = and_parts (le_z ends.0 ends.1) (le_z ends.1 greatest) o in
    let p = and_parts (lt_z least v) (lt_z v greatest) s in
    let small = one_small v (omega (arith, ints, p.0)) (omega (arith, ints, p.1)) in
    let k : lets (raised v) (slot_of ends) ≡ true = ap (λ x. lets x (slot_of ends)) (sym (one_seen v s)) ∙ h in
    let fits : raised v < 4294967296 = omega (arith, ints, raised_is v small, small.to) in
    let i = in_if_lets ends (raised v) a b fits (omega (arith, ints, r.0)) k in
    or_left (is_in ends v) false (in_from ends.0 ends.1 v (low_back ends.0 v a small i.0) (low_back v ends.1 small b i.1))
said_by_ends ends (Some (v ∷ w ∷ vs)) a b o s h = absurd cc

-- the event's value of the attribute is one, or there is none
pub lane_single : (e : Assignments) (l : Lane) → are_single e ≡ true → maybe_single (values_of e (numbered l.0)) ≡ true
lane_single e l s = values_single e (numbered l.0) s

pub lane_free : (l : Lane) (e : Assignments) → l.1 ≡ free → are_single e ≡ true → lets_event e l ≡ true
lane_free l e f s = let vs = values_of e (numbered l.0) in ap (λ x. lets (seen vs) x) f ∙ lets_free (seen vs) (seen_fits vs (lane_single e l s))

lane_kept : (l : Lane) (e : Assignments) → IsSlot l.1 → are_single e ≡ true → passes e (test_of l) ≡ true → lets_event e l ≡ true
lane_kept l e i s h =
    let vs = values_of e (numbered l.0) in
    let small = ends_small l.1 i in
    ap (λ x. lets (seen vs) x) (sym (slot_again l.1 i)) ∙ kept_by_ends (ends_of l.1) vs small.0 small.1 (lane_single e l s) h

lane_said : (l : Lane) (e : Assignments) → IsSlot l.1 → is_sound (test_of l).1 ≡ true → are_single e ≡ true → lets_event e l ≡ true → passes e (test_of l) ≡ true
lane_said l e i o s h =
    let vs = values_of e (numbered l.0) in
    let small = ends_small l.1 i in
    said_by_ends (ends_of l.1) vs small.0 small.1 o (lane_single e l s) (ap (λ x. lets (seen vs) x) (slot_again l.1 i) ∙ h)

pub three : (a b c : Bool) → a ≡ true → b ≡ true → c ≡ true → (a && (b && c)) ≡ true
three a b c h k l = both a (b && c) h (both b c k l)

pub three_parts : (a b c : Bool) → (a && (b && c)) ≡ true → (a ≡ true) × (b ≡ true) × (c ≡ true)
three_parts a b c h = let p = and_parts a (b && c) h in let q = and_parts b c p.1 in (p.0, q.0, q.1)

-- slots of numbers of 32 bits
pub record AreSlots (x y z : Lane) : Type 0 where
  pub first : IsSlot x.1
  pub second : IsSlot y.1
  pub third : IsSlot z.1

-- an event of single values that passes the tests passes the lanes
pub lanes_keep : (count : Count) (x y z : Lane) → AreSlots x y z → AreFree (few_of count x y z) → (e : Assignments) → are_single e ≡ true → may_meet e (few_of count x y z).tests ≡ true → passes_lanes e (few_of count x y z) ≡ true
lanes_keep Zero x y z i f e s h =
    three (lets_event e x) (lets_event e y) (lets_event e z) (lane_free x e (f.first (omega arith)) s) (lane_free y e (f.second (omega arith)) s) (lane_free z e (f.third (omega arith)) s)
lanes_keep One x y z i f e s h =
    let p = and_parts (passes e (test_of x)) true h in
    three (lets_event e x) (lets_event e y) (lets_event e z) (lane_kept x e i.first s p.0) (lane_free y e (f.second (omega arith)) s) (lane_free z e (f.third (omega arith)) s)
lanes_keep Two x y z i f e s h =
    let p = three_parts (passes e (test_of x)) (passes e (test_of y)) true h in
    three (lets_event e x) (lets_event e y) (lets_event e z) (lane_kept x e i.first s p.0) (lane_kept y e i.second s p.1) (lane_free z e (f.third (omega arith)) s)
lanes_keep Three x y z i f e s h =
    let p = and_parts (passes e (test_of x)) (passes e (test_of y) && (passes e (test_of z) && true)) h in
    let q = three_parts (passes e (test_of y)) (passes e (test_of z)) true p.1 in
    three (lets_event e x) (lets_event e y) (lets_event e z) (lane_kept x e i.first s p.0) (lane_kept y e i.second s q.0) (lane_kept z e i.third s q.1)

-- where the tests are sound, an event of single values that passes the lanes passes the tests
pub lanes_say : (count : Count) (x y z : Lane) → AreSlots x y z → are_sound (few_of count x y z).tests ≡ true → (e : Assignments) → are_single e ≡ true → passes_lanes e (few_of count x y z) ≡ true → may_meet e (few_of count x y z).tests ≡ true
lanes_say Zero x y z i o e s h = refl
lanes_say One x y z i o e s h =
    let l = three_parts (lets_event e x) (lets_event e y) (lets_event e z) h in
    let w = and_parts (is_sound (test_of x).1) true o in
    both (passes e (test_of x)) true (lane_said x e i.first w.0 s l.0) refl
lanes_say Two x y z i o e s h =
    let l = three_parts (lets_event e x) (lets_event e y) (lets_event e z) h in
    let w = three_parts (is_sound (test_of x).1) (is_sound (test_of y).1) true o in
    three (passes e (test_of x)) (passes e (test_of y)) true (lane_said x e i.first w.0 s l.0) (lane_said y e i.second w.1 s l.1) refl
lanes_say Three x y z i o e s h =
    let l = three_parts (lets_event e x) (lets_event e y) (lets_event e z) h in
    let v = and_parts (is_sound (test_of x).1) (is_sound (test_of y).1 && (is_sound (test_of z).1 && true)) o in
    let w = three_parts (is_sound (test_of y).1) (is_sound (test_of z).1) true v.1 in
    both (passes e (test_of x)) (passes e (test_of y) && (passes e (test_of z) && true)) (lane_said x e i.first v.0 s l.0)
    (three (passes e (test_of y)) (passes e (test_of z)) true (lane_said y e i.second w.0 s l.1) (lane_said z e i.third w.1 s l.2) refl)

sure_whole : (told : Told) → is_sure told ≡ true → (told ≡ IsSet → ⊥) → is_whole (extent_of told) ≡ true
sure_whole AsWhole h n = refl
sure_whole AsFew h n = absurd cc
sure_whole AsPart h n = absurd cc
sure_whole IsSet h n = absurd (n refl)

meets_tests : (s m w : Bool) → s ≡ true → s ≡ (m && (w || s)) → m ≡ true
meets_tests s true w h e = refl
meets_tests s false w h e = sym (sym h ∙ e)

met_wholly : (s m w : Bool) → m ≡ true → w ≡ true → s ≡ (m && (w || s)) → s ≡ true
met_wholly s m w h k e = e ∙ ap (λ b. b && (w || s)) h ∙ ap (λ b. b || s) k

-- the lanes of tests hold
pub held : (count : Count) (x y z : Lane) → AreSlots x y z → (conj : List Pred) (t : Told) → (t ≡ IsSet → ⊥) → AreFree (few_of count x y z) → (tests : List Test) → (few_of count x y z).tests ≡ tests → glance tests (extent_of t) ≡ glance_of conj → IsConj conj → HoldLanes conj t (few_of count x y z)
held count x y z i conj t n f tests same g form = record {
  lost = λ e s h. lanes_keep count x y z i f e s (ap (may_meet e) same ∙ meets_tests (satisfies e conj) (may_meet e tests) (is_whole (extent_of t)) h (told e conj tests (extent_of t) g form));
  sure = λ w e s h.
      (let whole = sure_whole t w n in
      let sound = ap are_sound same ∙ whole_sound conj tests (extent_of t) g whole in
      met_wholly (satisfies e conj) (may_meet e tests) (is_whole (extent_of t)) (sym (ap (may_meet e) same) ∙ lanes_say count x y z i sound e s h) whole (told e conj tests (extent_of t) g form));
}
