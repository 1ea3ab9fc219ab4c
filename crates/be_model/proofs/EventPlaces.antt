-- The places that an event notes.
use Rattle.std.proofs.Common.{◌≡◌, ℕ, ℤ, ◌+◌, ◌<◌, ◌≤◌, suc, zero, true, ltb, List, [], ◌∷◌, ◌++◌, length, get_or, set, None, ⊎_elim, sym, ap, ◌∙◌, arith, get_or-set_other, get_or-set_same}
use Rattle.std.proofs.lemmas.Bool.{and_parts, ltb-true, lt-ltb, cases_lt, le-ltb, cond-true, cond-false}
use Rattle.std.proofs.lemmas.List.{length-map, length-set, length_push, get_or_push, get_or_append_left}
use Rattle.be_base.specs.declared.names.AttrNo.{AttrNo}
use Rattle.be_model.specs.Events.{IsNoted, TellPlaces, noted}
use Rattle.be_model.specs.Forms.{AreValues, attrs_rise}
use Rattle.be_model.specs.Matching.{Assignments, attrs_of, values_of}
use Rattle.be_model.proofs.Forms.{IsEvent-push}
use Rattle.be_model.proofs.EventItems.{attrs_rise-tail, values_of-none}

far_below : (x : AttrNo) (bs : List AttrNo) (a : AttrNo) → attrs_rise (x ∷ bs ++ a ∷ []) ≡ true → x.0 + length bs < a.0
far_below x [] a h = omega (arith, ltb-true x.0 a.0 (and_parts (ltb x.0 a.0) true h).0)
far_below x (b ∷ bs) a h =
    let parts = and_parts (ltb x.0 b.0) (attrs_rise (b ∷ bs ++ a ∷ [])) h in
    omega (arith, ltb-true x.0 b.0 parts.0, far_below b bs a parts.1)

-- there are no more items than attributes below the next one
pub few_below : (e : Assignments) (a : AttrNo) → attrs_rise (attrs_of e ++ a ∷ []) ≡ true → length e ≤ a.0
few_below [] a h = omega arith
few_below (x ∷ xs) a h = omega (arith, far_below x.0 (attrs_of xs) a h, length-map xs (λ (item : AttrNo × List ℤ). item.0))

-- the attribute of an item is below the next one
pub below_next : (e : Assignments) (a : AttrNo) (i : ℕ) (d : AttrNo × List ℤ) → attrs_rise (attrs_of e ++ a ∷ []) ≡ true → i < length e → (get_or e i d).0.0 < a.0
below_next [] a i d h l = absurd (omega arith)
below_next (x ∷ xs) a zero d h l = omega (arith, far_below x.0 (attrs_of xs) a h)
below_next (x ∷ xs) a (suc i) d h l = below_next xs a i d (attrs_rise-tail x.0 (attrs_of xs ++ a ∷ []) h) (omega arith)

earlier : (places : List ℕ) (a : AttrNo) (place b : ℕ) → b < a.0 → get_or (noted places a place) b 0 ≡ get_or places b 0
earlier places a place b h =
    ⊎_elim
    (λ few. ap (λ ps. get_or ps b 0) (cond-true (ltb a.0 64) (set places a.0 place) places (lt-ltb a.0 64 few)) ∙ get_or-set_other places a.0 b place 0 (λ e. omega arith))
    (λ many. ap (λ ps. get_or ps b 0) (cond-false (ltb a.0 64) (set places a.0 place) places (le-ltb a.0 64 many)))
    (cases_lt a.0 64)

length_noted : (places : List ℕ) (a : AttrNo) (place : ℕ) → length (noted places a place) ≡ length places
length_noted places a place =
    ⊎_elim
    (λ few. ap length (cond-true (ltb a.0 64) (set places a.0 place) places (lt-ltb a.0 64 few)) ∙ length-set places a.0 place)
    (λ many. ap length (cond-false (ltb a.0 64) (set places a.0 place) places (le-ltb a.0 64 many)))
    (cases_lt a.0 64)

-- the places tell of one more item once it is noted
pub told_push : (e : Assignments) (item : AttrNo × List ℤ) (places : List ℕ) → attrs_rise (attrs_of e ++ item.0 ∷ []) ≡ true → length places ≡ 64 → TellPlaces places e
    → TellPlaces (noted places item.0 (length e)) (e ++ item ∷ [])
told_push e item places h size told = λ i d l k.
    ⊎_elim
    (λ before.
    let same = get_or_append_left e (item ∷ []) d i before in
    let attr = ap (λ (x : AttrNo × List ℤ). x.0.0) same in
    ap (λ b. get_or (noted places item.0 (length e)) b 0) attr
    ∙ earlier places item.0 (length e) (get_or e i d).0.0 (below_next e item.0 i d h before)
    ∙ told i d before (omega (arith, attr, k)))
    (λ last.
    let here : length e ≡ i = omega (arith, l, length_push e item) in
    let attr = ap (λ (x : AttrNo × List ℤ). x.0.0) (get_or_push e item d i here) in
    let few : item.0.0 < 64 = omega (arith, attr, k) in
    ap (λ b. get_or (noted places item.0 (length e)) b 0) attr
    ∙ ap (λ ps. get_or ps item.0.0 0) (cond-true (ltb item.0.0 64) (set places item.0.0 (length e)) places (lt-ltb item.0.0 64 few))
    ∙ get_or-set_same places item.0.0 (length e) 0 (omega (arith, size, few))
    ∙ here)
    (cases_lt i (length e))

-- an attribute whose noted place isn't that of its item has no item
pub none_noted : (e : Assignments) (places : List ℕ) (a : AttrNo) (place : ℕ) → TellPlaces places e → a.0 < 64 → place ≡ get_or places a.0 0
    → ((d : AttrNo × List ℤ) → place < length e → (get_or e place d).0.0 ≡ a.0 → ⊥) → values_of e a ≡ None
none_noted e places a place told few is h =
    values_of-none e a (λ i d l k.
    let here : place ≡ i = is ∙ ap (λ b. get_or places b 0) (sym k) ∙ told i d l (omega (arith, k, few)) in
    h d (omega (arith, here, l)) (ap (λ j. (get_or e j d).0.0) here ∙ k))

-- an event with one more set, and its places
pub IsNoted-push : (e : Assignments) (item : AttrNo × List ℤ) (places : List ℕ) → IsNoted e places → AreValues item.1 → attrs_rise (attrs_of e ++ item.0 ∷ []) ≡ true
    → IsNoted (e ++ item ∷ []) (noted places item.0 (length e))
IsNoted-push e item places f g h =
    record {
      form = IsEvent-push e item f.form g h;
      size = length_noted places item.0 (length e) ∙ f.size;
      told = told_push e item places h f.size f.told;
    }
