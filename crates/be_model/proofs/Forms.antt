-- Rising lists with one more element, and with fewer.
use Rattle.std.proofs.Common.{◌≡◌, ◌↔◌, ℕ, zero, suc, ℤ, ◌-◌, ◌<◌, true, ltb, ◌&&◌, List, [], ◌∷◌, ◌++◌, length, get_or, drop, refl, sym, ap, ◌∙◌, arith}
use Rattle.std.specs.Int.Signed.{lt_z}
use Rattle.std.proofs.lemmas.Bool.{and_from, and_parts}
use Rattle.std.proofs.lemmas.List.{length_push, map_push, length-map, get_or-map}
use Rattle.std.proofs.lemmas.List.Elements.{All-push}
use Rattle.be_base.specs.declared.names.AttrNo.{AttrNo}
use Rattle.be_model.specs.Forms.{AreValues, IsEvent, rises, attrs_rise}
use Rattle.be_model.specs.Matching.{Assignments, attrs_of}
use Rattle.be_model.proofs.Lists.{rises_push}

-- a rising list with one more value
pub rises-push : (xs : List ℤ) (v d : ℤ) → 0 < length xs → rises (xs ++ v ∷ []) ≡ (rises xs && lt_z (get_or xs (length xs - 1) d) v)
rises-push xs v d h = rises_push rises lt_z (λ _. refl) (λ _ _ _. refl) xs v d h

-- the values behind the first
pub rises_rest : (v : ℤ) (vs : List ℤ) → rises (v ∷ vs) ≡ true → rises vs ≡ true
rises_rest v [] h = refl
rises_rest v (x ∷ xs) h = (and_parts (lt_z v x) (rises (x ∷ xs)) h).1

pub rises_drop : (n : ℕ) (vs : List ℤ) → rises vs ≡ true → rises (drop n vs) ≡ true
rises_drop zero vs h = h
rises_drop (suc n) [] h = refl
rises_drop (suc n) (v ∷ vs) h = rises_drop n vs (rises_rest v vs h)

-- a set with one more value, which is above the last
pub AreValues-push : (xs : List ℤ) (v d : ℤ) → AreValues xs → length xs < 64 → (lt_z (get_or xs (length xs - 1) d) v ≡ true ↔ AreValues (xs ++ v ∷ []))
AreValues-push xs v d f h =
    let e = rises-push xs v d f.some in (
      λ k. record {
        some = omega (arith, length_push xs v);
        few = omega (arith, length_push xs v);
        rising = e ∙ and_from (rises xs) (lt_z (get_or xs (length xs - 1) d) v) f.rising k;
      },
      λ g. (and_parts (rises xs) (lt_z (get_or xs (length xs - 1) d) v) (sym e ∙ g.rising)).1,
    )

-- attributes with one more
pub attrs_rise-push : (xs : List AttrNo) (a d : AttrNo) → attrs_rise xs ≡ true → 0 < length xs → attrs_rise (xs ++ a ∷ []) ≡ ltb (get_or xs (length xs - 1) d).0 a.0
attrs_rise-push xs a d f h =
    rises_push attrs_rise (λ b c. ltb b.0 c.0) (λ _. refl) (λ _ _ _. refl) xs a d h
    ∙ ap (λ b. b && ltb (get_or xs (length xs - 1) d).0 a.0) f

attrs_of-push : (e : Assignments) (item : AttrNo × List ℤ) → attrs_of (e ++ item ∷ []) ≡ attrs_of e ++ item.0 ∷ []
attrs_of-push e item = map_push (λ (i : AttrNo × List ℤ). i.0) e item

last_attr : (e : Assignments) (d : AttrNo × List ℤ) → 0 < length e → get_or (attrs_of e) (length (attrs_of e) - 1) d.0 ≡ (get_or e (length e - 1) d).0
last_attr e d h =
    let f = λ (i : AttrNo × List ℤ). i.0 in
    ap (λ n. get_or (attrs_of e) (n - 1) d.0) (length-map e f) ∙ get_or-map f e (length e - 1) d d.0 (omega arith)

-- an attribute may be put last where it is above the last
pub attrs_rise-last : (e : Assignments) (a : AttrNo) (d : AttrNo × List ℤ) → attrs_rise (attrs_of e) ≡ true → 0 < length e → attrs_rise (attrs_of e ++ a ∷ []) ≡ ltb (get_or e (length e - 1) d).0.0 a.0
attrs_rise-last e a d f h =
    attrs_rise-push (attrs_of e) a d.0 f (omega (arith, length-map e (λ (i : AttrNo × List ℤ). i.0)))
    ∙ ap (λ (b : AttrNo). ltb b.0 a.0) (last_attr e d h)

-- an event with one more set
pub IsEvent-push : (e : Assignments) (item : AttrNo × List ℤ) → IsEvent e → AreValues item.1 → attrs_rise (attrs_of e ++ item.0 ∷ []) ≡ true → IsEvent (e ++ item ∷ [])
IsEvent-push e item f g h =
    record {
      rising = ap attrs_rise (attrs_of-push e item) ∙ h;
      sets = All-push (λ (i : AttrNo × List ℤ). AreValues i.1) e item f.sets g;
    }
