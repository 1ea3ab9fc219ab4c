-- Events that are built place by place.
use Rattle.std.proofs.Common.{◌≡◌, ℕ, ℤ, zero, suc, ◌+◌, ◌<◌, ltb, ◌&&◌, Bool, true, List, [], ◌∷◌, ◌++◌, Option, Some, None, refl, ap, ◌∙◌, arith}
use Rattle.std.specs.List.{list_all}
use Rattle.std.specs.Option.{option_map_or}
use Rattle.std.proofs.lemmas.Bool.{and_from, and_parts}
use Rattle.std.proofs.lemmas.Bool.Decides.{nat_tests}
use Rattle.std.proofs.lemmas.List.{map_push}
use Rattle.std.proofs.lemmas.List.Folds.{list_all-append}
use Rattle.be_base.specs.declared.names.AttrNo.{AttrNo}
use Rattle.be_model.specs.Matching.{Assignments, attrs_of}
use Rattle.be_model.specs.Schemas.{Attributes, numbered}
use Rattle.be_model.specs.Forms.{attrs_rise}
use Rattle.be_model.specs.Lies.{item_lies, event_lies}
use Rattle.be_event.specs.Events.{sets_by_place}

-- each attribute is below n
abbrev all_below : ℕ → List AttrNo → Bool
all_below n attrs = list_all (λ (a : AttrNo). ltb a.0 n) attrs

below_more : (n : ℕ) (attrs : List AttrNo) → all_below n attrs ≡ true → all_below (suc n) attrs ≡ true
below_more n [] h = refl
below_more n (a ∷ attrs) h =
    let parts = and_parts (ltb a.0 n) (all_below n attrs) h in
    let first : ltb a.0 n ≡ true = parts.0 in
    and_from (ltb a.0 (suc n)) (all_below (suc n) attrs) (grind (arith, nat_tests)) (below_more n attrs parts.1)

-- the attribute n last
abbrev with_last : ℕ → Option (List ℤ) → List AttrNo → List AttrNo
with_last n o attrs = option_map_or (λ vs. attrs ++ numbered n ∷ []) o attrs

attrs_step : (n : ℕ) (o : Option (List ℤ)) (items : Assignments) → attrs_of (option_map_or (λ vs. items ++ (numbered n, vs) ∷ []) o items) ≡ with_last n o (attrs_of items)
attrs_step n None items = refl
attrs_step n (Some vs) items = map_push (λ (i : AttrNo × List ℤ). i.0) items (numbered n, vs)

below_step : (n : ℕ) (o : Option (List ℤ)) (attrs : List AttrNo) → all_below n attrs ≡ true → all_below (suc n) (with_last n o attrs) ≡ true
below_step n None attrs h = below_more n attrs h
below_step n (Some vs) attrs h =
    list_all-append (λ (a : AttrNo). ltb a.0 (suc n)) attrs (numbered n ∷ [])
    ∙ and_from (all_below (suc n) attrs) (ltb n (suc n) && true) (below_more n attrs h) (grind (arith, nat_tests))

by_place-below : (n : ℕ) (values : ℕ → Option (List ℤ)) → all_below n (attrs_of (sets_by_place n values)) ≡ true
by_place-below zero values = refl
by_place-below (suc n) values =
    ap (all_below (suc n)) (attrs_step n (values n) (sets_by_place n values)) ∙ below_step n (values n) (attrs_of (sets_by_place n values)) (by_place-below n values)

rise_one : (n : ℕ) (a : AttrNo) (rest : List AttrNo) → ltb a.0 n ≡ true → attrs_rise (a ∷ rest) ≡ true → all_below n rest ≡ true
    → (all_below n rest ≡ true → attrs_rise rest ≡ true → attrs_rise (rest ++ numbered n ∷ []) ≡ true) → attrs_rise (a ∷ rest ++ numbered n ∷ []) ≡ true
rise_one n a [] first h below more = and_from (ltb a.0 n) true first refl
rise_one n a (b ∷ rest) first h below more =
    let parts = and_parts (ltb a.0 b.0) (attrs_rise (b ∷ rest)) h in
    and_from (ltb a.0 b.0) (attrs_rise (b ∷ rest ++ numbered n ∷ [])) parts.0 (more below parts.1)

-- rising attributes below n, with n
rise_last : (n : ℕ) (attrs : List AttrNo) → all_below n attrs ≡ true → attrs_rise attrs ≡ true → attrs_rise (attrs ++ numbered n ∷ []) ≡ true
rise_last n [] below h = refl
rise_last n (a ∷ attrs) below h =
    let parts = and_parts (ltb a.0 n) (all_below n attrs) below in
    rise_one n a attrs parts.0 h parts.1 (rise_last n attrs)

rise_step : (n : ℕ) (o : Option (List ℤ)) (attrs : List AttrNo) → all_below n attrs ≡ true → attrs_rise attrs ≡ true → attrs_rise (with_last n o attrs) ≡ true
rise_step n None attrs below h = h
rise_step n (Some vs) attrs below h = rise_last n attrs below h

-- the attributes of an event that is built place by place rise
pub by_place-rises : (n : ℕ) (values : ℕ → Option (List ℤ)) → attrs_rise (attrs_of (sets_by_place n values)) ≡ true
by_place-rises zero values = refl
by_place-rises (suc n) values =
    ap attrs_rise (attrs_step n (values n) (sets_by_place n values))
    ∙ rise_step n (values n) (attrs_of (sets_by_place n values)) (by_place-below n values) (by_place-rises n values)

-- and so they do with the next place
pub next_rises : (n : ℕ) (values : ℕ → Option (List ℤ)) (event : Assignments) → event ≡ sets_by_place n values → attrs_rise (attrs_of event ++ numbered n ∷ []) ≡ true
next_rises n values event e =
    ap (λ (x : Assignments). attrs_rise (attrs_of x ++ numbered n ∷ [])) e ∙ rise_last n (attrs_of (sets_by_place n values)) (by_place-below n values) (by_place-rises n values)

-- places with the same values
pub by_place-same : (n : ℕ) (f g : ℕ → Option (List ℤ)) → ((place : ℕ) → place < n → f place ≡ g place) → sets_by_place n f ≡ sets_by_place n g
by_place-same zero f g h = refl
by_place-same (suc n) f g h =
    ap (λ o. option_map_or (λ vs. sets_by_place n f ++ (numbered n, vs) ∷ []) o (sets_by_place n f)) (h n (omega arith))
    ∙ ap (λ x. option_map_or (λ vs. x ++ (numbered n, vs) ∷ []) (g n) x) (by_place-same n f g (λ place k. h place (omega arith)))

lies_step : (s : Attributes) (n : ℕ) (o : Option (List ℤ)) (items : Assignments) → ((vs : List ℤ) → o ≡ Some vs → item_lies s (numbered n, vs) ≡ true) → event_lies s items ≡ true
    → event_lies s (option_map_or (λ vs. items ++ (numbered n, vs) ∷ []) o items) ≡ true
lies_step s n None items h k = k
lies_step s n (Some vs) items h k =
    list_all-append (item_lies s) items ((numbered n, vs) ∷ []) ∙ and_from (event_lies s items) (item_lies s (numbered n, vs) && true) k (and_from (item_lies s (numbered n, vs)) true (h vs refl) refl)

-- an event whose values lie in the schema lies there
pub by_place-lies : (s : Attributes) (n : ℕ) (values : ℕ → Option (List ℤ)) → ((place : ℕ) (vs : List ℤ) → values place ≡ Some vs → item_lies s (numbered place, vs) ≡ true) → event_lies s (sets_by_place n values) ≡ true
by_place-lies s zero values h = refl
by_place-lies s (suc n) values h = lies_step s n (values n) (sets_by_place n values) (h n) (by_place-lies s n values h)
