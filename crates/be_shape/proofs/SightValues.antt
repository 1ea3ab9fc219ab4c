-- What a sight tells of values.
use Rattle.std.proofs.Common.{◌≡◌, ◌⊎◌, ⊎_elim, inl, inr, ℕ, ℤ, ◌+◌, ◌<◌, ◌≤◌, eqb, Bool, true, false, ◌||◌, List, [], ◌∷◌, length, get_or, set, replicate, Option, Some, None, cond, refl, sym, ap, ◌∙◌, subst, arith, get_or-set_other, get_or-set_same}
use Rattle.std.proofs.lemmas.List.{get_or-replicate, get_or_default}
use Rattle.std.proofs.lemmas.Bool.{and_parts, cases_eq}
use Rattle.be_base.specs.declared.names.AttrNo.{AttrNo}
use Rattle.be_model.specs.Domains.{Range, is_within, is_some_within}
use Rattle.be_model.specs.Forms.{attrs_rise}
use Rattle.be_model.specs.Matching.{Assignments, attrs_of, values_of}
use Rattle.be_model.proofs.EventItems.{values_of-at, values_of-none}
use Rattle.be_shape.specs.Lanes.{seen, is_single, are_single}
use Rattle.be_shape.specs.Sights.{TellValues}

abbrev unset : ℕ
unset = 4294967295

-- of several values, or of none in a set, nothing is told
pub several_seen : (vs : List ℤ) → (length vs ≡ 1 → ⊥) → 0 ≡ seen (Some vs)
several_seen [] n = refl
several_seen (v ∷ []) n = absurd (n refl)
several_seen (v ∷ w ∷ vs) n = refl

abbrev IsTold : ℕ → Option (List ℤ) → Type 0
IsTold x vs = x ≡ seen vs

abbrev IsPassed : Assignments → AttrNo → ℕ → Type 0
IsPassed e a i = (j : ℕ) (x : AttrNo × List ℤ) → j < i → (get_or e j x).0.0 ≡ a.0 → ⊥

-- an attribute of the items up to a place is told of, and nothing is told of another one
abbrev pub AreNoted : List ℕ → Assignments → ℕ → Type 0
AreNoted table e i = (a : AttrNo) (d : ℕ) → a.0 < 256 → IsTold (get_or table a.0 d) (values_of e a) ⊎ ((get_or table a.0 d ≡ unset) × IsPassed e a i)

pub noted_none : (e : Assignments) → AreNoted (replicate 256 unset) e 0
noted_none e = λ a d few. inr (get_or-replicate 256 a.0 unset d few, λ j x l k. absurd (omega arith))

-- an item of another attribute
one_passed : (e : Assignments) (i : ℕ) (x : AttrNo × List ℤ) (a : AttrNo) → i < length e → x ≡ get_or e i x → (a.0 ≡ x.0.0 → ⊥) → IsPassed e a i → IsPassed e a (i + 1)
one_passed e i x a l is other was =
    λ j y below k.
    ⊎_elim
    (λ at. other (sym k ∙ ap (λ (n : ℕ). (get_or e n y).0.0) at ∙ ap (λ (z : AttrNo × List ℤ). z.0.0) (get_or_default e i y x l ∙ sym is)))
    (λ apart. was j y (omega (arith, below, apart)) k)
    (cases_eq j i)

kept_told : (table more : List ℕ) (e : Assignments) (i : ℕ) (x : AttrNo × List ℤ) (a : AttrNo) (d : ℕ) → i < length e → x ≡ get_or e i x → (a.0 ≡ x.0.0 → ⊥) → get_or more a.0 d ≡ get_or table a.0 d
    → IsTold (get_or table a.0 d) (values_of e a) ⊎ ((get_or table a.0 d ≡ unset) × IsPassed e a i)
    → IsTold (get_or more a.0 d) (values_of e a) ⊎ ((get_or more a.0 d ≡ unset) × IsPassed e a (i + 1))
kept_told table more e i x a d l is other same was =
    ⊎_elim (λ t. inl (subst (λ h. IsTold h (values_of e a)) (sym same) t)) (λ n. inr (same ∙ n.0, one_passed e i x a l is other n.1)) was

-- one more item is told of
pub noted_put : (table : List ℕ) (e : Assignments) (i : ℕ) (x : AttrNo × List ℤ) (x1 : ℕ) → length table ≡ 256 → attrs_rise (attrs_of e) ≡ true → i < length e → x ≡ get_or e i x
    → x.0.0 < 256 → IsTold x1 (Some x.1) → AreNoted table e i → AreNoted (set table x.0.0 x1) e (i + 1)
noted_put table e i x x1 size up l is few told was = λ a d within.
    ⊎_elim
    (λ same.
    let of_item : values_of e a ≡ Some x.1 = values_of-at e a i x up l (ap (λ (z : AttrNo × List ℤ). z.0.0) (sym is) ∙ sym same) ∙ ap (λ (z : AttrNo × List ℤ). Some z.1) (sym is) in
    let at : get_or (set table x.0.0 x1) a.0 d ≡ x1 = ap (λ (n : ℕ). get_or (set table x.0.0 x1) n d) same ∙ get_or-set_same table x.0.0 x1 d (omega (arith, size, few)) in
    inl (subst (λ h. IsTold h (values_of e a)) (sym at) (subst (λ vs. IsTold x1 vs) (sym of_item) told)))
    (λ other. kept_told table (set table x.0.0 x1) e i x a d l is other (get_or-set_other table x.0.0 a.0 x1 d other) (was a d within))
    (cases_eq a.0 x.0.0)

-- an item of an attribute beyond the table
pub noted_beyond : (table : List ℕ) (e : Assignments) (i : ℕ) (x : AttrNo × List ℤ) → i < length e → x ≡ get_or e i x → 256 ≤ x.0.0 → AreNoted table e i → AreNoted table e (i + 1)
noted_beyond table e i x l is far was = λ a d within. kept_told table table e i x a d l is (λ same. omega (arith, far, within, same)) refl (was a d within)

-- after all items everything is told
pub told_all : (table : List ℕ) (e : Assignments) (i : ℕ) → length e ≤ i → AreNoted table e i → TellValues table e
told_all table e i end noted = λ a d few.
    ⊎_elim (λ t. t)
    (λ n. let no_value : values_of e a ≡ None = values_of-none e a (λ j x l k. n.1 j x (omega (arith, end, l)) k) in
    n.0 ∙ ap seen (sym no_value))
    (noted a d few)

-- of one value the range holds it or none
pub one_inside : (r : Range) (v : ℤ) → is_some_within r (v ∷ []) ≡ is_within r v
one_inside r v = by_test (is_within r v)
  where
    by_test : (b : Bool) → (b || false) ≡ b
    by_test true = refl
    by_test false = refl

-- no value of the attribute, or a single one
abbrev pub maybe_single : Option (List ℤ) → Bool
maybe_single None = true
maybe_single (Some vs) = is_single vs

pub values_single : (e : Assignments) (a : AttrNo) → are_single e ≡ true → maybe_single (values_of e a) ≡ true
values_single [] a h = refl
values_single (x ∷ xs) a h =
    let parts = and_parts (is_single x.1) (are_single xs) h in
    by_test (eqb x.0.0 a.0) parts.0 (values_single xs a parts.1)
  where
    by_test : (b : Bool) → is_single x.1 ≡ true → maybe_single (values_of xs a) ≡ true → maybe_single (cond b (Some x.1) (values_of xs a)) ≡ true
    by_test true k m = k
    by_test false k m = m
