-- A run of texts: how one is found in it, and how one more is put last.
use Rattle.std.proofs.Common.{◌≡◌, ℕ, zero, suc, ◌+◌, ◌-◌, ◌<◌, ◌≤◌, List, [], ◌∷◌, ◌++◌, length, take, drop, get_or, length-append, length-drop, drop-drop, Some, slice_get, refl, sym, ap, ap₂, ◌∙◌, subst, arith}
use Rattle.std.proofs.lemmas.List.{take-append-le, drop-append-le, take_all, drop_all}
use Rattle.std.proofs.lemmas.Option.{get_or_from_slice_get}
use Rattle.be_base.specs.Text.{Text}
use Rattle.be_copy.specs.Runs.{cut_at, AreEnds}

-- where the text at a place begins
abbrev pub start_at : ℕ → List ℕ → ℕ → ℕ
start_at start ends zero = start
start_at start ends (suc i) = get_or ends i 0

-- the text at a place, of such an end
pub record IsCut (start : ℕ) (ends bytes : List ℕ) (i end : ℕ) : Type 0 where
  pub rises : start_at start ends i ≤ end
  pub behind : start ≤ start_at start ends i
  pub within : end - start ≤ length bytes
  pub text : slice_get (cut_at start ends bytes) i ≡ Some (take (end - start_at start ends i) (drop (start_at start ends i - start) bytes))

no_more : (n : ℕ) → n - n ≡ 0
no_more n = omega arith

first_cut : (start end : ℕ) (bytes : List ℕ) → take (end - start) bytes ≡ take (end - start) (drop (start - start) bytes)
first_cut start end bytes = ap (λ (n : ℕ). take (end - start) (drop n bytes)) (sym (no_more start))

next_start : (start end : ℕ) (ends : List ℕ) (i : ℕ) → start_at start (end ∷ ends) (suc i) ≡ start_at end ends i
next_start start end ends zero = refl
next_start start end ends (suc i) = refl

pub is_cut : (start : ℕ) (ends bytes : List ℕ) (i end : ℕ) → AreEnds start ends bytes → slice_get ends i ≡ Some end → IsCut start ends bytes i end
is_cut start [] bytes i end are at = absurd cc
is_cut start (e ∷ es) bytes zero end are at =
    let same : e ≡ end = get_or_from_slice_get (e ∷ es) 0 end 0 at in
    subst (λ (x : ℕ). IsCut start (e ∷ es) bytes zero x) same (record {
      rises = are.0;
      behind = omega arith;
      within = are.1;
      text = ap (λ (t : Text). Some t) (first_cut start e bytes);
    })
is_cut start (e ∷ es) bytes (suc i) end are at =
    let r = is_cut e es (drop (e - start) bytes) i end are.2 at in
    let next = next_start start e es i in
    let long = length-drop (e - start) bytes in
    record {
      rises = subst (λ (n : ℕ). n ≤ end) (sym next) r.rises;
      behind = subst (λ (n : ℕ). start ≤ n) (sym next) (omega (arith, are.0, r.behind));
      within = omega (arith, are.0, are.1, r.within, long);
      text =
          r.text
          ∙ ap (λ (t : Text). Some t) (ap (take (end - start_at e es i)) (drop-drop (start_at e es i - e) (e - start) bytes ∙ ap (λ (n : ℕ). drop n bytes) (omega (arith, are.0, r.behind)))
          ∙ ap (λ (n : ℕ). take (end - n) (drop (n - start) bytes)) (sym next));
    }

before_suc : (i : ℕ) → suc i - 1 ≡ i
before_suc i = omega arith

-- a text behind the first
pub later_within : (ends bytes : List ℕ) (place end : ℕ) → AreEnds 0 ends bytes → slice_get ends place ≡ Some end → 0 < place → (get_or ends (place - 1) 0 ≤ end) × (end ≤ length bytes)
later_within ends bytes zero end are at some = absurd (omega (arith, some))
later_within ends bytes (suc i) end are at some =
    let is = is_cut 0 ends bytes (suc i) end are at in
    (subst (λ (n : ℕ). get_or ends n 0 ≤ end) (sym (before_suc i)) is.rises, omega (arith, is.within))

pub later_text : (ends bytes : List ℕ) (place end : ℕ) → AreEnds 0 ends bytes → slice_get ends place ≡ Some end → 0 < place
    → slice_get (cut_at 0 ends bytes) place ≡ Some (take (end - get_or ends (place - 1) 0) (drop (get_or ends (place - 1) 0) bytes))
later_text ends bytes zero end are at some = absurd (omega (arith, some))
later_text ends bytes (suc i) end are at some =
    let is = is_cut 0 ends bytes (suc i) end are at in
    let start = get_or ends i 0 in
    subst (λ (n : ℕ). slice_get (cut_at 0 ends bytes) (suc i) ≡ Some (take (end - get_or ends n 0) (drop (get_or ends n 0) bytes))) (sym (before_suc i))
    (is.text ∙ ap (λ (n : ℕ). Some (take (end - start) (drop n bytes))) (from_none start))
  where
    from_none : (n : ℕ) → n - 0 ≡ n
    from_none n = omega arith

-- there are as many texts as ends
pub as_many : (start : ℕ) (ends bytes : List ℕ) → length (cut_at start ends bytes) ≡ length ends
as_many start [] bytes = refl
as_many start (end ∷ ends) bytes = ap suc (as_many end ends (drop (end - start) bytes))

-- one more text, whose end is that of all bytes
pub cut_on : (start : ℕ) (ends bytes text : List ℕ) (end : ℕ) → AreEnds start ends bytes → end ≡ start + length bytes + length text
    → (cut_at start (ends ++ end ∷ []) (bytes ++ text) ≡ cut_at start ends bytes ++ text ∷ []) × AreEnds start (ends ++ end ∷ []) (bytes ++ text)
cut_on start [] bytes text end are is =
    let none = ap length are in
    let all : bytes ++ text ≡ text = ap (λ (l : List ℕ). l ++ text) are in
    let long : end - start ≡ length text = omega (arith, is, none) in (
      ap (λ (t : Text). t ∷ []) (ap (take (end - start)) all ∙ take_all (end - start) text (omega (arith, long))),
      (omega (arith, is), omega (arith, long, ap length all), ap (drop (end - start)) all ∙ drop_all (end - start) text (omega (arith, long))),
    )
cut_on start (e ∷ es) bytes text end are is =
    let r = cut_on e es (drop (e - start) bytes) text end are.2 (omega (arith, is, are.0, are.1, length-drop (e - start) bytes)) in
    let rest = drop-append-le (e - start) bytes text are.1 in (
      ap₂ (λ (t : Text) (ts : List Text). t ∷ ts) (take-append-le (e - start) bytes text are.1) (ap (cut_at e (es ++ end ∷ [])) rest ∙ r.0),
      (are.0, omega (arith, are.1, length-append bytes text), subst (AreEnds e (es ++ end ∷ [])) (sym rest) r.1),
    )
