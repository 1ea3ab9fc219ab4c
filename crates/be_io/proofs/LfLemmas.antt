-- Where the first LF stands.
use Rattle.std.proofs.Common.{◌≡◌, ℕ, zero, suc, ◌+◌, ◌-◌, ◌<◌, ◌≤◌, ◌==◌, ◌||◌, false, List, [], ◌∷◌, ◌++◌, length, take, drop, get_or, Option, Some, None, MatchOption, refl, sym, ap, ◌∙◌, arith, append_assoc, length-drop}
use Rattle.std.proofs.lemmas.List.{take-append-drop, drop_more, drop-drop, drop-take, take_all}
use Rattle.std.proofs.lemmas.List.Folds.{list_any-append}
use Rattle.std.proofs.lemmas.Bool.{eqb-true, false_from_ne_true}
use Rattle.std.proofs.Math.Seq.{take-add}
use Rattle.memchr.specs.Find.{is_byte, IsFirstByte}
use Rattle.be_io.specs.Lines.{has_lf}
use Rattle.be_io.specs.Reading.{IsFirstLf}

-- an LF stands in two texts together where it stands in one of them
pub has_lf-append : (xs ys : List ℕ) → has_lf (xs ++ ys) ≡ (has_lf xs || has_lf ys)
has_lf-append xs ys = list_any-append (λ b. b == 10) xs ys

-- texts without an LF have none together
pub has_lf-none : (xs ys : List ℕ) → has_lf xs ≡ false → has_lf ys ≡ false → has_lf (xs ++ ys) ≡ false
has_lf-none xs ys none_left none_right =
    has_lf-append xs ys ∙ ap (λ b. b || has_lf ys) none_left ∙ none_right

-- where no place below n has an LF, the first n bytes have none
pub has_lf-take : (n : ℕ) (bytes : List ℕ) → n ≤ length bytes → ((k : ℕ) → k < n → (get_or bytes k 0 == 10) ≡ false) → has_lf (take n bytes) ≡ false
has_lf-take zero bytes within none = refl
has_lf-take (suc n) [] within none = refl
has_lf-take (suc n) (b ∷ bytes) within none =
    let later : has_lf (take n bytes) ≡ false = has_lf-take n bytes (omega arith) (λ k below. none (suc k) (omega arith)) in
    ap (λ t. t || has_lf (take n bytes)) (none 0 (omega arith)) ∙ later

-- a text whose first LF stands at this place
pub IsFirstLf-from_none : (bytes : List ℕ) (at : ℕ) → at < length bytes → has_lf (take at bytes) ≡ false → get_or bytes at 0 ≡ 10 → IsFirstLf bytes at
IsFirstLf-from_none bytes at within none is_lf = (
  within,
  (
    none,
    sym (take-append-drop at bytes) ∙ ap (λ rest. take at bytes ++ rest) (drop_more bytes at 0 within ∙ ap (λ b. b ∷ drop (at + 1) bytes) is_lf),
  ),
)

-- what a search for an LF answers
pub IsFirstLf-from_search : (bytes : List ℕ) (found : Option ℕ) → IsFirstByte (is_byte 10) bytes found → MatchOption found (has_lf bytes ≡ false) (IsFirstLf bytes)
IsFirstLf-from_search bytes None nowhere =
    ap has_lf (sym (take_all (length bytes) bytes (omega arith))) ∙ has_lf-take (length bytes) bytes (omega arith) (λ k below. false_from_ne_true (get_or bytes k 0 == 10) (nowhere k (omega arith) below))
IsFirstLf-from_search bytes (Some at) found =
    IsFirstLf-from_none bytes at found.0.high (has_lf-take at bytes (let high : at < length bytes = found.0.high in omega arith) (λ k below. false_from_ne_true (get_or bytes k 0 == 10) (found.0.before k (omega arith) below))) (eqb-true (get_or bytes at 0) 10 found.1)

-- an LF that was found behind the bytes that were searched before
pub IsFirstLf-later : (bytes : List ℕ) (scanned at : ℕ) → scanned ≤ length bytes → has_lf (take scanned bytes) ≡ false → IsFirstLf (drop scanned bytes) at → IsFirstLf bytes (scanned + at)
IsFirstLf-later bytes scanned at within clean found =
    let inside : at < length (drop scanned bytes) = found.0 in (
      omega (arith, length-drop scanned bytes),
      (
        ap has_lf (take-add scanned at bytes) ∙ has_lf-none (take scanned bytes) (take at (drop scanned bytes)) clean found.1.0,
        sym (take-append-drop scanned bytes) ∙ ap (λ rest. take scanned bytes ++ rest) found.1.1 ∙ sym (append_assoc (take scanned bytes) (take at (drop scanned bytes)) (10 ∷ drop (at + 1) (drop scanned bytes))) ∙ ap (λ front. front ++ 10 ∷ drop (at + 1) (drop scanned bytes)) (sym (take-add scanned at bytes)) ∙ ap (λ rest. take (scanned + at) bytes ++ 10 ∷ rest) (drop-drop (at + 1) scanned bytes ∙ ap (λ n. drop n bytes) (let e : scanned + (at + 1) ≡ scanned + at + 1 = omega arith in e)),
      ),
    )

-- no LF stands in what was searched before, nor in the rest
pub has_lf-later : (bytes : List ℕ) (scanned : ℕ) → has_lf (take scanned bytes) ≡ false → has_lf (drop scanned bytes) ≡ false → has_lf bytes ≡ false
has_lf-later bytes scanned clean none =
    ap has_lf (sym (take-append-drop scanned bytes)) ∙ has_lf-none (take scanned bytes) (drop scanned bytes) clean none

-- the later part of a part of a buffer
pub drop-part : (buf : List ℕ) (start end scanned : ℕ) → start + scanned ≤ end → take (end - (start + scanned)) (drop (start + scanned) buf) ≡ drop scanned (take (end - start) (drop start buf))
drop-part buf start end scanned within =
    let n = end - (start + scanned) in
    let split : end - start ≡ scanned + n = omega arith in
    ap (λ rest. take n rest) (sym (drop-drop scanned start buf)) ∙ sym (drop-take scanned n (drop start buf)) ∙ ap (λ k. drop scanned (take k (drop start buf))) (sym split)
