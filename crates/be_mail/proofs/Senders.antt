-- The letters of each seat.
use Rattle.std.proofs.Common.{◌≡◌, ◌≢◌, ℕ, zero, suc, ◌<◌, eqb, eq-eqb, ne_eqb, Bool, true, false, cond, List, [], ◌∷◌, ◌++◌, length, map, refl, ap, ◌∙◌, arith}
use Rattle.std.proofs.lemmas.List.{map-append, append-nil}
use Rattle.std.proofs.lemmas.List.Elements.{filter-append}
use Rattle.std.specs.Prelude.{filter, Contains, All}
use lib.ListN.{get_or}
use Rattle.be_model.specs.Letters.{PlainLetter}
use Rattle.be_mail.specs.Letters.{Posting, letter_in, letters_from}

pub letters_from-append : (seat : ℕ) (xs ys : List Posting) → letters_from seat (xs ++ ys) ≡ letters_from seat xs ++ letters_from seat ys
letters_from-append seat xs ys =
    let P : Posting → Bool = λ x. eqb x.from seat in
    ap (map letter_in) (filter-append P xs ys) ∙ map-append letter_in (filter P xs) (filter P ys)

one_kept : (seat : ℕ) (x : Posting) (b : Bool) → eqb x.from seat ≡ b → letters_from seat (x ∷ []) ≡ map letter_in (cond b (x ∷ []) [])
one_kept seat x b e = ap (λ c. map letter_in (cond c (x ∷ []) [])) e

-- one more letter, from the seat
pub letters_from-put : (seat : ℕ) (xs : List Posting) (x : Posting) → x.from ≡ seat → letters_from seat (xs ++ x ∷ []) ≡ letters_from seat xs ++ x.letter ∷ []
letters_from-put seat xs x own = letters_from-append seat xs (x ∷ []) ∙ ap (λ l. letters_from seat xs ++ l) (one_kept seat x true (eq-eqb x.from seat own))

-- one more letter, from another
pub letters_from-other : (seat : ℕ) (xs : List Posting) (x : Posting) → x.from ≢ seat → letters_from seat (xs ++ x ∷ []) ≡ letters_from seat xs
letters_from-other seat xs x other =
    letters_from-append seat xs (x ∷ []) ∙ ap (λ l. letters_from seat xs ++ l) (one_kept seat x false (ne_eqb x.from seat other)) ∙ append-nil (letters_from seat xs)

-- each letter is among those of its seat
pub among : (xs : List Posting) (x : Posting) → Contains xs x → Contains (letters_from x.from xs) x.letter
among [] x (k, less, is) = absurd (omega arith)
among (y ∷ ys) x (zero, less, is) =
    let t = first (eqb y.from x.from) (eq-eqb y.from x.from (ap (λ (z : Posting). z.from) is)) in (0, t.0, t.1)
  where
    first : (b : Bool) → b ≡ true → (0 < length (map letter_in (cond b (y ∷ filter (λ (z : Posting). eqb z.from x.from) ys) (filter (λ (z : Posting). eqb z.from x.from) ys)))) × (get_or (map letter_in (cond b (y ∷ filter (λ (z : Posting). eqb z.from x.from) ys) (filter (λ (z : Posting). eqb z.from x.from) ys))) 0 x.letter ≡ x.letter)
    first true e = (omega arith, ap letter_in is)
    first false e = absurd (cc)
among (y ∷ ys) x (suc k, less, is) = later (eqb y.from x.from) (among ys x (k, omega arith, is))
  where
    later : (b : Bool) → Contains (letters_from x.from ys) x.letter → Contains (map letter_in (cond b (y ∷ filter (λ (z : Posting). eqb z.from x.from) ys) (filter (λ (z : Posting). eqb z.from x.from) ys))) x.letter
    later true (j, h, e) = (suc j, omega arith, e)
    later false h = h

-- letters from seats that put none
pub nobody_put : (seats : ℕ) (xs : List Posting) → All (λ (x : Posting). x.from < seats) xs → ((seat : ℕ) → seat < seats → letters_from seat xs ≡ []) → xs ≡ []
nobody_put seats [] from none = refl
nobody_put seats (x ∷ xs) from none = absurd (no_place (letters_from x.from (x ∷ xs)) (none x.from (from 0 x (omega arith))) (among (x ∷ xs) x (0, omega arith, refl)))
  where
    no_place : (l : List PlainLetter) → l ≡ [] → Contains l x.letter → ⊥
    no_place l e (k, h, is) = let n : length l ≡ 0 = ap length e in absurd (omega arith)
