-- A rising set beside rising values, gone along together.
use Rattle.std.proofs.Common.{◌≡◌, ℕ, ℤ, pos, ◌+◌, ◌<◌, ◌≤◌, Bool, true, false, not, ltb, ◌||◌, List, [], ◌∷◌, length, get_or, drop, int_lt, refl, sym, ap, ◌∙◌, arith}
use Rattle.std.specs.Ordering.{int_eq}
use Rattle.std.proofs.lemmas.List.{drop_more, drop_all}
use Rattle.std.proofs.lemmas.Bool.{and_parts, or_parts, or_from, false_from_ne_true, ltb-true, ltb-false}
use Rattle.std.proofs.lemmas.Bool.Decides.{Decides-int_eq, nat_tests}
use Rattle.std.proofs.lemmas.Int.{ints}
use Rattle.be_model.specs.Forms.{rises}
use Rattle.be_model.specs.Matching.{is_among, has_some, lacks_some}
use Rattle.be_model.proofs.Forms.{rises_drop}
use Rattle.be_model.proofs.Putting.{follows}

apart : (x v : ℤ) → int_lt x v ≡ true → v ≡ x → ⊥
apart x v low same = omega (arith, ints)

unequal : (x v : ℤ) → (v ≡ x → ⊥) → int_eq v x ≡ false
unequal x v h = false_from_ne_true (int_eq v x) (λ e. h ((Decides-int_eq v x).0 e))

-- of two numbers that differ one is below the other
pub other_below : (x v : ℤ) → (x ≡ v → ⊥) → int_lt x v ≡ false → int_lt v x ≡ true
other_below x v differ over = grind (arith, nat_tests, ints)

-- a value below the first of rising ones isn't among them
below_first : (x v : ℤ) (vs : List ℤ) → int_lt x v ≡ true → rises (v ∷ vs) ≡ true → is_among (v ∷ vs) x ≡ false
below_first x v [] low h = or_from (int_eq v x) false (unequal x v (apart x v low)) refl
below_first x v (w ∷ ws) low h =
    let parts = and_parts (int_lt v w) (rises (w ∷ ws)) h in
    or_from (int_eq v x) (is_among (w ∷ ws) x) (unequal x v (apart x v low)) (below_first x w ws (follows x v w low parts.0) parts.1)

-- the first of rising ones stands once
first_once : (x : ℤ) (vs : List ℤ) → rises (x ∷ vs) ≡ true → is_among vs x ≡ false
first_once x [] h = refl
first_once x (v ∷ vs) h = let parts = and_parts (int_lt x v) (rises (v ∷ vs)) h in below_first x v vs parts.0 parts.1

turned : (x v : ℤ) → int_eq v x ≡ false → int_eq x v ≡ false
turned x v h = unequal v x (λ same. let e : int_eq v x ≡ true = (Decides-int_eq v x).1 (sym same) in absurd (cc))

-- a number that isn't among the values may be left out
has_some-without : (x : ℤ) (xs vs : List ℤ) → is_among vs x ≡ false → has_some (x ∷ xs) vs ≡ has_some xs vs
has_some-without x xs [] h = refl
has_some-without x xs (v ∷ vs) h =
    let parts = or_parts (int_eq v x) (is_among vs x) h in
    ap (λ (b : Bool). (b || is_among xs v) || has_some (x ∷ xs) vs) (turned x v parts.0)
    ∙ ap (λ (b : Bool). is_among xs v || b) (has_some-without x xs vs parts.1)

lacks_some-without : (x : ℤ) (xs vs : List ℤ) → is_among vs x ≡ false → lacks_some (x ∷ xs) vs ≡ lacks_some xs vs
lacks_some-without x xs [] h = refl
lacks_some-without x xs (v ∷ vs) h =
    let parts = or_parts (int_eq v x) (is_among vs x) h in
    ap (λ (b : Bool). not (b || is_among xs v) || lacks_some (x ∷ xs) vs) (turned x v parts.0)
    ∙ ap (λ (b : Bool). not (is_among xs v) || b) (lacks_some-without x xs vs parts.1)

equal_to : (x v : ℤ) → x ≡ v → int_eq x v ≡ true
equal_to x v same = (Decides-int_eq x v).1 same

-- the first number against the first value
has_greater : (x v : ℤ) (xs vs : List ℤ) → int_lt v x ≡ true → rises (x ∷ xs) ≡ true → has_some (x ∷ xs) (v ∷ vs) ≡ has_some (x ∷ xs) vs
has_greater x v xs vs low h = ap (λ (b : Bool). b || has_some (x ∷ xs) vs) (below_first v x xs low h)

has_lesser : (x v : ℤ) (xs vs : List ℤ) → int_lt x v ≡ true → rises (v ∷ vs) ≡ true → has_some (x ∷ xs) (v ∷ vs) ≡ has_some xs (v ∷ vs)
has_lesser x v xs vs low h = has_some-without x xs (v ∷ vs) (below_first x v vs low h)

lacks_equal : (x v : ℤ) (xs vs : List ℤ) → v ≡ x → rises (v ∷ vs) ≡ true → lacks_some (x ∷ xs) (v ∷ vs) ≡ lacks_some xs vs
lacks_equal x v xs vs same h =
    ap (λ (b : Bool). not (b || is_among xs v) || lacks_some (x ∷ xs) vs) (equal_to x v (sym same))
    ∙ lacks_some-without x xs vs (ap (is_among vs) (sym same) ∙ first_once v vs h)

lacks_greater : (x v : ℤ) (xs vs : List ℤ) → int_lt v x ≡ true → rises (x ∷ xs) ≡ true → lacks_some (x ∷ xs) (v ∷ vs) ≡ true
lacks_greater x v xs vs low h = ap (λ (b : Bool). not b || lacks_some (x ∷ xs) vs) (below_first v x xs low h)

lacks_lesser : (x v : ℤ) (xs vs : List ℤ) → int_lt x v ≡ true → rises (v ∷ vs) ≡ true → lacks_some (x ∷ xs) (v ∷ vs) ≡ lacks_some xs (v ∷ vs)
lacks_lesser x v xs vs low h = lacks_some-without x xs (v ∷ vs) (below_first x v vs low h)

has_some-none : (vs : List ℤ) → has_some [] vs ≡ false
has_some-none [] = refl
has_some-none (v ∷ vs) = has_some-none vs

abbrev at : List ℤ → ℕ → ℤ
at xs i = get_or xs i (pos 0)

-- what is left of both, from the places i and k
at_both : (F : List ℤ → List ℤ → Bool) (xs vs : List ℤ) (i k : ℕ) → i < length xs → k < length vs
    → F (drop i xs) (drop k vs) ≡ F (at xs i ∷ drop (i + 1) xs) (at vs k ∷ drop (k + 1) vs)
at_both F xs vs i k p q =
    ap (λ (ys : List ℤ). F ys (drop k vs)) (drop_more xs i (pos 0) p)
    ∙ ap (λ (ws : List ℤ). F (at xs i ∷ drop (i + 1) xs) ws) (drop_more vs k (pos 0) q)

left_rises : (xs : List ℤ) (i : ℕ) → i < length xs → rises xs ≡ true → rises (at xs i ∷ drop (i + 1) xs) ≡ true
left_rises xs i p h = ap rises (sym (drop_more xs i (pos 0) p)) ∙ rises_drop i xs h

pub has_next_number : (xs vs : List ℤ) (i k : ℕ) → i < length xs → k < length vs → int_lt (at xs i) (at vs k) ≡ true → rises vs ≡ true
    → has_some (drop i xs) (drop k vs) ≡ has_some (drop (i + 1) xs) (drop k vs)
has_next_number xs vs i k p q low h =
    at_both has_some xs vs i k p q ∙ has_lesser (at xs i) (at vs k) (drop (i + 1) xs) (drop (k + 1) vs) low (left_rises vs k q h)
    ∙ sym (ap (λ (ws : List ℤ). has_some (drop (i + 1) xs) ws) (drop_more vs k (pos 0) q))

pub has_next_value : (xs vs : List ℤ) (i k : ℕ) → i < length xs → k < length vs → int_lt (at vs k) (at xs i) ≡ true → rises xs ≡ true
    → has_some (drop i xs) (drop k vs) ≡ has_some (drop i xs) (drop (k + 1) vs)
has_next_value xs vs i k p q low h =
    at_both has_some xs vs i k p q ∙ has_greater (at xs i) (at vs k) (drop (i + 1) xs) (drop (k + 1) vs) low (left_rises xs i p h)
    ∙ sym (ap (λ (ys : List ℤ). has_some ys (drop (k + 1) vs)) (drop_more xs i (pos 0) p))

pub has_no_number : (xs vs : List ℤ) (i k : ℕ) → length xs ≤ i → has_some (drop i xs) (drop k vs) ≡ false
has_no_number xs vs i k p = ap (λ (ys : List ℤ). has_some ys (drop k vs)) (drop_all i xs p) ∙ has_some-none (drop k vs)

pub lacks_both : (xs vs : List ℤ) (i k : ℕ) → i < length xs → k < length vs → at vs k ≡ at xs i → rises vs ≡ true
    → lacks_some (drop i xs) (drop k vs) ≡ lacks_some (drop (i + 1) xs) (drop (k + 1) vs)
lacks_both xs vs i k p q same h =
    at_both lacks_some xs vs i k p q ∙ lacks_equal (at xs i) (at vs k) (drop (i + 1) xs) (drop (k + 1) vs) same (left_rises vs k q h)

pub lacks_next_number : (xs vs : List ℤ) (i k : ℕ) → i < length xs → k < length vs → int_lt (at xs i) (at vs k) ≡ true → rises vs ≡ true
    → lacks_some (drop i xs) (drop k vs) ≡ lacks_some (drop (i + 1) xs) (drop k vs)
lacks_next_number xs vs i k p q low h =
    at_both lacks_some xs vs i k p q ∙ lacks_lesser (at xs i) (at vs k) (drop (i + 1) xs) (drop (k + 1) vs) low (left_rises vs k q h)
    ∙ sym (ap (λ (ws : List ℤ). lacks_some (drop (i + 1) xs) ws) (drop_more vs k (pos 0) q))

pub lacks_found : (xs vs : List ℤ) (i k : ℕ) → i < length xs → k < length vs → int_lt (at vs k) (at xs i) ≡ true → rises xs ≡ true → lacks_some (drop i xs) (drop k vs) ≡ true
lacks_found xs vs i k p q low h =
    at_both lacks_some xs vs i k p q ∙ lacks_greater (at xs i) (at vs k) (drop (i + 1) xs) (drop (k + 1) vs) low (left_rises xs i p h)

lacks_no_value : (xs vs : List ℤ) (i k : ℕ) → length vs ≤ k → lacks_some (drop i xs) (drop k vs) ≡ false
lacks_no_value xs vs i k q = ap (λ (ws : List ℤ). lacks_some (drop i xs) ws) (drop_all k vs q)

lacks_no_number : (xs vs : List ℤ) (i k : ℕ) → length xs ≤ i → k < length vs → lacks_some (drop i xs) (drop k vs) ≡ true
lacks_no_number xs vs i k p q =
    ap (λ (ys : List ℤ). lacks_some ys (drop k vs)) (drop_all i xs p)
    ∙ ap (λ (ws : List ℤ). lacks_some [] ws) (drop_more vs k (pos 0) q)

-- behind the last number each value that is left is outside
pub lacks_at_end : (xs vs : List ℤ) (i k : ℕ) → length xs ≤ i → ltb k (length vs) ≡ lacks_some (drop i xs) (drop k vs)
lacks_at_end xs vs i k p = by_test (ltb k (length vs)) refl
  where
    by_test : (b : Bool) → ltb k (length vs) ≡ b → ltb k (length vs) ≡ lacks_some (drop i xs) (drop k vs)
    by_test true e = e ∙ sym (lacks_no_number xs vs i k p (ltb-true k (length vs) e))
    by_test false e = e ∙ sym (lacks_no_value xs vs i k (ltb-false k (length vs) e))
