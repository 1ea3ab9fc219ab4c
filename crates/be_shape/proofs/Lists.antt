-- Lists: tests of parts and of the same in another order, and what a filter keeps and leaves.
use Rattle.std.proofs.Common.{◌≡◌, ℕ, ◌+◌, ◌<◌, Bool, true, false, not, cond, ◌||◌, List, [], ◌∷◌, ◌++◌, length, take, slice_get, Some, refl, sym, ap, ◌∙◌, subst, arith}
use Rattle.std.specs.Prelude.{IsPermutation}
use Rattle.std.specs.List.{list_all, list_any, filter, count_by}
use Rattle.std.proofs.lemmas.Bool.{and_parts, and_from}
use Rattle.std.proofs.lemmas.List.{append_assoc}
use Rattle.std.proofs.lemmas.List.Folds.{list_all-append}
use Rattle.std.proofs.lemmas.List.Sorted.{list_any-IsPermutation, IsPermutation-append_comm, IsPermutation-append_right, IsPermutation-filter_both, length_permutation}
use Rattle.std.proofs.lemmas.List.Sums.{sum_by_more}
use Rattle.std.proofs.lemmas.Option.{slice_get_within, get_or_from_slice_get}
use Rattle.be_model.proofs.Lists.{list_all-not_any}

pub all_permuted : {X : Type 0} (p : X → Bool) (xs ys : List X) → IsPermutation xs ys → list_all p xs ≡ true → list_all p ys ≡ true
all_permuted p xs ys h t =
    list_all-not_any p ys ∙ ap not (sym (list_any-IsPermutation (λ x. not (p x)) xs ys h)) ∙ sym (list_all-not_any p xs) ∙ t

pub all_front : {X : Type 0} (p : X → Bool) (xs ys : List X) → list_all p (xs ++ ys) ≡ true → list_all p xs ≡ true
all_front p xs ys h = (and_parts (list_all p xs) (list_all p ys) (sym (list_all-append p xs ys) ∙ h)).0

pub all_back : {X : Type 0} (p : X → Bool) (xs ys : List X) → list_all p (xs ++ ys) ≡ true → list_all p ys ≡ true
all_back p xs ys h = (and_parts (list_all p xs) (list_all p ys) (sym (list_all-append p xs ys) ∙ h)).1

pub all_both : {X : Type 0} (p : X → Bool) (xs ys : List X) → list_all p xs ≡ true → list_all p ys ≡ true → list_all p (xs ++ ys) ≡ true
all_both p xs ys h k = list_all-append p xs ys ∙ and_from (list_all p xs) (list_all p ys) h k

-- a list whose middle part goes last
pub swap_last : {X : Type 0} (a b c : List X) → IsPermutation (a ++ b ++ c) (a ++ c ++ b)
swap_last a b c =
    subst (λ l. IsPermutation l (a ++ c ++ b)) (sym (append_assoc a b c)) (subst (λ l. IsPermutation (a ++ (b ++ c)) l) (sym (append_assoc a c b)) (IsPermutation-append_right a (b ++ c) (c ++ b) (IsPermutation-append_comm b c)))

-- what a filter keeps
pub filter_keeps : {X : Type 0} (p q : X → Bool) (xs : List X) → list_all p xs ≡ true → list_all p (filter q xs) ≡ true
filter_keeps p q [] h = refl
filter_keeps p q (x ∷ xs) h =
    let k = and_parts (p x) (list_all p xs) h in by_test (q x) k.0 (filter_keeps p q xs k.1)
  where
    by_test : (b : Bool) → p x ≡ true → list_all p (filter q xs) ≡ true → list_all p (cond b (x ∷ filter q xs) (filter q xs)) ≡ true
    by_test true h k = and_from (p x) (list_all p (filter q xs)) h k
    by_test false h k = k

pub filter_passes : {X : Type 0} (q : X → Bool) (xs : List X) → list_all q (filter q xs) ≡ true
filter_passes q [] = refl
filter_passes q (x ∷ xs) = by_test (q x) refl (filter_passes q xs)
  where
    by_test : (b : Bool) → q x ≡ b → list_all q (filter q xs) ≡ true → list_all q (cond b (x ∷ filter q xs) (filter q xs)) ≡ true
    by_test true h k = and_from (q x) (list_all q (filter q xs)) h k
    by_test false h k = k

-- where all pass, a filter keeps all
pub filter_whole : {X : Type 0} (q : X → Bool) (xs : List X) → list_all q xs ≡ true → filter q xs ≡ xs
filter_whole q [] h = refl
filter_whole q (x ∷ xs) h =
    let k = and_parts (q x) (list_all q xs) h in ap (λ b. cond b (x ∷ filter q xs) (filter q xs)) k.0 ∙ ap (λ l. x ∷ l) (filter_whole q xs k.1)

-- and where none passes, nothing
pub filter_empty : {X : Type 0} (q : X → Bool) (xs : List X) → list_all (λ x. not (q x)) xs ≡ true → filter q xs ≡ []
filter_empty q [] h = refl
filter_empty q (x ∷ xs) h =
    let k = and_parts (not (q x)) (list_all (λ y. not (q y)) xs) h in by_test (q x) k.0 (filter_empty q xs k.1)
  where
    by_test : (b : Bool) → not b ≡ true → filter q xs ≡ [] → cond b (x ∷ filter q xs) (filter q xs) ≡ []
    by_test true h k = absurd (cc)
    by_test false h k = k

-- what is kept and what is left are all, in another order
pub kept_and_left : {X : Type 0} (q : X → Bool) (xs : List X) → IsPermutation xs (filter q xs ++ filter (λ x. not (q x)) xs)
kept_and_left q xs = IsPermutation-filter_both q (λ x. not (q x)) (λ x. refl) xs

pub lengths : {X : Type 0} (q : X → Bool) (xs : List X) → length xs ≡ length (filter q xs ++ filter (λ x. not (q x)) xs)
lengths q xs = sym (length_permutation xs (filter q xs ++ filter (λ x. not (q x)) xs) (kept_and_left q xs))

-- where one passes, something is kept
pub filter_some : {X : Type 0} (q : X → Bool) (xs : List X) → list_any q xs ≡ true → 0 < length (filter q xs)
filter_some q [] h = absurd (cc)
filter_some q (x ∷ xs) h = by_test (q x) h (filter_some q xs)
  where
    by_test : (b : Bool) → (b || list_any q xs) ≡ true → (list_any q xs ≡ true → 0 < length (filter q xs)) → 0 < length (cond b (x ∷ filter q xs) (filter q xs))
    by_test true h k = omega arith
    by_test false h k = k h

-- one more is counted
pub count_next : {X : Type 0} (p : X → Bool) (xs : List X) (i n : ℕ) (x : X) → n ≡ count_by p (take i xs) → slice_get xs i ≡ Some x → n + cond (p x) 1 0 ≡ count_by p (take (i + 1) xs)
count_next {X} p xs i n x h e =
    let f : X → ℕ = λ y. cond (p y) 1 0 in
    omega (arith, h, sum_by_more f xs i x (slice_get_within xs i x e), ap f (get_or_from_slice_get xs i x x e))
