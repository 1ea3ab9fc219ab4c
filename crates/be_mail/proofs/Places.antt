-- Lists by their places.
use Rattle.std.proofs.Common.{◌≡◌, ◌⊎◌, ℕ, zero, suc, ◌<◌, List, [], ◌∷◌, ◌++◌, length, map, set, refl, sym, ap, ◌∙◌, inl, inr, ⊎_elim, arith}
use Rattle.std.specs.Prelude.{All}
use Rattle.std.proofs.lemmas.List.{map-set}
use mathlib.Core.Option.{some, some-ne-none, some-injective}
use lib.ListN.{get_elem?, get_or}
use Rattle.crossbeam_queue.proofs.Lists.{at_map, set_again}

pub within : {A : Type 0} (l : List A) (i : ℕ) (a : A) → get_elem? l i ≡ some a → i < length l
within [] i a e = absurd (some-ne-none a (sym e))
within (x ∷ xs) zero a e = omega arith
within (x ∷ xs) (suc i) a e = let h = within xs i a e in omega arith

pub some_at : {A : Type 0} (l : List A) (i : ℕ) → i < length l → (a : A) × (get_elem? l i ≡ some a)
some_at [] i h = absurd (omega arith)
some_at (x ∷ xs) zero h = (x, refl)
some_at (x ∷ xs) (suc i) h = some_at xs i (omega arith)

pub at_or : {A : Type 0} (l : List A) (i : ℕ) (a d : A) → get_elem? l i ≡ some a → get_or l i d ≡ a
at_or [] i a d e = absurd (some-ne-none a (sym e))
at_or (x ∷ xs) zero a d e = some-injective x a e
at_or (x ∷ xs) (suc i) a d e = at_or xs i a d e

pub at_middle : {A : Type 0} (l : List A) (a : A) (m : List A) → get_elem? (l ++ a ∷ m) (length l) ≡ some a
at_middle [] a m = refl
at_middle (x ∷ xs) a m = at_middle xs a m

-- with one more at the end
pub at_end : {A : Type 0} (l : List A) (a b : A) (j : ℕ) → get_elem? (l ++ a ∷ []) j ≡ some b → (get_elem? l j ≡ some b) ⊎ ((j ≡ length l) × (a ≡ b))
at_end [] a b zero e = inr (refl, some-injective a b e)
at_end [] a b (suc j) e = absurd (some-ne-none b (sym e))
at_end (x ∷ xs) a b zero e = inl e
at_end (x ∷ xs) a b (suc j) e = ⊎_elim (λ t. inl t) (λ (t : (j ≡ length xs) × (a ≡ b)). inr (ap suc t.0, t.1)) (at_end xs a b j e)

-- a place is replaced by one that f can't tell from it
pub map_same : {A B : Type 0} (f : A → B) (l : List A) (i : ℕ) (a b : A) → get_elem? l i ≡ some a → f b ≡ f a → map f (set l i b) ≡ map f l
map_same f l i a b here same = map-set f l i b ∙ ap (set (map f l) i) same ∙ set_again (map f l) i (f a) (at_map f l i a here)

pub All-both : {A : Type 0} (P Q R : A → Type 0) → ((a : A) → P a → Q a → R a) → (l : List A) → All P l → All Q l → All R l
All-both P Q R step l ps qs i d h = step _ (ps i d h) (qs i d h)

-- what two lists tell alike, they tell alike at each place
pub same_at : {A B C : Type 0} (f : A → C) (g : B → C) (xs : List A) (ys : List B) (i : ℕ) (a : A) (b : B) → map f xs ≡ map g ys → get_elem? xs i ≡ some a → get_elem? ys i ≡ some b → f a ≡ g b
same_at f g xs ys i a b same here there = some-injective _ _ (sym (at_map f xs i a here) ∙ ap (λ l. get_elem? l i) same ∙ at_map g ys i b there)
