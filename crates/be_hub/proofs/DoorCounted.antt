-- What the numbers of all workers say together.
use Rattle.std.proofs.Common.{◌≡◌, ℕ, zero, suc, ◌+◌, ◌*◌, ◌/◌, ◌<◌, ◌≤◌, Bool, true, false, ◌||◌, List, [], ◌∷◌, max, fold, sum_by, Some, slice_get, sym, ap, ◌∙◌, refl, arith}
use Rattle.std.specs.List.{All, list_any}
use Rattle.std.proofs.Math.Nat.{mul-div_cancel}
use Rattle.std.proofs.lemmas.List.Elements.{All-head, All-tail}
use Rattle.std.proofs.lemmas.List.Sums.{sum_by-cons}
use Rattle.be_base.specs.Counts.{raised}
use Rattle.be_door.specs.Counts.{CountState, sums_of, with_counts}
use Rattle.be_door.specs.Sums.{no_sums}
use Rattle.be_protocol.specs.declared.ends.SessionEnd.{SessionEnd}
use Rattle.be_protocol.specs.declared.ends.SessionEnd.TheVariants.{Eof, Quit, ReadFault, WriteFault, Spent, Split, NoMemory}
use Rattle.be_hub.specs.Links.{IsCounted}
use Rattle.be_hub.proofs.Pairs.{one_at}

pub same_number : (q i j a : ℕ) → 0 < q → a + i * q ≡ a + j * q → i ≡ j
same_number q i j a some same =
    let k : i * q ≡ j * q = omega (arith, same) in
    sym (mul-div_cancel i some) ∙ (ap (λ m. m / q) k ∙ mul-div_cancel j some)

-- numbers of counts, added up
module _ {X : Type 0} where
  pub sums_same : (f g : X → ℕ) (xs : List X) → All (λ x. f x ≡ g x) xs → sum_by f xs ≡ sum_by g xs
  sums_same f g [] all = refl
  sums_same f g (x ∷ xs) all =
      let rest = sums_same f g xs (All-tail (λ x. f x ≡ g x) x xs all) in
      let here = All-head (λ x. f x ≡ g x) x xs all in
      omega (arith, sum_by-cons f x xs, sum_by-cons g x xs, rest, here)

  pub some_of : (f g : X → ℕ) (xs : List X) → All (λ x. 0 < f x → 0 < g x) xs → 0 < sum_by f xs → 0 < sum_by g xs
  some_of f g [] all some = absurd (omega (arith, some))
  some_of f g (x ∷ xs) all some = one_of (f x) (g x) (sum_by f xs) (sum_by g xs) (sum_by f (x ∷ xs)) (sum_by g (x ∷ xs)) (sum_by-cons f x xs) (sum_by-cons g x xs)
      (All-head (λ x. 0 < f x → 0 < g x) x xs all) (some_of f g xs (All-tail (λ x. 0 < f x → 0 < g x) x xs all)) some
    where
      one_of : (a b m n k l : ℕ) → k ≡ a + m → l ≡ b + n → (0 < a → 0 < b) → (0 < m → 0 < n) → 0 < k → 0 < l
      one_of zero b m n k l is it here rest some = let r = rest (omega (arith, some, is)) in omega (arith, r, it)
      one_of (suc a) b m n k l is it here rest some = let r = here (omega arith) in omega (arith, r, it)

  in_sum : (f : X → ℕ) (xs : List X) (i : ℕ) (x : X) → slice_get xs i ≡ Some x → f x ≤ sum_by f xs
  in_sum f [] i x at = absurd cc
  in_sum f (y ∷ xs) zero x at = let is = ap f (one_at (y ∷ xs) zero y x refl at) in omega (arith, is, sum_by-cons f y xs)
  in_sum f (y ∷ xs) (suc i) x at = let r = in_sum f xs i x at in omega (arith, r, sum_by-cons f y xs)

  most_from : (f : X → ℕ) (xs : List X) (a : ℕ) → a ≤ fold (λ most x. max most (f x)) a xs
  most_from f [] a = omega arith
  most_from f (x ∷ xs) a = let r = most_from f xs (max a (f x)) in omega (arith, r)

  in_most : (f : X → ℕ) (xs : List X) (a i : ℕ) (x : X) → slice_get xs i ≡ Some x → f x ≤ fold (λ most x. max most (f x)) a xs
  in_most f [] a i x at = absurd cc
  in_most f (y ∷ xs) a zero x at = let is = ap f (one_at (y ∷ xs) zero y x refl at) in let r = most_from f xs (max a (f y)) in omega (arith, is, r)
  in_most f (y ∷ xs) a (suc i) x at = in_most f xs (max a (f y)) i x at

-- the test holds of one of them
pub any_holds : {X : Type 0} (p : X → Bool) (A : Type 0) (xs : List X) → All (λ x. p x ≡ true → A) xs → list_any p xs ≡ true → A
any_holds p A [] all some = absurd cc
any_holds p A (x ∷ xs) all some = go (p x) refl some (any_holds p A xs (All-tail (λ x. p x ≡ true → A) x xs all))
  where
    go : (b : Bool) → p x ≡ b → (b || list_any p xs) ≡ true → (list_any p xs ≡ true → A) → A
    go true is some rest = All-head (λ x. p x ≡ true → A) x xs all is
    go false is some rest = rest some

module _ {L : Type 0} where
  -- what one worker's numbers say, those of all say
  pub counted_in : (cs : List (CountState L)) (i : ℕ) (c : CountState L) (end : SessionEnd) → slice_get cs i ≡ Some c → IsCounted (sums_of c) end → IsCounted (with_counts no_sums cs) end
  counted_in cs i c Eof at is = tt
  counted_in cs i c Quit at is = tt
  counted_in cs i c (Split a b) at is = tt
  counted_in cs i c NoMemory at is = tt
  counted_in cs i c ReadFault at is = some_raised c.read_faults (sum_by (λ (x : CountState L). x.read_faults) cs) is (in_sum (λ (x : CountState L). x.read_faults) cs i c at)
    where
      some_raised : (a b : ℕ) → 0 < a → a ≤ b → 0 < raised b 0
      some_raised a b some le = omega (arith, some, le)
  counted_in cs i c WriteFault at is = some_raised c.write_faults (sum_by (λ (x : CountState L). x.write_faults) cs) is (in_sum (λ (x : CountState L). x.write_faults) cs i c at)
    where
      some_raised : (a b : ℕ) → 0 < a → a ≤ b → 0 < raised b 0
      some_raised a b some le = omega (arith, some, le)
  counted_in cs i c Spent at is = let r = in_most (λ (x : CountState L). x.most) cs 0 i c at in omega (arith, is, r)
