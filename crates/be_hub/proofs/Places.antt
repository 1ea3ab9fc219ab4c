-- Places of lists that were put together.
use Rattle.std.proofs.Common.{◌≡◌, ℕ, zero, suc, ◌+◌, ◌⊎◌, inl, inr, List, [], ◌∷◌, ◌++◌, length, Some, slice_get, slice_index_or, refl, sym, ap, ◌∙◌, subst, arith}
use Rattle.std.specs.List.{All, Any, flat_map}
use Rattle.std.proofs.lemmas.List.Concat.{flat_map-cons}
use Rattle.std.proofs.lemmas.Option.{slice_get-get_or, slice_get_within, get_or_from_slice_get}

pub one_some : {X : Type 0} (a b : X) → Some a ≡ Some b → a ≡ b
one_some a b e = cc

-- x stands in one of two lists, one behind the other
abbrev InOne : {X : Type 0} → List X → List X → ℕ → X → Type 0
InOne xs ys i x = (slice_get xs i ≡ Some x) ⊎ ((j : ℕ) × (i ≡ length xs + j) × (slice_get ys j ≡ Some x))

none_before : (i : ℕ) → i ≡ 0 + i
none_before i = omega arith

one_on : {X : Type 0} (y : X) (xs ys : List X) (i : ℕ) (x : X) → InOne xs ys i x → InOne (y ∷ xs) ys (suc i) x
one_on y xs ys i x (inl at) = inl at
one_on y xs ys i x (inr (j, is, at)) = inr (j, more i (length xs) j is, at)
  where
    more : (i n j : ℕ) → i ≡ n + j → suc i ≡ suc n + j
    more i n j is = omega (arith, is)

pub in_append : {X : Type 0} (xs ys : List X) (i : ℕ) (x : X) → slice_get (xs ++ ys) i ≡ Some x → InOne xs ys i x
in_append [] ys i x at = inr (i, none_before i, at)
in_append (y ∷ xs) ys zero x at = inl at
in_append (y ∷ xs) ys (suc i) x at = one_on y xs ys i x (in_append xs ys i x at)

pub in_front : {X : Type 0} (xs ys : List X) (i : ℕ) (x : X) → slice_get xs i ≡ Some x → slice_get (xs ++ ys) i ≡ Some x
in_front [] ys i x at = absurd cc
in_front (y ∷ xs) ys zero x at = at
in_front (y ∷ xs) ys (suc i) x at = in_front xs ys i x at

-- the place in both lists of what stands in the second one
pub in_back : {X : Type 0} (xs ys : List X) (j : ℕ) (x : X) → slice_get ys j ≡ Some x → (i : ℕ) × (slice_get (xs ++ ys) i ≡ Some x)
in_back [] ys j x at = (j, at)
in_back (y ∷ xs) ys j x at = let r = in_back xs ys j x at in (suc r.0, r.1)

at_end : {X : Type 0} (last x : X) (n i j : ℕ) → i ≡ n + j → slice_get (last ∷ []) j ≡ Some x → (i ≡ n) × (last ≡ x)
at_end last x n i zero is at = (omega (arith, is), one_some last x at)
at_end last x n i (suc j) is at = absurd cc

-- one more was put last
pub in_push : {X : Type 0} (xs : List X) (last : X) (i : ℕ) (x : X) → slice_get (xs ++ last ∷ []) i ≡ Some x → (slice_get xs i ≡ Some x) ⊎ ((i ≡ length xs) × (last ≡ x))
in_push {X} xs last i x at = go (in_append xs (last ∷ []) i x at)
  where
    go : InOne xs (last ∷ []) i x → (slice_get xs i ≡ Some x) ⊎ ((i ≡ length xs) × (last ≡ x))
    go (inl at) = inl at
    go (inr (j, is, at)) = inr (at_end last x (length xs) i j is at)

pub at_last : {X : Type 0} (xs : List X) (last : X) → slice_get (xs ++ last ∷ []) (length xs) ≡ Some last
at_last [] last = refl
at_last (x ∷ xs) last = at_last xs last

pub all_from_places : {X : Type 0} (P : X → Type 0) (xs : List X) → ((i : ℕ) (x : X) → slice_get xs i ≡ Some x → P x) → All P xs
all_from_places P xs each k d lt = each k (slice_index_or xs k d) (slice_get-get_or xs k d lt)

pub at_of_all : {X : Type 0} (P : X → Type 0) (xs : List X) (i : ℕ) (x : X) → All P xs → slice_get xs i ≡ Some x → P x
at_of_all P xs i x all at = subst P (get_or_from_slice_get xs i x x at) (all i x (slice_get_within xs i x at))

pub any_at : {X : Type 0} (P : X → Type 0) (xs : List X) (i : ℕ) (x : X) → slice_get xs i ≡ Some x → P x → Any P xs
any_at P xs i x at p = (i, x, slice_get_within xs i x at, get_or_from_slice_get xs i x x at, p)

module _ {W X : Type 0} (f : W → List X) where
  -- x stands in one of these lists
  abbrev InSome : List W → X → Type 0
  InSome ws x = (j : ℕ) × (w : W) × (k : ℕ) × (slice_get ws j ≡ Some w) × (slice_get (f w) k ≡ Some x)

  some_on : (w : W) (ws : List W) (i : ℕ) (x : X) → InOne (f w) (flat_map f ws) i x → ((j : ℕ) → slice_get (flat_map f ws) j ≡ Some x → InSome ws x) → InSome (w ∷ ws) x
  some_on w ws i x (inl at) more = (0, w, i, refl, at)
  some_on w ws i x (inr (j, is, at)) more = let r = more j at in (suc r.0, r.1, r.2, r.3, r.4)

  at_cons : (w : W) (ws : List W) (i : ℕ) (x : X) → slice_get (flat_map f (w ∷ ws)) i ≡ Some x → InOne (f w) (flat_map f ws) i x
  at_cons w ws i x at = in_append (f w) (flat_map f ws) i x (subst (λ l. slice_get l i ≡ Some x) (flat_map-cons f w ws) at)

  -- what stands in a list of lists stands in one of them
  pub in_flat : (ws : List W) (i : ℕ) (x : X) → slice_get (flat_map f ws) i ≡ Some x → InSome ws x
  in_flat [] i x at = absurd cc
  in_flat (w ∷ ws) i x at = some_on w ws i x (at_cons w ws i x at) (λ j there. in_flat ws j x there)

  -- and what stands in one of them stands in it
  pub flat_has : (ws : List W) (j : ℕ) (w : W) (k : ℕ) (x : X) → slice_get ws j ≡ Some w → slice_get (f w) k ≡ Some x → (i : ℕ) × (slice_get (flat_map f ws) i ≡ Some x)
  flat_has [] j w k x at_w at = absurd cc
  flat_has (v ∷ ws) zero w k x at_w at =
      (k, subst (λ l. slice_get l k ≡ Some x) (sym (flat_map-cons f v ws)) (in_front (f v) (flat_map f ws) k x (subst (λ u. slice_get (f u) k ≡ Some x) (sym (one_some v w at_w)) at)))
  flat_has (v ∷ ws) (suc j) w k x at_w at =
      let r = flat_has ws j w k x at_w at in
      let b = in_back (f v) (flat_map f ws) r.0 x r.1 in
      (b.0, subst (λ l. slice_get l b.0 ≡ Some x) (sym (flat_map-cons f v ws)) b.1)

-- no two have the same key
abbrev pub Differ : {X : Type 0} → (X → ℕ) → List X → Type 0
Differ {X} key xs = (i j : ℕ) (x y : X) → slice_get xs i ≡ Some x → slice_get xs j ≡ Some y → key x ≡ key y → i ≡ j

-- the keys of each list differ, and have the seat of that list
abbrev pub EachDiffers : {W X : Type 0} → (W → List X) → (X → ℕ) → (ℕ → ℕ) → ℕ → List W → Type 0
EachDiffers {W} {X} f key seat base ws = (j : ℕ) (w : W) → slice_get ws j ≡ Some w → Differ key (f w) × ((k : ℕ) (x : X) → slice_get (f w) k ≡ Some x → seat (key x) ≡ base + j)

module _ {W X : Type 0} (f : W → List X) (key : X → ℕ) (seat : ℕ → ℕ) where
  others_differ : (w : W) (ws : List W) (base : ℕ) → EachDiffers f key seat base (w ∷ ws) → EachDiffers f key seat (suc base) ws
  others_differ w ws base each k v at =
      let e = each (suc k) v at in
      (e.0, λ l z at_z. e.1 l z at_z ∙ on base k)
    where
      on : (base k : ℕ) → base + suc k ≡ suc base + k
      on base k = omega arith

  -- none in the other lists has the key of one in this
  apart : (w : W) (ws : List W) (base : ℕ) → EachDiffers f key seat base (w ∷ ws) → (a b : ℕ) (u v : X) → slice_get (f w) a ≡ Some u → slice_get (flat_map f ws) b ≡ Some v → key u ≡ key v → ⊥
  apart w ws base each a b u v at_u at_v is =
      let there = in_flat f ws b v at_v in
      let one = (each 0 w refl).1 a u at_u in
      let two = (others_differ w ws base each there.0 there.1 there.3).1 there.2 v there.4 in
      absurd (omega (arith, one, two, ap seat is))

  both_differ : (w : W) (ws : List W) (base : ℕ) → EachDiffers f key seat base (w ∷ ws) → Differ key (flat_map f ws) → (i j : ℕ) (x y : X) → key x ≡ key y → InOne (f w) (flat_map f ws) i x → InOne (f w) (flat_map f ws) j y → i ≡ j
  both_differ w ws base each rest i j x y same (inl p) (inl q) = (each 0 w refl).0 i j x y p q same
  both_differ w ws base each rest i j x y same (inl p) (inr (b, is, q)) = absurd (apart w ws base each i b x y p q same)
  both_differ w ws base each rest i j x y same (inr (a, is, p)) (inl q) = absurd (apart w ws base each j a y x q p (sym same))
  both_differ w ws base each rest i j x y same (inr (a, is, p)) (inr (b, it, q)) = omega (arith, is, it, rest a b x y p q same)

  pub flat_differs : (ws : List W) (base : ℕ) → EachDiffers f key seat base ws → Differ key (flat_map f ws)
  flat_differs [] base each i j x y at_x at_y same = absurd cc
  flat_differs (w ∷ ws) base each i j x y at_x at_y same =
      both_differ w ws base each (flat_differs ws (suc base) (others_differ w ws base each)) i j x y same (at_cons f w ws i x at_x) (at_cons f w ws j y at_y)
