-- What steps, splits and joins do to sums over all views, and what a view with every share has.
use Rattle.std.proofs.Common.{◌≡◌, ℕ, zero, suc, ◌+◌, ◌*◌, ◌≤◌, List, [], ◌∷◌, ◌++◌, set, sym, refl, ap, ◌∙◌, subst, ⊎_elim, arith}
use Rattle.std.proofs.Math.Nat.{mul-add}
use mathlib.Core.Option.{some, some-injective, some-ne-none}
use lib.ListN.{get_elem?}
use Rattle.atomic_table.proofs.Lists.{at_set, at_snoc}
use Rattle.be_shared_sums.specs.Tallied.{total, Each, Tallied}

module _ {V : Type 0} where
  -- one view changes
  pub total_set : (f : V → ℕ) (vs : List V) (id : ℕ) (v w : V) → get_elem? vs id ≡ some v → total f (set vs id w) + f v ≡ total f vs + f w
  total_set f [] id v w here = absurd (some-ne-none v (sym here))
  total_set f (x ∷ xs) zero v w here = let is : f x ≡ f v = ap f (some-injective x v here) in omega arith
  total_set f (x ∷ xs) (suc id) v w here = let r = total_set f xs id v w here in omega arith

  -- a view more, at the end
  pub total_snoc : (f : V → ℕ) (vs : List V) (w : V) → total f (vs ++ w ∷ []) ≡ total f vs + f w
  total_snoc f [] w = omega arith
  total_snoc f (x ∷ xs) w = let r = total_snoc f xs w in omega arith

  -- one view has at most the sum
  pub total_at : (f : V → ℕ) (vs : List V) (id : ℕ) (v : V) → get_elem? vs id ≡ some v → f v ≤ total f vs
  total_at f [] id v here = absurd (some-ne-none v (sym here))
  total_at f (x ∷ xs) zero v here = let is : f x ≡ f v = ap f (some-injective x v here) in omega arith
  total_at f (x ∷ xs) (suc id) v here = let r = total_at f xs id v here in omega arith

  pub total_below : (f g : V → ℕ) (vs : List V) → Each (λ v. f v ≤ g v) vs → total f vs ≤ total g vs
  total_below f g [] h = omega arith
  total_below f g (x ∷ xs) h = let a = h zero x refl in let r = total_below f g xs (λ id. h (suc id)) in omega arith

  -- where each view has at most `most` for each of its shares, all have at most that for all shares
  pub total_within : (f share : V → ℕ) (most : ℕ) (vs : List V) → Each (λ v. f v ≤ most * share v) vs → total f vs ≤ most * total share vs
  total_within f share most [] h = omega arith
  total_within f share most (x ∷ xs) h = let a = h zero x refl in let r = total_within f share most xs (λ id. h (suc id)) in omega (arith, mul-add most (share x) (total share xs))

  -- without a share there is no number
  pub total_none : (f share : V → ℕ) (vs : List V) → Each (λ v. share v ≡ 0 → f v ≡ 0) vs → total share vs ≡ 0 → total f vs ≡ 0
  total_none f share [] h none = refl
  total_none f share (x ∷ xs) h none = let a = h zero x refl (omega arith) in let r = total_none f share xs (λ id. h (suc id)) (omega arith) in omega arith

  -- a view with every share has the whole of each sum to which views without a share add nothing
  pub total_whole : (f share : V → ℕ) (vs : List V) (id : ℕ) (v : V) → get_elem? vs id ≡ some v → Each (λ u. share u ≡ 0 → f u ≡ 0) vs → total share vs ≡ share v → total f vs ≡ f v
  total_whole f share [] id v here h all = absurd (some-ne-none v (sym here))
  total_whole f share (x ∷ xs) zero v here h all =
      let is : f x ≡ f v = ap f (some-injective x v here) in let same : share x ≡ share v = ap share (some-injective x v here) in
      let r = total_none f share xs (λ j. h (suc j)) (omega arith) in omega arith
  total_whole f share (x ∷ xs) (suc id) v here h all =
      let m = total_at share xs id v here in let a = h zero x refl (omega arith) in
      let r = total_whole f share xs id v here (λ j. h (suc j)) (omega arith) in omega arith

  module _ {P : V → Type 0} where
    pub each_set : (vs : List V) (id : ℕ) (w : V) → Each P vs → P w → Each P (set vs id w)
    each_set vs id w h p j u here = ⊎_elim (λ t. subst P t.1 p) (λ t. h j u t.1) (at_set vs id j w u here)

    pub each_snoc : (vs : List V) (w : V) → Each P vs → P w → Each P (vs ++ w ∷ [])
    each_snoc vs w h p j u here = ⊎_elim (λ t. h j u t) (λ t. subst P t p) (at_snoc vs w u j here)

module _ {Kind V : Type 0} {share : V → ℕ} {number : Kind → V → ℕ} {Fits : V → Type 0} {shares : ℕ} where
  -- one view changes and keeps its share, and the sums change with its numbers
  pub keeps_step : {sums : Kind → ℕ} (after : Kind → ℕ) {views : List V} (id : ℕ) (v w : V) → Tallied share number Fits shares sums views → get_elem? views id ≡ some v
      → share w ≡ share v → ((kind : Kind) → number kind w + sums kind ≡ number kind v + after kind) → Fits w
      → Tallied share number Fits shares after (set views id w)
  keeps_step {sums} after {views} id v w t here same moved fits = record {
    shared = let s = total_set share views id v w here in let a = t.shared in omega arith;
    summed = λ kind. let s = total_set (number kind) views id v w here in let a = t.summed kind in let m = moved kind in omega arith;
    each = each_set views id w t.each fits;
  }

  -- a view is cut in two, which together have its share and its numbers
  pub keeps_split : {sums : Kind → ℕ} {views : List V} (id : ℕ) (v left right : V) → Tallied share number Fits shares sums views → get_elem? views id ≡ some v
      → share left + share right ≡ share v → ((kind : Kind) → number kind left + number kind right ≡ number kind v) → Fits left → Fits right
      → Tallied share number Fits shares sums (set views id left ++ right ∷ [])
  keeps_split {sums} {views} id v left right t here parts numbers fits_left fits_right = record {
    shared = let s = total_set share views id v left here in let e = total_snoc share (set views id left) right in let a = t.shared in omega arith;
    summed = λ kind. let s = total_set (number kind) views id v left here in let e = total_snoc (number kind) (set views id left) right in let a = t.summed kind in let m = numbers kind in omega arith;
    each = each_snoc (set views id left) right (each_set views id left t.each fits_left) fits_right;
  }

  -- two views are made one, and the second is spent: together they have the shares and the numbers that the two had
  pub keeps_join : {sums : Kind → ℕ} {views : List V} (id : ℕ) (v : V) (other : ℕ) (w both spent : V) → Tallied share number Fits shares sums views
      → get_elem? views id ≡ some v → get_elem? (set views id both) other ≡ some w
      → share both + share spent ≡ share v + share w → ((kind : Kind) → number kind both + number kind spent ≡ number kind v + number kind w) → Fits both → Fits spent
      → Tallied share number Fits shares sums (set (set views id both) other spent)
  keeps_join {sums} {views} id v other w both spent t here there parts numbers fits_both fits_spent = record {
    shared = let s = total_set share views id v both here in let e = total_set share (set views id both) other w spent there in let a = t.shared in omega arith;
    summed = λ kind. let s = total_set (number kind) views id v both here in let e = total_set (number kind) (set views id both) other w spent there in let a = t.summed kind in let m = numbers kind in omega arith;
    each = each_set (set views id both) other spent (each_set views id both t.each fits_both) fits_spent;
  }

  -- the view with every share has each sum, where a view without one has no number
  pub whole : {sums : Kind → ℕ} {views : List V} (id : ℕ) (v : V) → Tallied share number Fits shares sums views → get_elem? views id ≡ some v → share v ≡ shares
      → ((u : V) → Fits u → share u ≡ 0 → (kind : Kind) → number kind u ≡ 0) → (kind : Kind) → sums kind ≡ number kind v
  whole id v t here all idle kind = sym (t.summed kind) ∙ total_whole (number kind) share _ id v here (λ j u e none. idle u (t.each j u e) none kind) (t.shared ∙ sym all)
