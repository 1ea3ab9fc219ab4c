-- Lists that were chosen for the elements of another list, one for each.
use Rattle.std.proofs.Common.{◌≡◌, ℕ, zero, suc, List, [], ◌∷◌, ◌++◌, length, map, sum_by, Some, slice_get, refl, sym, ap, ◌∙◌, subst, arith}
use Rattle.std.specs.List.{flat_map}
use Rattle.std.proofs.lemmas.List.{map-append}
use Rattle.std.proofs.lemmas.List.Concat.{flat_map-cons}
use Rattle.std.proofs.lemmas.List.Sums.{sum_by-cons}
use Rattle.be_hub.proofs.Places.{one_some}

-- each of them is chosen for the element at its place
abbrev pub AreChosen : {E V : Type 0} → (ℕ → E → V → Type 0) → List E → List V → Type 0
AreChosen {E} {V} P es vs = (j : ℕ) (v : V) → slice_get vs j ≡ Some v → (e : E) × (slice_get es j ≡ Some e) × P j e v

chosen_on : {E V : Type 0} (P : ℕ → E → V → Type 0) (e : E) (es : List E) (v : V) (vs : List V) → P 0 e v → AreChosen (λ j. P (suc j)) es vs → AreChosen P (e ∷ es) (v ∷ vs)
chosen_on {E} {V} P e es v vs here rest zero w at = (e, refl, subst (P 0 e) (one_some v w at) here)
chosen_on P e es v vs here rest (suc j) w at = rest j w at

-- what there is for each element can be chosen
pub choose : {E V : Type 0} (P : ℕ → E → V → Type 0) (es : List E) → ((j : ℕ) (e : E) → slice_get es j ≡ Some e → (v : V) × P j e v) → (vs : List V) × (length vs ≡ length es) × AreChosen P es vs
choose P [] each = ([], refl, λ j v at. absurd cc)
choose P (e ∷ es) each =
    let here = each 0 e refl in
    let rest = choose (λ j. P (suc j)) es (λ j d at. each (suc j) d at) in
    (here.0 ∷ rest.0, ap suc rest.1, chosen_on P e es here.0 rest.0 here.1 rest.2)

-- two lists that two maps make the same at each place
pub maps_same : {X Y Z : Type 0} (f : X → Z) (g : Y → Z) (xs : List X) (ys : List Y) → length xs ≡ length ys
    → ((i : ℕ) (x : X) (y : Y) → slice_get xs i ≡ Some x → slice_get ys i ≡ Some y → f x ≡ g y) → map f xs ≡ map g ys
maps_same f g [] [] many each = refl
maps_same f g [] (y ∷ ys) many each = absurd (omega (arith, many))
maps_same f g (x ∷ xs) [] many each = absurd (omega (arith, many))
maps_same f g (x ∷ xs) (y ∷ ys) many each =
    ap (λ z. z ∷ map f xs) (each 0 x y refl refl) ∙ ap (λ zs. g y ∷ zs) (maps_same f g xs ys (omega (arith, many)) (λ i a b at_a at_b. each (suc i) a b at_a at_b))

module _ {V W X Y : Type 0} (p : V → List X) (q : W → List Y) where
  -- so it is of lists of lists
  pub flat_maps_same : {Z : Type 0} (f : X → Z) (g : Y → Z) (vs : List V) (ws : List W) → length vs ≡ length ws
      → ((i : ℕ) (v : V) (w : W) → slice_get vs i ≡ Some v → slice_get ws i ≡ Some w → map f (p v) ≡ map g (q w)) → map f (flat_map p vs) ≡ map g (flat_map q ws)
  flat_maps_same f g [] [] many each = refl
  flat_maps_same f g [] (w ∷ ws) many each = absurd (omega (arith, many))
  flat_maps_same f g (v ∷ vs) [] many each = absurd (omega (arith, many))
  flat_maps_same f g (v ∷ vs) (w ∷ ws) many each =
      let rest = flat_maps_same f g vs ws (omega (arith, many)) (λ i a b at_a at_b. each (suc i) a b at_a at_b) in
      let left = ap (map f) (flat_map-cons p v vs) ∙ map-append f (p v) (flat_map p vs) in
      let right = ap (map g) (flat_map-cons q w ws) ∙ map-append g (q w) (flat_map q ws) in
      left ∙ (ap (λ l. l ++ map f (flat_map p vs)) (each 0 v w refl refl) ∙ (ap (λ l. map g (q w) ++ l) rest ∙ sym right))

-- and numbers of theirs, added up
pub sums_alike : {V W : Type 0} (f : V → ℕ) (g : W → ℕ) (vs : List V) (ws : List W) → length vs ≡ length ws
    → ((i : ℕ) (v : V) (w : W) → slice_get vs i ≡ Some v → slice_get ws i ≡ Some w → f v ≡ g w) → sum_by f vs ≡ sum_by g ws
sums_alike f g [] [] many each = refl
sums_alike f g [] (w ∷ ws) many each = absurd (omega (arith, many))
sums_alike f g (v ∷ vs) [] many each = absurd (omega (arith, many))
sums_alike f g (v ∷ vs) (w ∷ ws) many each =
    let here = each 0 v w refl refl in
    let rest = sums_alike f g vs ws (omega (arith, many)) (λ i a b at_a at_b. each (suc i) a b at_a at_b) in
    omega (arith, here, rest, sum_by-cons f v vs, sum_by-cons g w ws)
