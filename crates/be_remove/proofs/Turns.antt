-- Each place has one turn.
use Rattle.std.proofs.Common.{◌≡◌, ◌<◌, ◌≤◌, ℕ, zero, suc, Bool, true, false, cond, ltb, List, [], ◌∷◌, length, get_or, refl, sym, subst, arith}
use Rattle.std.specs.List.{AllByRecursion}
use Rattle.std.proofs.lemmas.Bool.{ltb-true, ltb-false, le-ltb}
use mathlib.Core.Logic.{dite}
use native.Mathlib.Decide.{ℕ_discrete}
use Rattle.be_model.specs.declared.paths.Hop.{Hop}
use Rattle.be_model.specs.declared.paths.Hop.TheVariants.{Part}
use Rattle.be_shape.specs.declared.nodes.Part.{Part as PartOf}
use Rattle.be_shape.specs.Plain.{Plain, part_as, parts_as}
use Rattle.be_shape.specs.Children.{roots_of}
use Rattle.be_remove.specs.Turns.{place_at}

-- after the first turn the places before the likely one come, and then those behind it
later : (P : ℕ → Type 0) (l t : ℕ) → (t < l → P t) → (l ≤ t → P (suc t)) → P (place_at l (suc t))
later P l t before behind = by_test (ltb t l) refl
  where
    by_test : (b : Bool) → ltb t l ≡ b → P (cond b t (suc t))
    by_test true e = before (ltb-true t l e)
    by_test false e = behind (ltb-false t l e)

pub place_within : (l n t : ℕ) → l < n → t < n → place_at l t < n
place_within l n zero w u = w
place_within l n (suc t) w u = later (λ p. p < n) l t (λ h. omega (arith, h, w)) (λ h. u)

-- no place has two turns
pub places_differ : (l t u : ℕ) → t < u → place_at l u ≡ place_at l t → ⊥
places_differ l zero zero h = λ e. omega (arith, h)
places_differ l (suc t) zero h = λ e. omega (arith, h)
places_differ l zero (suc u) h = later (λ p. p ≡ l → ⊥) l u (λ k e. omega (arith, k, e)) (λ k e. omega (arith, k, e))
places_differ l (suc t) (suc u) h =
    later (λ p. place_at l (suc u) ≡ p → ⊥) l t
    (λ j. later (λ p. p ≡ t → ⊥) l u (λ k e. omega (arith, h, j, k, e)) (λ k e. omega (arith, h, j, k, e)))
    (λ j. later (λ p. p ≡ suc t → ⊥) l u (λ k e. omega (arith, h, j, k, e)) (λ k e. omega (arith, h, j, k, e)))

-- what holds at the place of each turn holds at each place
pub at_each : (P : ℕ → Type 0) (l n : ℕ) → l < n → ((t : ℕ) → t < n → P (place_at l t)) → (i : ℕ) → i < n → P i
at_each P l n w h i u = by_test (ltb i l) refl
  where
    behind : (j : ℕ) → l < j → j < n → P j
    behind zero k v = absurd (omega (arith, k))
    behind (suc j) k v = subst (λ b. P (cond b j (suc j))) (le-ltb j l (omega (arith, k))) (h (suc j) v)

    by_test : (b : Bool) → ltb i l ≡ b → P i
    by_test true e =
        subst (λ b. P (cond b i (suc i))) e (h (suc i) (let k = ltb-true i l e in omega (arith, k, w)))
    by_test false e = dite (ℕ_discrete i l)
        (λ same. subst P (sym same) (h zero (omega (arith, w))))
        (λ ne. behind i (let k = ltb-false i l e in omega (arith, k, ne)) u)

-- what holds of the root at each place holds of all roots
pub each_root : (P : Hop × Plain → Type 0) (ps : List PartOf) → ((i : ℕ) → i < length ps → (q : PartOf) → q ≡ get_or ps i q → P (Part (part_as q).0, (part_as q).1)) → AllByRecursion P (roots_of (parts_as ps))
each_root P [] h = tt
each_root P (p ∷ ps) h = (h zero (omega arith) p refl, each_root P ps (λ i l q e. h (suc i) (omega (arith, l)) q e))
