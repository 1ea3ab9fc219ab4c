-- Sums over the views of all seats of a table. A view has a share, which says how many seats it stands for, and numbers of one or more kinds.
use Rattle.std.specs.Prelude.{◌≡◌, ℕ, ◌+◌, List, [], ◌∷◌}
use mathlib.Core.Option.{some}
use lib.ListN.{get_elem?}

-- what f says of each view, added up
abbrev pub total : {V : Type 0} → (V → ℕ) → List V → ℕ
total f [] = 0
total f (v ∷ vs) = f v + total f vs

-- each view is so
abbrev pub Each : {V : Type 0} → (V → Type 0) → List V → Type 0
Each {V} P views = (id : ℕ) (v : V) → get_elem? views id ≡ some v → P v

-- the shares of all views sum to `shares`, their numbers of each kind to what `sums` says of it, and each view fits
pub record Tallied {Kind V : Type 0} (share : V → ℕ) (number : Kind → V → ℕ) (Fits : V → Type 0) (shares : ℕ) (sums : Kind → ℕ) (views : List V) : Type 0 where
  pub shared : total share views ≡ shares
  pub summed : (kind : Kind) → total (number kind) views ≡ sums kind
  pub each : Each Fits views
