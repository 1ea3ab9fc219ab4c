-- The best step so far, node by node.
use Rattle.std.specs.Prelude.{◌≡◌, ℕ, true, List, [], ◌∷◌, nat_lt, Option, Some, None, if◌then◌else◌}
use Rattle.std.specs.List.{find}
use Rattle.be_model.specs.declared.paths.Hop.{Hop}
use Rattle.be_model.specs.declared.paths.Step.{Step}
use Rattle.be_model.specs.Schemas.{Attributes}
use Rattle.be_model.specs.ByIds.{ids_differ}
use Rattle.be_shape.specs.Plain.{Plain, rows_below}
use Rattle.be_shape.specs.Shape.{Known, nothing}
use Rattle.be_shape.specs.Paths.{walk}
use Rattle.be_shape.specs.NodeList.{NodeAt, known_along}
use Rattle.be_shape.specs.Right.{IsRight}
use Rattle.be_shape.specs.Steps.{stands}
use Rattle.be_plan.specs.declared.bests.Best.{Best}
use Rattle.be_plan.specs.declared.bests.TheConstants.{MERGES, SHIFTS, PART_SPLITS, HALF_SPLITS}
use Rattle.be_plan.specs.Plan.{merges, shifts, part_splits, half_splits}

-- the path leads to the node, of which this is known; the node is right, and its rows have different ids
pub record IsAt (s : Attributes) (root : Plain) (path : List Hop) (k : Known) (n : Plain) : Type 0 where
  pub there : walk path root ≡ Some n
  pub knows : known_along s path nothing ≡ k
  pub right : IsRight s k n
  pub differ : ids_differ (rows_below n) ≡ true

-- the first of the steps that stands
unfoldable pub first : Attributes → Plain → List Step → Option Step
first s root steps = find (λ step. stands s step root) steps

-- a step of a kind that is still looked for is better; after it only better kinds are
abbrev pub better : ℕ → Option Step → Best → Best
better kind None best = best
better kind (Some step) best = if nat_lt kind best.sought then record { sought = kind; step = Some step } else best

abbrev pub after_merges : Attributes → Plain → NodeAt → Best → Best
after_merges s root x best = better MERGES (first s root (merges x)) best

abbrev pub after_others : Attributes → ℕ → Plain → NodeAt → Best → Best
after_others s alpha root x best =
    better HALF_SPLITS (first s root (half_splits s x)) (better PART_SPLITS (first s root (part_splits s alpha x)) (better SHIFTS (first s root (shifts s x)) best))

-- the best step after a look at nodes, one after the other
abbrev pub best_after : Attributes → ℕ → Plain → List NodeAt → Best → Best
best_after s alpha root [] best = best
best_after s alpha root (x ∷ xs) best = best_after s alpha root xs (after_others s alpha root x (after_merges s root x best))

-- the same, but whether the first can be merged isn't asked
abbrev pub below_after : Attributes → ℕ → Plain → List NodeAt → Best → Best
below_after s alpha root [] best = best
below_after s alpha root (x ∷ xs) best = best_after s alpha root xs (after_others s alpha root x best)
