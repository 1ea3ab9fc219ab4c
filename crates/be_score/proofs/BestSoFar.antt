-- The choice among the first attributes, as far as the loop has come.
use Rattle.std.proofs.Common.{◌≡◌, ℕ, ℤ, ◌<◌, ◌≤◌, ◌≤ℤ◌, List}
use Rattle.std.specs.Prelude.{Option, Some, None}
use Rattle.be_base.specs.declared.names.AttrNo.{AttrNo}
use Rattle.be_model.specs.declared.changes.Row.{Row}
use Rattle.be_model.specs.Schemas.{Attributes}
use Rattle.be_score.specs.Scores.{score, IsCandidate}

-- the choice among the attributes below n
pub record IsPickBelow (n : ℕ) (s : Attributes) (rows : List Row) (used : List AttrNo) (alpha : ℕ) (a : AttrNo) : Type 0 where
  pub below : a.0 < n
  pub candidate : IsCandidate rows used a
  pub highest : (b : AttrNo) → b.0 < n → IsCandidate rows used b → score s rows alpha b ≤ℤ score s rows alpha a
  pub lowest : (b : AttrNo) → b.0 < n → IsCandidate rows used b → score s rows alpha b ≡ score s rows alpha a → a.0 ≤ b.0

-- the choice so far with its score, or no candidate so far
abbrev pub IsBestBelow : ℕ → Attributes → List Row → List AttrNo → ℕ → Option (AttrNo × ℤ) → Type 0
IsBestBelow n s rows used alpha None = (b : AttrNo) → b.0 < n → ¬ IsCandidate rows used b
IsBestBelow n s rows used alpha (Some best) = (best.1 ≡ score s rows alpha best.0) × IsPickBelow n s rows used alpha best.0
