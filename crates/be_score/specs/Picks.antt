-- The attribute that is chosen, computed.
use Rattle.std.specs.Prelude.{ℕ, ℤ, ◌&&◌, zero, suc, Bool, not, List, length, Option, Some, None, option_map, if◌then◌else◌}
use Rattle.std.specs.List.{list_any}
use Rattle.be_base.specs.declared.names.AttrNo.{AttrNo}
use Rattle.be_model.specs.declared.changes.Row.{Row}
use Rattle.be_model.specs.Schemas.{Attributes, numbered}
use Rattle.be_model.specs.Rows.{has}
use Rattle.be_score.specs.Scores.{score, is_used}
use Rattle.be_score.specs.Tallies.{better_of}

-- some row has the attribute, and it isn't used
abbrev pub is_candidate : List Row → List AttrNo → AttrNo → Bool
is_candidate rows used a = list_any (has a) rows && not (is_used used a)

-- the candidate of the highest score, and this score, among the first attributes: the lower number on a tie
abbrev pub best_of_first : Attributes → List Row → List AttrNo → ℕ → ℕ → Option (AttrNo × ℤ)
best_of_first s rows used alpha zero = None
best_of_first s rows used alpha (suc n) =
    if is_candidate rows used (numbered n) then Some (better_of (best_of_first s rows used alpha n) (numbered n, score s rows alpha (numbered n))) else best_of_first s rows used alpha n

-- the unused attribute of the highest score that some row has, the lower number on a tie
abbrev pub pick : Attributes → List Row → List AttrNo → ℕ → Option AttrNo
pick s rows used alpha =
    option_map (λ (b : AttrNo × ℤ). b.0) (best_of_first s rows used alpha (length s))
