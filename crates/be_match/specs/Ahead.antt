-- What a search counts ahead: the leaves of the nodes just below one that it enters from there.
use Rattle.std.specs.Prelude.{◌≡◌, ◌+◌, ◌^◌, ◌<◌, Bool, List, [], ◌∷◌, ◌++◌, length, if◌then◌else◌}
use Rattle.be_model.specs.declared.changes.Row.{Row}
use Rattle.be_model.specs.declared.costs.Cost.{Cost}
use Rattle.be_model.specs.Matching.{Assignments, is_assigned}
use Rattle.be_shape.specs.Plain.{Plain, node, Parts, no_part, part, Half, no_half, half, leaf_of}
use Rattle.be_shape.specs.Search.{all_of}

-- the leaf of the root of each part whose attribute the event assigns
abbrev pub ahead_in_parts : Assignments → Parts → List (List Row)
ahead_in_parts e no_part = []
ahead_in_parts e (part a root more) = (if is_assigned e a then leaf_of root ∷ [] else []) ++ ahead_in_parts e more

-- that of a half, where it is entered
abbrev pub ahead_in_half : Bool → Half → List (List Row)
ahead_in_half enters no_half = []
ahead_in_half enters (half n) = if enters then leaf_of n ∷ [] else []

-- those of all just below a node, of the halves where it is said of each that it is entered
abbrev pub ahead_below : Assignments → Bool → Bool → Plain → List (List Row)
ahead_below e in_low in_high (node rows parts low high) = ahead_in_parts e parts ++ ahead_in_half in_low low ++ ahead_in_half in_high high

-- the cost grew by what the leaves cost, less what those cost that were counted before
pub record CountsOthers (was is : Cost) (before leaves : List (List Row)) : Type 0 where
  pub visits : is.visits + length before ≡ was.visits + length leaves
  pub tested : is.tested + length (all_of before) ≡ was.tested + length (all_of leaves)

-- 64 bits count the leaves too that weren't counted before
pub record AreOthersCountable (c : Cost) (before leaves : List (List Row)) : Type 0 where
  pub few : c.visits + length leaves < 2 ^ 64 + length before
  pub few_rows : c.tested + length (all_of leaves) < 2 ^ 64 + length (all_of before)
