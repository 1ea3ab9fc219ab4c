-- Kinds of steps.
use Rattle.std.specs.Prelude.{Bool, true, false}
use Rattle.be_model.specs.declared.paths.Step.{Step}
use Rattle.be_model.specs.declared.paths.Step.TheVariants.{SplitPart, SplitHalf, Merge, Shift}

abbrev pub is_split : Step → Bool
is_split (SplitPart path a) = true
is_split (SplitHalf path half) = true
is_split (Merge path) = false
is_split (Shift path from to id) = false

abbrev pub is_merge : Step → Bool
is_merge (SplitPart path a) = false
is_merge (SplitHalf path half) = false
is_merge (Merge path) = true
is_merge (Shift path from to id) = false
