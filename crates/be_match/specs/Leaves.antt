-- Leaves that are visited, and what they cost.
use Rattle.std.specs.Prelude.{◌+◌, ◌^◌, ◌<◌, List, length}
use Rattle.be_model.specs.declared.changes.Row.{Row}
use Rattle.be_model.specs.declared.costs.Cost.{Cost}
use Rattle.be_model.specs.Costs.{cost}
use Rattle.be_shape.specs.Search.{all_of}

-- what a visit of these leaves costs
abbrev pub cost_of_leaves : List (List Row) → Cost
cost_of_leaves leaves = cost (length leaves) (length (all_of leaves))

-- 64 bits count the leaves and their rows
pub record AreCountable (leaves : List (List Row)) : Type 0 where
  pub few : length leaves < 2 ^ 64
  pub few_rows : length (all_of leaves) < 2 ^ 64

-- a cost with what a visit of these leaves costs
abbrev pub cost_with : Cost → List (List Row) → Cost
cost_with c leaves = cost (c.visits + length leaves) (c.tested + length (all_of leaves))

-- 64 bits count the leaves and their rows beside a cost
pub record AreCountableWith (c : Cost) (leaves : List (List Row)) : Type 0 where
  pub few : c.visits + length leaves < 2 ^ 64
  pub few_rows : c.tested + length (all_of leaves) < 2 ^ 64
