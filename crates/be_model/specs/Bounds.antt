-- The bound of what a search costs, over rows as plain data: it knows nothing of the tree that holds them.
use Rattle.std.specs.Prelude.{ℕ, ℤ, ◌+◌, ◌*◌, ◌≤◌, Bool, List, length, Option, Some, None, if◌then◌else◌}
use Rattle.std.specs.List.{list_all, sum_by, count_by}
use Rattle.be_base.specs.declared.limits.TheConstants.{LEAF_ROWS}
use Rattle.be_base.specs.declared.names.AttrNo.{AttrNo}
use Rattle.be_model.specs.declared.preds.Pred.{Pred}
use Rattle.be_model.specs.declared.changes.Row.{Row}
use Rattle.be_model.specs.declared.costs.Cost.{Cost}
use Rattle.be_model.specs.Domains.{Range, width, bits}
use Rattle.be_model.specs.Schemas.{Attributes, range_of}
use Rattle.be_model.specs.Matching.{Assignments, is_assigned, satisfied}
use Rattle.be_model.specs.Rows.{has}

abbrev pub bits_of : Option Range → ℕ
bits_of None = 0
bits_of (Some r) = bits (width r)

-- how often an attribute's range is halved until one value is left
abbrev pub bits_at : Attributes → AttrNo → ℕ
bits_at s a = bits_of (range_of s a)

-- the ranges of the item's attribute on the way to a row that has the attribute
abbrev pub ranges_to : Attributes → Row → AttrNo × List ℤ → ℕ
ranges_to s row item = if has item.0 row then 1 + bits_at s item.0 else 0

-- the ranges of all attributes that both the row and the event have
abbrev pub shared : Attributes → Assignments → Row → ℕ
shared s e row = sum_by (ranges_to s row) e

-- the root, and the ranges that each row shares with the event
abbrev pub visits_bound : Attributes → Assignments → List Row → ℕ
visits_bound s e rows = 1 + sum_by (shared s e) rows

-- the event assigns each attribute of the row
abbrev pub is_covered : Assignments → Row → Bool
is_covered e row = list_all (λ (p : Pred). is_assigned e p.attr) row.conj

-- 16 rows at each visited node, and the covered rows
abbrev pub tested_bound : Assignments → ℕ → List Row → ℕ
tested_bound e visits rows = LEAF_ROWS * visits + count_by (is_covered e) rows

-- the cost of a search for the event among the rows is within its bounds
pub record IsWithinBound (s : Attributes) (e : Assignments) (rows : List Row) (cost : Cost) : Type 0 where
  pub some : 1 ≤ cost.visits
  pub visits : cost.visits ≤ visits_bound s e rows
  -- each row that the event satisfies is tested
  pub found : length (satisfied e rows) ≤ cost.tested
  pub tested : cost.tested ≤ tested_bound e cost.visits rows
