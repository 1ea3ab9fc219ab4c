-- The plain index as contracts see it.
use Rattle.std.specs.Prelude.{◌==◌, Bool, true, List, filter, map}
use Rattle.std.specs.List.{count_by}
use Rattle.be_model.specs.declared.costs.Cost.{Cost}
use Rattle.be_model.specs.declared.changes.Row.{Row}
use Rattle.be_model.specs.Bounds.{is_covered}
use Rattle.be_model.specs.ByIds.{ByIds, rows_of}
use Rattle.be_model.specs.Costs.{cost}
use Rattle.be_model.specs.Matching.{Assignments, satisfies}
use Rattle.be_model.specs.Schemas.{Attributes}
use Rattle.be_index.specs.declared.wanted.Wanted.{Wanted}
use Rattle.be_index.specs.declared.wanted.Wanted.TheVariants.{SatisfiedBy, Of, All}

-- a schema, and rows by their ids
pub record PlainIndex : Type 0 where
  pub schema : Attributes
  pub rows : ByIds

abbrev pub plain_index : Attributes → ByIds → PlainIndex
plain_index schema rows = record { schema = schema; rows = rows }

-- one visit, and a test of each row whose every attribute the event assigns
abbrev pub plain_cost : Assignments → ByIds → Cost
plain_cost e m = cost 1 (count_by (is_covered e) (rows_of m))

-- whether a search wants the row
abbrev pub is_wanted : Wanted → Row → Bool
is_wanted (SatisfiedBy event) row = satisfies event.now row.conj
is_wanted (Of session) row = row.session.0 == session.0
is_wanted All row = true

-- what is put of these rows where a search wants them
abbrev pub wanted_of : {X : Type 0} → (Row → X) → Wanted → List Row → List X
wanted_of of wanted rows = map of (filter (is_wanted wanted) rows)
