use Rattle.std.proofs.Common.{◌≡◌, ◌++◌, drop}
use Rattle.be_base.specs.Lists.{BeginsWith}
use Rattle.be_model.specs.Rows.{KeepsRoom}
use Rattle.be_shape.specs.Plain.{parts_as, rows_in_parts}
use Rattle.be_tree.specs.Gathered.{wanted}
use Rattle.be_tree.proofs.gathers.+gathers.Given as goal

-- what was put, and what is still to be looked at
abbrev pub invariant-gather_parts-loop-part : goal.invariant-gather_parts-loop-part
invariant-gather_parts-loop-part l =
    (l.found.rows ++ wanted l.session (rows_in_parts (parts_as (drop l.part-index l.parts))) ≡ l.initial.found.rows ++ wanted l.session (rows_in_parts (parts_as l.parts)))
    × BeginsWith l.found.rows l.initial.found.rows × KeepsRoom l.initial.found l.found
