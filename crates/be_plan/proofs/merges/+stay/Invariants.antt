use Rattle.std.proofs.Common.{◌≡◌, drop}
use Rattle.be_shape.specs.Plain.{plain, parts_as, rows_in_parts}
use Rattle.be_plan.specs.Merges.{all_stay}
use Rattle.be_plan.proofs.merges.+stay.Given as goal

-- all stay where those of the parts that are left do
abbrev pub invariant-parts_stay-loop-part : goal.invariant-parts_stay-loop-part
invariant-parts_stay-loop-part l =
    all_stay l.s l.above.hop l.above.range (plain l.above.node.now) (rows_in_parts (parts_as (drop l.part-index l.parts))) ≡ all_stay l.s l.above.hop l.above.range (plain l.above.node.now) (rows_in_parts (parts_as l.parts))
