use Rattle.std.proofs.Common.{subst, ◌∙◌}
use Rattle.std.specs.Arc.{arc_value}
use Rattle.be_model.specs.declared.changes.Row.{Row}
use Rattle.be_shape.specs.Common.{Notes, lists}
use Rattle.be_shape.proofs.Commons.{counted_more}
use Rattle.be_shape.proofs.tallies.common_by.Goals as goal

pub loop-place-preserved : goal.loop-place-preserved
loop-place-preserved c =
    let was = c.loop-place.invariant in
    let notes = subst (λ (row : Row). Notes 253 (λ a. lists a row) c.loop-place.tally.counts c.add_at.new.self.counts) c.deref.ensures c.add_at.ensures.counts in (
      counted_more c.args.leaf.now c.loop-place.place (arc_value c.row.result.now) _ _ c.requires.few c.row.ensures notes was.0,
      c.add_at.ensures.told was.1,
      c.add_at.ensures.wanted ∙ was.2,
    )
