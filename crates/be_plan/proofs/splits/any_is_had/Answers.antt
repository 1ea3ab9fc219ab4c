use Rattle.std.proofs.Common.{sym, ◌∙◌}
use Rattle.be_shape.specs.Spots.{known_of}
use Rattle.be_plan.proofs.Counting.{common_had}
use Rattle.be_plan.proofs.splits.any_is_had.Goals as goal

pub returns-else-is_many : goal.returns-else-is_many
returns-else-is_many c =
    c.listed_is_had.ensures ∙ common_had c.args.s.now (known_of c.args.k.now).used c.args.leaf.now c.common-common.result c.count.ensures.form.few c.requires.lie (sym c.is_many.ensures ∙ c.if-is_many.false) c.common-common.ensures
