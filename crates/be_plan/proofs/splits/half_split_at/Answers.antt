use Rattle.std.proofs.Common.{sym, ◌∙◌}
use Rattle.be_shape.specs.Spots.{known_of}
use Rattle.be_plan.proofs.Stuck.{still_half}
use Rattle.be_plan.proofs.splits.half_split_at.Goals as goal

pub returns-then-is_still : goal.returns-then-is_still
returns-then-is_still c =
    still_half c.args.s.now (known_of c.args.k.now) c.args.leaf.now (sym c.is_still.ensures ∙ c.if-is_still.true) c.requires.settled
