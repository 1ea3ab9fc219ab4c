use Rattle.std.proofs.Common.{sym, ◌∙◌}
use Rattle.be_shape.specs.Spots.{known_of}
use Rattle.be_plan.proofs.Stuck.{still_part, closed_part}
use Rattle.be_plan.proofs.splits.part_split_at.Goals as goal

pub returns-then-is_still : goal.returns-then-is_still
returns-then-is_still c =
    still_part c.args.s.now c.args.alpha (known_of c.args.k.now) c.args.leaf.now c.requires.lie (sym c.is_still.ensures ∙ c.if-is_still.true) c.requires.settled

pub returns-then-not-any_is_had : goal.returns-then-not-any_is_had
returns-then-not-any_is_had c =
    closed_part c.args.s.now c.args.alpha (known_of c.args.k.now) c.args.leaf.now c.requires.lie (sym c.any_is_had.ensures ∙ c.if-not-any_is_had.true)
