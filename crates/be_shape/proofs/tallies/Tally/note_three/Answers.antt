use Rattle.std.proofs.Common.{◌==◌, ◌||◌, arith}
use Rattle.be_shape.proofs.Commons.{both}
use Rattle.be_shape.proofs.tallies.Tally.note_three.Goals as goal

pub returns-clause-counts : goal.returns-clause-counts
returns-clause-counts c =
    both 253 (λ a. c.args.x == a || c.args.y == a) (λ a. c.args.z == a) _ _ _ c.note_two.ensures.counts (λ a n l b. c.note.ensures.counts a n l (omega (arith, b)))
