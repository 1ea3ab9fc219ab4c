use Rattle.std.proofs.Common.{◌==◌}
use Rattle.be_shape.proofs.Commons.{both}
use Rattle.be_shape.proofs.tallies.Tally.note_two.Goals as goal

pub returns-clause-counts : goal.returns-clause-counts
returns-clause-counts c = both 254 (λ a. c.args.x == a) (λ a. c.args.y == a) _ _ _ c.note.ensures.counts c.note-2.ensures.counts
