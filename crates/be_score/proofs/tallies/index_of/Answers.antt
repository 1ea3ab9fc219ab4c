use Rattle.std.proofs.Common.{arith}
use Rattle.be_score.proofs.Widths.{attr-below}
use Rattle.be_score.proofs.tallies.index_of.Goals as goal

pub returns-clause-below : goal.returns-clause-below
returns-clause-below c =
    let below = attr-below c.args.s.now c.args.a c.args.row.now.conj c.requires.lies c.requires.has in
    let few = c.count.ensures.form.few in
    omega arith
