use Rattle.std.proofs.Common.{rules}
use Rattle.be_io.proofs.FileLineLemmas.{means_nothing-some, means_nothing-none}
use Rattle.be_io.proofs.file_lines.means_nothing.Goals as goal

pub returns-in-Some : goal.returns-in-Some
returns-in-Some c = means_nothing-some c.args.line.now c.after_blanks.result.now c.in-Some.first.now c.in-Some._rest.now c.after_blanks.ensures (search rules)

pub returns-in-None : goal.returns-in-None
returns-in-None c = means_nothing-none c.args.line.now c.after_blanks.result.now c.after_blanks.ensures (search rules)
