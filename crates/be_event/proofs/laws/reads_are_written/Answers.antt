use Rattle.be_event.proofs.Grammar.{reads_are_written}
use Rattle.be_event.proofs.laws.reads_are_written.Goals as goal

pub returns : goal.returns
returns c = reads_are_written
