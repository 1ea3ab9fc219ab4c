use Rattle.be_load_files.proofs.Dumped.{dumps_read_back}
use Rattle.be_load_files.proofs.laws.dump_reads_back.Goals as goal

pub returns : goal.returns
returns c = dumps_read_back
