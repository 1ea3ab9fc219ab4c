use Rattle.be_io.proofs.BufferLemmas.{buffer_state-used}
use Rattle.be_io.proofs.buffer.Buffer.use_up.Goals as goal

pub returns : goal.returns
returns c = buffer_state-used c.self.inside c.args.self.now c.args.count c.self.invariant c.self.view_is c.requires
