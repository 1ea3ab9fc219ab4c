use Rattle.be_io.specs.Outside.{sink_state}
use Rattle.be_server.proofs.output.write_out.Goals as goal

pub returns : goal.returns
returns g c = c.hand_out.ensures (sink_state g.K.Sink c.args.out.now) c.args.text.now c.write_all-written.ensures.wrote
