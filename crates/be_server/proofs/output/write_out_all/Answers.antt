use Rattle.std.proofs.Common.{◌++◌, map}
use Rattle.be_io.specs.Outside.{sink_state}
use Rattle.be_server.specs.Drill.{headed}
use Rattle.be_server.proofs.output.write_out_all.Goals as goal

pub returns : goal.returns
returns g c =
    c.hand_out.ensures (sink_state g.K.Sink c.args.out.now) (headed 1 (map (λ t. t.items) c.args.transcripts.now) ++ c.args.log.now) c.write_all_of-written.ensures
