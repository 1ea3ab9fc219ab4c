use Rattle.be_server.proofs.HeatEnds.{asked_more}
use Rattle.be_server.proofs.heat.append_demand.Goals as goal

pub loop-place-preserved : goal.loop-place-preserved
loop-place-preserved c =
    asked_more c.args.schema.now c.args.demand.now c.extend_from_slice-3.new.self.items c.loop-place.text.items c.append_asked.new.text.items c.loop-place.place c.loop-place.invariant c.in_ok-append_asked.ensures
