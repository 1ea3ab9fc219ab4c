-- What was written whole is handed on, or isn't. What wasn't stays as it is.
use Rattle.std.proofs.Common.{◌≡◌, Ok, Err, rules, subst}
use Rattle.be_io.specs.Outside.{sink_state}
use Rattle.be_io.specs.Sink.{Wrote}
use Rattle.be_server.specs.Output.{WroteOut}
use Rattle.be_server.proofs.HandedOut.{handed_out, stopped_out}
use Rattle.be_server.proofs.output.hand_out.Goals as goal

pub returns-in-Ok : goal.returns-in-Ok
returns-in-Ok g c =
    let now = sink_state g.K.Sink c.args.out.now in
    let after = sink_state g.K.Sink c.hand_on.new.sink in
    let is : c.args.written ≡ Ok tt = search rules in
    λ before text wrote. handed_out before now after text c.hand_on.result (subst (Wrote before now text) is wrote) c.hand_on.ensures.flushed

pub returns-in-Err : goal.returns-in-Err
returns-in-Err g c =
    let now = sink_state g.K.Sink c.args.out.now in
    let is : c.args.written ≡ Err c.in-Err.fault = search rules in
    λ before text wrote. stopped_out before now text c.in-Err.fault (subst (Wrote before now text) is wrote)
