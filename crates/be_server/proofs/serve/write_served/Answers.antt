-- What was written is the list and the line of the links, or the text couldn't be made.
use Rattle.std.proofs.Common.{◌∙◌, inr, subst}
use Rattle.be_io.specs.Outside.{sink_state}
use Rattle.be_server.specs.Output.{WroteOut}
use Rattle.be_server.proofs.serve.write_served.Goals as goal

pub returns : goal.returns
returns g c =
    let before = sink_state g.K.Sink c.args.out.now in
    let after = sink_state g.K.Sink c.write_out-written.new.out in
    inr (c.status_served.ensures c.args.schema.now c.args.served.log.list before after
    (subst (λ text. WroteOut before after text c.write_out-written.result) (c.as_slice.ensures.value ∙ c.in-Ok.ensures) c.write_out-written.ensures))
