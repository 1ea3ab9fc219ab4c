-- What was written is the line of the links, or the text couldn't be made.
use Rattle.std.proofs.Common.{◌∙◌, inr, subst}
use Rattle.be_io.specs.Outside.{sink_state}
use Rattle.be_server.specs.Mirror.{mirror_text}
use Rattle.be_server.specs.Output.{WroteOut}
use Rattle.be_server.proofs.mirror.write_mirrored.Goals as goal

pub returns : goal.returns
returns g c =
    let before = sink_state g.K.Sink c.args.out.now in
    let after = sink_state g.K.Sink c.write_out-written.new.out in
    inr (c.status_mirrored.ensures (mirror_text c.args.mirrored.sums.given c.args.mirrored.len) before after
    (subst (λ text. WroteOut before after text c.write_out-written.result) (c.as_slice.ensures.value ∙ c.in-Ok.ensures) c.write_out-written.ensures))
