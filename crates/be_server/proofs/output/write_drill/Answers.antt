use Rattle.std.proofs.Common.{◌++◌, List, ℕ, map, subst, ◌∙◌}
use Rattle.std.specs.Option.{is_some}
use Rattle.be_io.specs.Outside.{sink_state}
use Rattle.be_server.specs.Output.{WroteOut}
use Rattle.be_server.specs.Drill.{EndsAfter, headed}
use Rattle.be_server.proofs.DrillEnds.{drill_ended}
use Rattle.be_server.proofs.output.write_drill.Goals as goal

pub returns : goal.returns
returns g c =
    λ rows scripts served.
    let before = sink_state g.K.Sink c.args.out.now in
    let after = sink_state g.K.Sink c.write_behind.new.out in
    let transcripts = map (λ t. t.items) c.args.drilled.transcripts.items in
    drill_ended _ c.args.schema.now rows scripts (is_some c.args.drilled.shade) c.args.drilled.log.list transcripts before after c.write_behind.result served
    (subst (λ (l : List ℕ). EndsAfter (WroteOut before after (headed 1 transcripts ++ l)) (is_some c.args.drilled.shade) c.write_behind.result) (c.as_slice.ensures.value ∙ c.in-Ok.ensures) c.write_behind.ensures)
