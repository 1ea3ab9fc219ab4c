use Rattle.std.proofs.Common.{◌≡◌, map, subst, rules}
use Rattle.std.specs.Arc.{arc_value}
use Rattle.std.specs.Option.{is_some}
use Rattle.be_change.specs.Opening.{opening_of}
use Rattle.be_hub.specs.Transcripts.{AreServed}
use Rattle.be_io.specs.Outside.{sink_state}
use Rattle.be_server.specs.Drill.{RunsDrill}
use Rattle.be_server.proofs.drill.run_drill.Goals as goal

pub returns-in-Ok-mailed : goal.returns-in-Ok-mailed
returns-in-Ok-mailed g c =
    let same : c.deref.result.now ≡ c.args.loaded.schema = search rules in
    let shared : arc_value c.in-Ok.schema ≡ c.deref.result.now = search rules in
    let scripts = map (λ script. script.items) c.args.loaded.scripts.items in
    subst (λ s. RunsDrill (c.write_drill.new.out ≡ c.args.out.now) s c.args.loaded.rows.items scripts (sink_state g.K.Sink c.args.out.now) (sink_state g.K.Sink c.write_drill.new.out) c.write_drill.result) same
    (c.write_drill.ensures c.args.loaded.rows.items scripts
    (subst (λ s. AreServed s (opening_of c.args.loaded.rows.items) c.in-Ok-mailed.drilled.log.list (is_some c.in-Ok-mailed.drilled.shade) scripts (map (λ t. t.items) c.in-Ok-mailed.drilled.transcripts.items)) shared c.in-Ok-mailed.ensures.served))
