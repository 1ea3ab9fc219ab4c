-- The list was given and printed, over the schema that was read.
use Rattle.std.proofs.Common.{◌≡◌, sym, subst, rules}
use Rattle.std.specs.Option.{is_some}
use Rattle.be_change.specs.Opening.{opening_of}
use Rattle.be_hub.specs.Serving.{LinksAreServed}
use Rattle.be_io.specs.Outside.{link_state, sink_state}
use Rattle.be_server.specs.Serve.{RunsServe}
use Rattle.be_server.proofs.ServeEnds.{serve_printed}
use Rattle.be_server.proofs.serve.run_serve.Goals as goal

pub returns-in-Ok-mailed : goal.returns-in-Ok-mailed
returns-in-Ok-mailed g c =
    let told = link_state g.L.Source g.L.Sink in
    let before = sink_state g.K.Sink c.args.out.now in
    let after = sink_state g.K.Sink c.write_served.new.out in
    let door = g.D.Door.state c.args.door.now in
    let door' = g.D.Door.state c.mailed.new.door in
    let kept = c.write_served.new.out ≡ c.args.out.now in
    let rows = c.args.loaded.rows.items in
    let served = c.in-Ok-mailed.served in
    let same : c.deref.result.now ≡ c.args.loaded.schema = search rules in
    subst (λ s. RunsServe told kept s rows c.args.port c.args.seats c.args.links door door' before after c.write_served.result) same
    (serve_printed told kept c.args.port c.args.seats c.args.links door door' before after c.deref.result.now rows served.log.list served.sums (is_some served.shade) c.write_served.result
    (subst (λ s. LinksAreServed told s (opening_of rows) served.log.list (is_some served.shade) c.args.seats c.args.links served.sums door'.keeps door'.kept) (sym c.deref.ensures) c.in-Ok-mailed.ensures.served)
    c.in-Ok-mailed.ensures.door c.write_served.ensures)
