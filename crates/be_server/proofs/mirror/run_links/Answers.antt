-- The links were served, and the line was printed, in the schema that was read; or nothing is printed.
use Rattle.std.proofs.Common.{◌≡◌, Err, refl, ap, ◌∙◌, subst, rules}
use Rattle.std.specs.Arc.{arc_value}
use Rattle.std.specs.Option.{is_some}
use Rattle.be_io.specs.Outside.{link_state, sink_state, source_state}
use Rattle.be_server.specs.Mirror.{RunsMirror}
use Rattle.be_server.specs.Outside.{link}
use Rattle.be_server.specs.Status.{status_of_mirror}
use Rattle.be_server.proofs.MirrorEnds.{mirror_printed, mirror_failed}
use Rattle.be_server.proofs.mirror.run_links.Goals as goal

pub returns-in-Ok-run-clause-runs : goal.returns-in-Ok-run-clause-runs
returns-in-Ok-run-clause-runs g c =
    let told = link_state g.L.Source g.L.Sink in
    let before = link (source_state g.S.Source c.args.input.now) (sink_state g.K.Sink c.args.out.now) in
    let after = link (source_state g.S.Source c.run_pair-run.new.input) (sink_state g.K.Sink c.write_mirrored.new.out) in
    let door = g.D.Door.state c.args.door.now in
    let door' = g.D.Door.state c.run_pair-run.new.door in
    let read = c.run_pair-run.new.input ≡ c.args.input.now in
    let kept = c.write_mirrored.new.out ≡ c.args.out.now in
    let s = arc_value c.in-Ok.schema in
    let m = c.in-Ok-run.mirrored in
    let same : s ≡ c.args.schema = search rules in
    subst (λ x. RunsMirror told read kept x c.args.port c.args.seats c.args.links before after door door' c.write_mirrored.result) same
    (mirror_printed told read kept s c.args.port c.args.seats c.args.links before after door door' m.feed m.len m.sums (is_some m.shade) c.write_mirrored.result
    c.in-Ok-run.ensures.mirrored c.in-Ok-run.ensures.door c.write_mirrored.ensures)

pub returns-in-Err-clause-runs : goal.returns-in-Err-clause-runs
returns-in-Err-clause-runs g c =
    let told = link_state g.L.Source g.L.Sink in
    let before = link (source_state g.S.Source c.args.input.now) (sink_state g.K.Sink c.args.out.now) in
    let after = link (source_state g.S.Source c.run_pair-run.new.input) (sink_state g.K.Sink c.args.out.now) in
    let door = g.D.Door.state c.args.door.now in
    let door' = g.D.Door.state c.run_pair-run.new.door in
    let read = c.run_pair-run.new.input ≡ c.args.input.now in
    let kept = c.args.out.now ≡ c.args.out.now in
    let s = arc_value c.in-Ok.schema in
    let same : s ≡ c.args.schema = search rules in
    let runs = mirror_failed told read kept s c.args.port c.args.seats c.args.links before after door door' c.in-Err.fault refl
    (λ beyond is. c.run_pair-run.ensures.ahead beyond (c.in-Err.is ∙ ap (λ x. Err x) is)) c.in-Err.ensures.fault in
    rw c.from.ensures (subst (λ x. RunsMirror told read kept x c.args.port c.args.seats c.args.links before after door door' (status_of_mirror c.in-Err.fault)) same runs)
