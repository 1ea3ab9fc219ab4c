-- The line of the sums was written, or couldn't be made.
use Rattle.std.proofs.Common.{◌≡◌, inl, Some, string_bytes, refl, subst, rules}
use Rattle.be_io.specs.Outside.{link_state}
use Rattle.be_server.specs.Output.{WroteOut}
use Rattle.be_command_line.specs.Words.{gen}
use Rattle.be_server.specs.Outside.{objects, passage}
use Rattle.be_server.proofs.GenEnds.{gen_ended}
use Rattle.be_server.proofs.Promise.{promised, none_taken}
use Rattle.be_server.proofs.generate.generate.Goals as goal

pub returns-in-Ok : goal.returns-in-Ok
returns-in-Ok g c shelf input door =
    let p = passage g.F.Shelf g.S.Source g.K.Sink g.D.Door.state (link_state g.L.Source g.L.Sink) (objects shelf input c.args.out.now door) (objects shelf input c.write_out.new.out door) in
    let line = string_bytes c.in-Ok.line in
    let text : c.as_bytes.result.now ≡ line = search rules in
    let wrote = subst (λ l. WroteOut p.before.link.sink p.after.link.sink l c.write_out.result) text c.write_out.ensures in
    promised p (Some (gen c.args.number c.args.subs c.args.events)) c.status_of.result
    (refl, refl, gen_ended p c.args.number c.args.subs c.args.events line c.write_out.result c.status_of.result c.in-Ok.ensures wrote c.status_of.ensures)
    (none_taken p.before.link.source.taken) refl refl

pub returns-in-Err : goal.returns-in-Err
returns-in-Err g c shelf input door =
    let p = passage g.F.Shelf g.S.Source g.K.Sink g.D.Door.state (link_state g.L.Source g.L.Sink) (objects shelf input c.args.out.now door) (objects shelf input c.args.out.now door) in
    promised p (Some (gen c.args.number c.args.subs c.args.events)) _ (refl, refl, inl refl) (none_taken p.before.link.source.taken) refl refl
