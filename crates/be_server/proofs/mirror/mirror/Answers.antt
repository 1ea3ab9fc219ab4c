-- The links were served, or the schema was refused.
use Rattle.std.proofs.Common.{Some, inl, refl}
use Rattle.be_io.specs.Outside.{link_state}
use Rattle.be_command_line.specs.Words.{mirror}
use Rattle.be_server.specs.Outside.{objects, passage}
use Rattle.be_server.proofs.MirrorEnds.{links_mirrored, mirror_refused}
use Rattle.be_server.proofs.Promise.{promised, none_taken}
use Rattle.be_server.proofs.mirror.mirror.Goals as goal

pub returns-in-Ok : goal.returns-in-Ok
returns-in-Ok g c =
    let p = passage g.F.Shelf g.S.Source g.K.Sink g.D.Door.state (link_state g.L.Source g.L.Sink) (objects c.args.shelf.now c.args.input.now c.args.out.now c.args.door.now)
    (objects c.load_schema.new.shelf c.run_links.new.input c.run_links.new.out c.run_links.new.door) in
    let loads = c.in-Ok.ensures.loads in
    promised p (Some (mirror c.args.schema.now c.args.port c.args.seats c.args.links)) c.run_links.result
    (links_mirrored p c.args.port c.args.seats c.args.links (p.before.content c.args.schema.now) c.in-Ok.schema c.run_links.result loads.0 loads.1 c.run_links.ensures.runs)
    c.run_links.ensures.within (inl c.load_schema.ensures.asked) tt

pub returns-in-Err : goal.returns-in-Err
returns-in-Err g c =
    let p = passage g.F.Shelf g.S.Source g.K.Sink g.D.Door.state (link_state g.L.Source g.L.Sink) (objects c.args.shelf.now c.args.input.now c.args.out.now c.args.door.now)
    (objects c.load_schema.new.shelf c.args.input.now c.args.out.now c.args.door.now) in
    promised p (Some (mirror c.args.schema.now c.args.port c.args.seats c.args.links)) c.in-Err.status
    (mirror_refused p c.args.port c.args.seats c.args.links (p.before.content c.args.schema.now) c.in-Err.status (refl, refl, refl) c.in-Err.ensures.loads)
    (none_taken p.before.link.source.taken) (inl c.load_schema.ensures.asked) tt
