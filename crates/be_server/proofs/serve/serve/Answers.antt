-- The links were served, or the files were refused.
use Rattle.std.proofs.Common.{Some, option_map, refl}
use Rattle.be_base.specs.Readers.{now_of}
use Rattle.be_io.specs.Outside.{link_state}
use Rattle.be_command_line.specs.Words.{serve}
use Rattle.be_server.specs.Outside.{objects, passage}
use Rattle.be_server.specs.Files.{run_files}
use Rattle.be_server.proofs.ServeEnds.{links_served, serve_refused}
use Rattle.be_server.proofs.Promise.{promised, none_taken}
use Rattle.be_server.proofs.serve.serve.Goals as goal

pub returns-in-Ok : goal.returns-in-Ok
returns-in-Ok g c input =
    let p = passage g.F.Shelf g.S.Source g.K.Sink g.D.Door.state (link_state g.L.Source g.L.Sink) (objects c.args.shelf.now input c.args.out.now c.args.door.now) (objects c.load_files.new.shelf input c.run_serve.new.out c.run_serve.new.door) in
    let load = option_map now_of c.args.load in
    let files = run_files p.before.content c.args.schema.now load in
    let l = c.in-Ok.loaded in
    let loads = c.in-Ok.ensures.loads in
    promised p (Some (serve c.args.schema.now load c.args.port c.args.seats c.args.links)) c.run_serve.result
    (refl, links_served p c.args.port c.args.seats c.args.links files l.schema l.rows.items c.run_serve.result loads.0 loads.1 loads.2 c.run_serve.ensures)
    (none_taken p.before.link.source.taken) c.load_files.ensures.asked tt

pub returns-in-Err : goal.returns-in-Err
returns-in-Err g c input =
    let p = passage g.F.Shelf g.S.Source g.K.Sink g.D.Door.state (link_state g.L.Source g.L.Sink) (objects c.args.shelf.now input c.args.out.now c.args.door.now) (objects c.load_files.new.shelf input c.args.out.now c.args.door.now) in
    let load = option_map now_of c.args.load in
    let files = run_files p.before.content c.args.schema.now load in
    promised p (Some (serve c.args.schema.now load c.args.port c.args.seats c.args.links)) c.in-Err.status
    (refl, serve_refused p c.args.port c.args.seats c.args.links files c.in-Err.status (refl, refl) c.in-Err.ensures.loads)
    (none_taken p.before.link.source.taken) c.load_files.ensures.asked tt
