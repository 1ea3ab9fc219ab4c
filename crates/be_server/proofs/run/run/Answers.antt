-- The session was served, or the files were refused.
use Rattle.std.proofs.Common.{Some, option_map, refl}
use Rattle.be_base.specs.Readers.{now_of}
use Rattle.be_io.specs.Outside.{link_state}
use Rattle.be_command_line.specs.Words.{run}
use Rattle.be_server.specs.Outside.{objects, passage}
use Rattle.be_server.specs.Files.{run_files}
use Rattle.be_server.proofs.Promise.{promised, none_taken}
use Rattle.be_server.proofs.RunEnds.{has_status, run_ended, run_refused}
use Rattle.be_server.proofs.run.run.Goals as goal

pub status_of-requires : goal.status_of-requires
status_of-requires g c = has_status _ _ _ _ _ c.serve.result c.serve.ensures.ends

pub returns-in-Ok : goal.returns-in-Ok
returns-in-Ok g c door =
    let p = passage g.F.Shelf g.S.Source g.K.Sink g.D.Door.state (link_state g.L.Source g.L.Sink) (objects c.args.shelf.now c.args.input.now c.args.out.now door) (objects c.load_files.new.shelf c.serve.new.input c.serve.new.out door) in
    let load = option_map now_of c.args.load in
    let l = c.in-Ok.loaded in
    let loads = c.in-Ok.ensures.loads in
    promised p (Some (run c.args.schema.now load)) c.status_of.result
    (run_ended p (run_files p.before.content c.args.schema.now load) l.schema l.rows.items c.serve.result c.status_of.result loads.0 loads.1 loads.2 c.serve.ensures.ends c.status_of.ensures)
    c.serve.ensures.within c.load_files.ensures.asked refl

pub returns-in-Err : goal.returns-in-Err
returns-in-Err g c door =
    let p = passage g.F.Shelf g.S.Source g.K.Sink g.D.Door.state (link_state g.L.Source g.L.Sink) (objects c.args.shelf.now c.args.input.now c.args.out.now door) (objects c.load_files.new.shelf c.args.input.now c.args.out.now door) in
    let load = option_map now_of c.args.load in
    promised p (Some (run c.args.schema.now load)) c.in-Err.status
    (run_refused p (run_files p.before.content c.args.schema.now load) c.in-Err.status (refl, refl) c.in-Err.ensures.loads) (none_taken p.before.link.source.taken) c.load_files.ensures.asked refl
