-- The lines were written, or the files were refused.
use Rattle.std.proofs.Common.{Some, refl}
use Rattle.be_io.specs.Outside.{link_state}
use Rattle.be_command_line.specs.Words.{cover}
use Rattle.be_server.specs.Outside.{objects, passage}
use Rattle.be_server.specs.Files.{run_files}
use Rattle.be_server.proofs.CoverEnds.{cover_written, cover_refused}
use Rattle.be_server.proofs.Promise.{promised, none_taken}
use Rattle.be_server.proofs.cover.cover.Goals as goal

pub returns-in-Ok : goal.returns-in-Ok
returns-in-Ok g c input door =
    let p = passage g.F.Shelf g.S.Source g.K.Sink g.D.Door.state (link_state g.L.Source g.L.Sink) (objects c.args.shelf.now input c.args.out.now door) (objects c.load_files.new.shelf input c.write_lines.new.out door) in
    let name = c.args.name.now in
    let l = c.in-Ok.loaded in
    let loads = c.in-Ok.ensures.loads in
    promised p (Some (cover c.args.schema.now c.args.file.now name)) c.write_lines.result
    (refl, cover_written p (run_files p.before.content c.args.schema.now (Some c.args.file.now)) name l.schema l.rows.items c.write_lines.result loads.0 loads.1 loads.2 c.write_lines.ensures)
    (none_taken p.before.link.source.taken) c.load_files.ensures.asked refl

pub returns-in-Err : goal.returns-in-Err
returns-in-Err g c input door =
    let p = passage g.F.Shelf g.S.Source g.K.Sink g.D.Door.state (link_state g.L.Source g.L.Sink) (objects c.args.shelf.now input c.args.out.now door) (objects c.load_files.new.shelf input c.args.out.now door) in
    let name = c.args.name.now in
    promised p (Some (cover c.args.schema.now c.args.file.now name)) c.in-Err.status
    (refl, cover_refused p (run_files p.before.content c.args.schema.now (Some c.args.file.now)) name c.in-Err.status refl c.in-Err.ensures.loads)
    (none_taken p.before.link.source.taken) c.load_files.ensures.asked refl
