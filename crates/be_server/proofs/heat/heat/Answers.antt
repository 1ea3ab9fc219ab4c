-- The sessions were served, or the files were refused.
use Rattle.std.proofs.Common.{Some, None, map, refl}
use Rattle.be_base.specs.Readers.{now_of}
use Rattle.be_demand.specs.Jobs.{plain}
use Rattle.be_io.specs.Outside.{link_state}
use Rattle.be_command_line.specs.Words.{heat}
use Rattle.be_server.specs.Outside.{objects, passage}
use Rattle.be_server.specs.Drill.{drill_files}
use Rattle.be_server.specs.Heat.{prints_heat}
use Rattle.be_server.proofs.DrillEnds.{files_served, files_refused}
use Rattle.be_server.proofs.Promise.{promised, none_taken}
use Rattle.be_server.proofs.heat.heat.Goals as goal

pub run_heat-requires-clause-none : goal.run_heat-requires-clause-none
run_heat-requires-clause-none g c κs within = c.in-Ok.ensures.loads.1.are_rows.1

pub returns-in-Ok : goal.returns-in-Ok
returns-in-Ok g c input door =
    let p = passage g.F.Shelf g.S.Source g.K.Sink g.D.Door.state (link_state g.L.Source g.L.Sink) (objects c.args.shelf.now input c.args.out.now door) (objects c.load_drill.new.shelf input c.run_heat.new.out door) in
    let load = None in
    let names = map now_of c.args.files.now in
    let l = c.in-Ok.loaded in
    let loads = c.in-Ok.ensures.loads in
    promised p (Some (heat c.args.schema.now c.args.rounds names)) c.run_heat.result
    (refl, files_served p (prints_heat p) (drill_files p.before.content c.args.schema.now load names) l.schema l.rows.items (map plain l.scripts.items) c.run_heat.result loads.0 loads.1 c.run_heat.ensures)
    (none_taken p.before.link.source.taken) c.load_drill.ensures.asked refl

pub returns-in-Err : goal.returns-in-Err
returns-in-Err g c input door =
    let p = passage g.F.Shelf g.S.Source g.K.Sink g.D.Door.state (link_state g.L.Source g.L.Sink) (objects c.args.shelf.now input c.args.out.now door) (objects c.load_drill.new.shelf input c.args.out.now door) in
    let load = None in
    let names = map now_of c.args.files.now in
    promised p (Some (heat c.args.schema.now c.args.rounds names)) c.in-Err.status
    (refl, files_refused p (prints_heat p) (drill_files p.before.content c.args.schema.now load names) c.in-Err.status refl c.in-Err.ensures.loads)
    (none_taken p.before.link.source.taken) c.load_drill.ensures.asked refl
