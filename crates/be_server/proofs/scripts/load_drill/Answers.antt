use Rattle.std.proofs.Common.{◌≡◌, Err, map, option_map, subst, rules}
use Rattle.be_base.specs.Readers.{now_of}
use Rattle.be_server.specs.Drill.{drill_files, LoadsScripts, LoadsDrill}
use Rattle.be_server.proofs.Asking.{asks_run, asks_behind}
use Rattle.be_server.proofs.DrillEnds.{scripts_refused, same_told}
use Rattle.be_server.proofs.scripts.load_drill.Goals as goal

pub returns-in_err-schema-clause-asked : goal.returns-in_err-schema-clause-asked
returns-in_err-schema-clause-asked g c =
    asks_run (g.F.Shelf.content c.args.shelf.now) c.args.schema.now (option_map now_of c.args.load) (map now_of c.args.files.now) (g.F.Shelf.asked c.args.shelf.now) (g.F.Shelf.asked c.load_files.new.shelf) c.load_files.ensures.asked

pub returns-in_err-scripts-clause-asked : goal.returns-in_err-scripts-clause-asked
returns-in_err-scripts-clause-asked g c =
    asks_behind (g.F.Shelf.content c.args.shelf.now) (g.F.Shelf.content c.load_files.new.shelf) c.args.schema.now (option_map now_of c.args.load) (map now_of c.args.files.now) c.in_ok-schema.field-0.schema c.in_ok-schema.field-0.rows.items
    (g.F.Shelf.asked c.args.shelf.now) (g.F.Shelf.asked c.load_files.new.shelf) (g.F.Shelf.asked c.load_scripts.new.shelf)
    c.in_ok-schema.ensures.read c.in_ok-schema.ensures.loads.1 c.in_ok-schema.ensures.loads.2 c.load_files.ensures.content c.load_scripts.ensures.asked

pub returns-clause-asked : goal.returns-clause-asked
returns-clause-asked g c =
    asks_behind (g.F.Shelf.content c.args.shelf.now) (g.F.Shelf.content c.load_files.new.shelf) c.args.schema.now (option_map now_of c.args.load) (map now_of c.args.files.now) c.in_ok-schema.field-0.schema c.in_ok-schema.field-0.rows.items
    (g.F.Shelf.asked c.args.shelf.now) (g.F.Shelf.asked c.load_files.new.shelf) (g.F.Shelf.asked c.load_scripts.new.shelf)
    c.in_ok-schema.ensures.read c.in_ok-schema.ensures.loads.1 c.in_ok-schema.ensures.loads.2 c.load_files.ensures.content c.load_scripts.ensures.asked

pub returns-in_err-scripts-clause-loads : goal.returns-in_err-scripts-clause-loads
returns-in_err-scripts-clause-loads g c =
    let files = drill_files (g.F.Shelf.content c.args.shelf.now) c.args.schema.now (option_map now_of c.args.load) (map now_of c.args.files.now) in
    let is : Err c.in_err-scripts.field-0.0 ≡ c.from_residual-in_err-scripts.result = search rules in
    subst (LoadsDrill files (g.F.Shelf.read_faults c.args.shelf.now) (g.F.Shelf.read_faults c.load_scripts.new.shelf)) is
    (scripts_refused files (g.F.Shelf.read_faults c.args.shelf.now) (g.F.Shelf.read_faults c.load_files.new.shelf) (g.F.Shelf.read_faults c.load_scripts.new.shelf) c.in_ok-schema.field-0.schema c.in_ok-schema.field-0.rows.items c.in_err-scripts.field-0.0
    c.in_ok-schema.ensures.loads.0 c.in_ok-schema.ensures.loads.1 c.in_ok-schema.ensures.loads.2
    (subst (λ l. LoadsScripts l (g.F.Shelf.read_faults c.load_files.new.shelf) (g.F.Shelf.read_faults c.load_scripts.new.shelf) (Err c.in_err-scripts.field-0.0)) (same_told _ _ (map now_of c.args.files.now) c.load_files.ensures.content) c.in_err-scripts.ensures.loads))
