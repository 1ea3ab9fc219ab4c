-- The files that were asked for.
use Rattle.std.proofs.Common.{None, option_map, ◌++◌, [], ◌∷◌, ap, ◌∙◌, append_assoc}
use Rattle.be_base.specs.Readers.{now_of}
use Rattle.be_server.proofs.Asking.{asks_schema, asks_load}
use Rattle.be_server.proofs.files.load_files.Goals as goal
use Rattle.be_server.proofs.files.load_files.Goals.{in-Some+in_ok-rows-in-Some, in-None}

pub returns-in_err-schema-clause-asked : goal.returns-in_err-schema-clause-asked
returns-in_err-schema-clause-asked g c =
    asks_schema (g.F.Shelf.content c.args.shelf.now) c.args.schema.now (option_map now_of c.args.load) [] (g.F.Shelf.asked c.args.shelf.now) (g.F.Shelf.asked c.load_schema.new.shelf) c.load_schema.ensures.asked

pub returns-clause-asked : goal.returns-clause-asked
returns-clause-asked g c =
    let content = g.F.Shelf.content c.args.shelf.now in
    let old = g.F.Shelf.asked c.args.shelf.now in
    let first = g.F.Shelf.asked c.load_schema.new.shelf in
    elim c.match-load.branch [
      | in-Some+in_ok-rows-in-Some w ↦
          rw (w.in-Some.is, w.shelf-is) (asks_load content c.args.schema.now w.in-Some.name.now _ old first (g.F.Shelf.asked w.load_table.new.shelf) c.in_ok-schema.ensures.read c.in_ok-schema.ensures.loads.1 w.load_table.ensures.asked)
      | in-None w ↦ rw (w.in-None.is, w.shelf-is) (asks_schema content c.args.schema.now None [] old first c.load_schema.ensures.asked)
    ]

pub returns-clause-read : goal.returns-clause-read
returns-clause-read g c =
    let old = g.F.Shelf.asked c.args.shelf.now in
    elim c.match-load.branch [
      | in-Some+in_ok-rows-in-Some w ↦
          rw (w.in-Some.is, w.shelf-is) (w.in_ok-rows-in-Some.ensures.read ∙ (ap (λ l. l ++ w.in-Some.name.now ∷ []) c.in_ok-schema.ensures.read ∙ append_assoc old (c.args.schema.now ∷ []) (w.in-Some.name.now ∷ [])))
      | in-None w ↦ rw (w.in-None.is, w.shelf-is) c.in_ok-schema.ensures.read
    ]
