use Rattle.std.proofs.Common.{◌≡◌, inr, ◌+◌, ◌≤◌, ◌++◌, ◌∷◌, [], Err, length, map, take, sym, ap, subst, ◌∙◌, arith, rules}
use Rattle.std.specs.List.{All}
use Rattle.std.proofs.lemmas.List.Elements.{All-push}
use Rattle.std.proofs.lemmas.List.{length-map, map-append}
use Rattle.be_base.specs.Readers.{now_of}
use Rattle.be_base.specs.declared.limits.TheConstants.{FILE_BYTES}
use Rattle.be_server.specs.Drill.{AreScripts, LoadsScripts}
use Rattle.be_server.specs.Status.{status_of_shelf}
use Rattle.be_server.proofs.Asking.{asks_file}
use Rattle.be_server.proofs.DrillEnds.{asks_at, asks_all, asked_at, refused_at, read_at, scripts_count, was_pushed, take_end}
use Rattle.be_server.proofs.scripts.load_scripts.Goals as goal

pub returns-in_err-script-clause-loads : goal.returns-in_err-script-clause-loads
returns-in_err-script-clause-loads g c =
    let i = c.loop-name.invariant in
    let names = c.args.names.now in
    let content = g.F.Shelf.content c.args.shelf.now in
    let is : Err (status_of_shelf c.in_err-script.field-0.0) ≡ c.from_residual.result = search rules in
    subst (LoadsScripts (map content (map now_of names)) (g.F.Shelf.read_faults c.args.shelf.now) (g.F.Shelf.read_faults c.read_file.new.self)) is
    (refused_at names c.loop-name.name-index _ c.loop-name-test.true content (g.F.Shelf.content c.loop-name.shelf) (map (λ script. script.items) c.loop-name.scripts.items)
    (g.F.Shelf.read_faults c.args.shelf.now) (g.F.Shelf.read_faults c.loop-name.shelf) (g.F.Shelf.read_faults c.read_file.new.self) c.in_err-script.field-0.0 i.1 i.3
    (λ long. c.read_file.ensures.long (c.in_err-script.was ∙ ap (λ f. Err f) long)) i.0 c.in_err-script.ensures.faults)

pub returns-in_err-script-clause-asked : goal.returns-in_err-script-clause-asked
returns-in_err-script-clause-asked g c =
    asks_at c.args.names.now c.loop-name.name-index _ c.loop-name-test.true (g.F.Shelf.content c.args.shelf.now) (map (λ script. script.items) c.loop-name.scripts.items)
    (g.F.Shelf.asked c.args.shelf.now) (g.F.Shelf.asked c.loop-name.shelf) (g.F.Shelf.asked c.read_file.new.self) c.loop-name.invariant.2 c.loop-name.invariant.3
    (asks_file c.read_file.result (g.F.Shelf.asked c.loop-name.shelf) (g.F.Shelf.asked c.read_file.new.self) _ c.read_file.ensures.asked)

pub returns-then-is_err-clause-asked : goal.returns-then-is_err-clause-asked
returns-then-is_err-clause-asked g c =
    asks_at c.args.names.now c.loop-name.name-index _ c.loop-name-test.true (g.F.Shelf.content c.args.shelf.now) (map (λ script. script.items) c.loop-name.scripts.items)
    (g.F.Shelf.asked c.args.shelf.now) (g.F.Shelf.asked c.loop-name.shelf) (g.F.Shelf.asked c.read_file.new.self) c.loop-name.invariant.2 c.loop-name.invariant.3 (inr c.in_ok-script.ensures.asked)

pub returns-clause-asked : goal.returns-clause-asked
returns-clause-asked g c =
    asks_all c.args.names.now c.loop-name.name-index (g.F.Shelf.content c.args.shelf.now) (map (λ script. script.items) c.loop-name.scripts.items)
    (g.F.Shelf.asked c.args.shelf.now) (g.F.Shelf.asked c.loop-name.shelf) (omega (arith, c.loop-name-test.false)) c.loop-name.invariant.2 c.loop-name.invariant.3

pub loop-name-preserved : goal.loop-name-preserved
loop-name-preserved g c =
    let i = c.loop-name.invariant in
    let names = c.args.names.now in
    let at = c.loop-name.name-index in
    let content = g.F.Shelf.content c.args.shelf.now in
    let pushed = was_pushed _ _ _ _ c.if-is_err.ensures.negation c.push.ensures.items in
    let old = map (λ script. script.items) c.loop-name.scripts.items in
    let same : map (λ script. script.items) c.push.new.self.items ≡ old ++ c.in_ok-script.script.items ∷ [] = ap (map (λ script. script.items)) pushed ∙ map-append (λ script. script.items) c.loop-name.scripts.items (c.in_ok-script.script ∷ []) in (
      c.in_ok-script.ensures.faults ∙ i.0,
      λ file. c.in_ok-script.ensures.content file ∙ i.1 file,
      asked_at names at _ c.loop-name-test.true (g.F.Shelf.asked c.args.shelf.now) (g.F.Shelf.asked c.loop-name.shelf) (g.F.Shelf.asked c.read_file.new.self) i.2 c.in_ok-script.ensures.asked,
      subst (AreScripts (map content (map now_of (take (at + 1) names)))) (sym same)
          (read_at names at _ c.loop-name-test.true content (g.F.Shelf.content c.loop-name.shelf) c.in_ok-script.script.items old i.1 i.3 c.in_ok-script.ensures.bytes c.in_ok-script.ensures.short),
      subst (All (λ script. length script.items ≤ FILE_BYTES)) (sym pushed) (All-push (λ script. length script.items ≤ FILE_BYTES) c.loop-name.scripts.items c.in_ok-script.script i.4 c.in_ok-script.ensures.short),
    )

pub returns-clause-count : goal.returns-clause-count
returns-clause-count g c =
    let names = c.args.names.now in
    let whole : take c.loop-name.name-index names ≡ names = take_end names c.loop-name.name-index (omega (arith, c.loop-name-test.false)) in
    let content = g.F.Shelf.content c.args.shelf.now in
    let same = scripts_count (map content (map now_of (take c.loop-name.name-index names))) (map (λ script. script.items) c.loop-name.scripts.items) c.loop-name.invariant.3 in
    omega (arith, same, length-map c.loop-name.scripts.items (λ script. script.items), length-map (map now_of (take c.loop-name.name-index names)) content, length-map (take c.loop-name.name-index names) now_of, ap (λ l. length l) whole)
