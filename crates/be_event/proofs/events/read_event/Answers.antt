use Rattle.std.proofs.Common.{subst, sym}
use Rattle.std.proofs.lemmas.Result.{err_from_is_err_and}
use Rattle.be_base.specs.Tokens.{tokens}
use Rattle.be_event.specs.Events.{event, Reads}
use Rattle.be_event.proofs.Known.{known_read}
use Rattle.be_event.proofs.Readings.{scanned_so, scanned_none, reads_empty, reads_fault, read_ok, read_short, sources_fine}
use Rattle.be_event.proofs.events.read_event.Goals as goal

pub scan-requires : goal.scan-requires
scan-requires c = c.nothing-found.ensures c.args.schema.now

pub returns-then-not-scan-clause-exact : goal.returns-then-not-scan-clause-exact
returns-then-not-scan-clause-exact c =
    subst (λ r. Reads r (event c.args.schema.now c.args.text.now)) (sym c.empty_event.ensures)
    (reads_empty c.args.schema.now (tokens c.args.text.now) (scanned_none c.args.schema.now c.args.text.now c.scan.new.found c.scan.result c.scan.ensures c.if-not-scan.true))

pub returns-in_err-judge-clause-exact : goal.returns-in_err-judge-clause-exact
returns-in_err-judge-clause-exact c =
    let p = err_from_is_err_and c.from_residual.result c.from_residual.ensures.1 in
    rw (p.1, p.2) (reads_fault c.args.schema.now c.args.text.now c.scan.new.found c.in_err-judge.field-0.0 (scanned_so c.args.schema.now c.args.text.now c.scan.new.found c.scan.result c.scan.ensures c.if-not-scan.false) c.if-not-found.false (c.in_err-judge.ensures c.args.schema.now))

pub returns-in_err-judge-clause-known : goal.returns-in_err-judge-clause-known
returns-in_err-judge-clause-known c =
    let p = err_from_is_err_and c.from_residual.result c.from_residual.ensures.1 in
    rw (p.1, p.2) (known_read c.args.schema.now c.args.text.now c.in_err-judge.field-0.0
    (reads_fault c.args.schema.now c.args.text.now c.scan.new.found c.in_err-judge.field-0.0 (scanned_so c.args.schema.now c.args.text.now c.scan.new.found c.scan.result c.scan.ensures c.if-not-scan.false) c.if-not-found.false (c.in_err-judge.ensures c.args.schema.now)))

pub build-requires : goal.build-requires
build-requires c = sources_fine c.args.schema.now c.args.text.now c.scan.new.found (scanned_so c.args.schema.now c.args.text.now c.scan.new.found c.scan.result c.scan.ensures c.if-not-scan.false) (c.in_ok-judge.ensures c.args.schema.now)

pub returns-in_err-build-clause-exact : goal.returns-in_err-build-clause-exact
returns-in_err-build-clause-exact c =
    let p = err_from_is_err_and c.from_residual-in_err-build.result c.from_residual-in_err-build.ensures.1 in
    rw (p.1, p.2)
    (read_short c.args.schema.now c.args.text.now c.scan.new.found c.in_err-build.ensures.few (scanned_so c.args.schema.now c.args.text.now c.scan.new.found c.scan.result c.scan.ensures c.if-not-scan.false) c.if-not-found.false (c.in_ok-judge.ensures c.args.schema.now))

pub returns-clause-exact : goal.returns-clause-exact
returns-clause-exact c =
    (read_ok c.args.schema.now c.args.text.now c.scan.new.found c.in_ok-build.field-0 c.in_ok-build.ensures.few (scanned_so c.args.schema.now c.args.text.now c.scan.new.found c.scan.result c.scan.ensures c.if-not-scan.false) c.if-not-found.false (c.in_ok-judge.ensures c.args.schema.now) c.in_ok-build.ensures.built).0

pub returns-clause-lies : goal.returns-clause-lies
returns-clause-lies c =
    (read_ok c.args.schema.now c.args.text.now c.scan.new.found c.in_ok-build.field-0 c.in_ok-build.ensures.few (scanned_so c.args.schema.now c.args.text.now c.scan.new.found c.scan.result c.scan.ensures c.if-not-scan.false) c.if-not-found.false (c.in_ok-judge.ensures c.args.schema.now) c.in_ok-build.ensures.built).1
