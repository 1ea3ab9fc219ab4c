use Rattle.std.proofs.Common.{length}
use Rattle.be_event.specs.Declarations.{names_declared}
use Rattle.be_event.proofs.SchemaForms.{Scanned}
use Rattle.be_event.proofs.schema_texts.check.Given as goal

abbrev pub invariant-loop-rest : goal.invariant-loop-rest
invariant-loop-rest l = Scanned l.text l.rest l.number (names_declared l.names.items)

abbrev pub decreases-loop-rest : goal.decreases-loop-rest
decreases-loop-rest l = length l.rest
