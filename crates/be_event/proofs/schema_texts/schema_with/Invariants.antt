use Rattle.std.proofs.Common.{length}
use Rattle.be_event.proofs.SchemaForms.{Put}
use Rattle.be_event.proofs.schema_texts.schema_with.Given as goal

abbrev pub invariant-loop-rest : goal.invariant-loop-rest
invariant-loop-rest l = Put l.text l.rest l.schema

abbrev pub decreases-loop-rest : goal.decreases-loop-rest
decreases-loop-rest l = length l.rest
