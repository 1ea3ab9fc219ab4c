-- What is left in a sink where replies were handed on before a wait.
use Rattle.std.specs.Prelude.{◌≡◌, Result, Ok, Err}
use Rattle.be_io.specs.Sink.{SinkState}
use Rattle.be_io.specs.declared.faults.SinkFault.{SinkFault}
use Rattle.be_protocol.specs.Conduct.{Refused}
use Rattle.be_protocol.specs.Conversation.{RefusedOnce}

-- nothing was written; the sink's counts are as they were, or it refused to hand on, and counted that
abbrev pub HandsOn : SinkState → SinkState → Result (Unit {0}) SinkFault → Type 0
HandsOn before after (Ok _) = (after.held ≡ before.held) × (after.faults ≡ before.faults) × (after.refusals ≡ before.refusals)
HandsOn before after (Err fault) = (after.held ≡ before.held) × Refused fault before after × RefusedOnce before after
