-- What a command's output holds once its text was written and handed on.
use Rattle.std.specs.Prelude.{◌≡◌, ℕ, ◌<◌, ◌⊎◌, List, Result, Ok, Err}
use Rattle.be_io.specs.Counts.{HasRisen}
use Rattle.be_io.specs.Sink.{SinkState, TookPart}
use Rattle.be_io.specs.Told.{HoldsMore}
use Rattle.be_io.specs.declared.faults.SinkFault.{SinkFault}
use Rattle.be_io.specs.declared.faults.SinkFault.TheVariants.{Failed, NoMemory}

-- a part of the text was taken, and not all, or all of it, and some bytes weren't handed on
abbrev pub TookSome : SinkState → SinkState → List ℕ → Type 0
TookSome before after text = TookPart before after text ⊎ (HoldsMore before.held after.held text × (0 < after.kept_back))

-- the text was taken and handed on, or the sink's refusal is told. Each refusal raised its own count, and nothing else changed a count
abbrev pub WroteOut : SinkState → SinkState → List ℕ → Result (Unit {0}) SinkFault → Type 0
WroteOut before after text (Ok _) =
    HoldsMore before.held after.held text × (after.faults ≡ before.faults) × (after.refusals ≡ before.refusals) × (after.kept_back ≡ 0)
WroteOut before after text (Err Failed) =
    TookSome before after text × HasRisen before.faults after.faults × (after.refusals ≡ before.refusals)
WroteOut before after text (Err NoMemory) =
    TookSome before after text × HasRisen before.refusals after.refusals × (after.faults ≡ before.faults)
