-- A sink of bytes, as what it tells, and what a write of a whole text and a flush leave in it.
use Rattle.std.specs.Prelude.{◌≡◌, ℕ, ◌<◌, ◌≤◌, List, length, take, Option, None, Result, Ok, Err}
use Rattle.be_io.specs.Counts.{HasRisen}
use Rattle.be_io.specs.Told.{HoldsMore}
use Rattle.be_io.specs.declared.faults.SinkFault.{SinkFault}
use Rattle.be_io.specs.declared.faults.SinkFault.TheVariants.{Failed, NoMemory}

pub record SinkState : Type 0 where
  -- the bytes that it holds, where it tells them
  pub held : Option (List ℕ)
  -- how many of its calls failed
  pub faults : ℕ
  -- how many of its calls were refused for want of memory
  pub refusals : ℕ
  -- how many of the bytes that it took aren't handed on yet
  pub kept_back : ℕ

-- what stands beside a source that is no link
abbrev pub no_sink : SinkState
no_sink = record { held = None; faults = 0; refusals = 0; kept_back = 0 }

-- a part of the bytes was taken, and not all
abbrev pub TookPart : SinkState → SinkState → List ℕ → Type 0
TookPart before after bytes = (k : ℕ) × (k < length bytes) × HoldsMore before.held after.held (take k bytes)

-- all bytes were taken, or a part of them and the sink's refusal is handed on. Each refusal raised its own count, and
-- nothing else changed a count
abbrev pub Wrote : SinkState → SinkState → List ℕ → Result (Unit {0}) SinkFault → Type 0
Wrote before after bytes (Ok _) =
    HoldsMore before.held after.held bytes × (after.faults ≡ before.faults) × (after.refusals ≡ before.refusals)
Wrote before after bytes (Err Failed) =
    TookPart before after bytes × HasRisen before.faults after.faults × (after.refusals ≡ before.refusals)
Wrote before after bytes (Err NoMemory) =
    TookPart before after bytes × HasRisen before.refusals after.refusals × (after.faults ≡ before.faults)

-- some bytes are kept back still, and no more than before
abbrev pub KeepsSome : SinkState → SinkState → Type 0
KeepsSome before after = (0 < after.kept_back) × (after.kept_back ≤ before.kept_back)

-- nothing is kept back any more, or some bytes are and the sink's refusal is handed on. Each refusal raised its own
-- count, and nothing else changed
abbrev pub Flushed : SinkState → SinkState → Result (Unit {0}) SinkFault → Type 0
Flushed before after (Ok _) = after ≡ record before { kept_back = 0 }
Flushed before after (Err Failed) =
    (after ≡ record before { faults = after.faults; kept_back = after.kept_back })
    × HasRisen before.faults after.faults × KeepsSome before after
Flushed before after (Err NoMemory) =
    (after ≡ record before { refusals = after.refusals; kept_back = after.kept_back })
    × HasRisen before.refusals after.refusals × KeepsSome before after
