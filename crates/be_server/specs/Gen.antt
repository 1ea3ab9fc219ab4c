-- The promise of `gen`: how it may end, and what was then written.
use Rattle.std.specs.Prelude.{◌≡◌, ℕ, ◌⊎◌, Result, Ok, Err}
use Rattle.be_base.specs.Text.{Text}
use Rattle.be_io.specs.Sink.{SinkState}
use Rattle.be_io.specs.declared.faults.SinkFault.{SinkFault}
use Rattle.be_io.specs.declared.faults.SinkFault.TheVariants as sink
use Rattle.be_workload.specs.Asked.{schema, script_requests}
use Rattle.be_server.specs.declared.status.Status.{Status}
use Rattle.be_server.specs.declared.status.Status.TheVariants.{Done, NoMemory, WriteFault}
use Rattle.be_server.specs.declared.sums.Sums.{Sums}
use Rattle.be_server.specs.Outside.{Passage}
use Rattle.be_server.specs.Output.{WroteOut}
use Rattle.be_server.specs.Sums.{AreScriptSums, sums_line}

-- the line tells sums over the script of the workload
abbrev pub IsSumsLine : (number subs events : ℕ) → Text → Type 0
IsSumsLine number subs events line =
    (sums : Sums) × AreScriptSums schema (script_requests number subs events) events sums × (line ≡ sums_line subs events sums)

-- such a line was written so: whole, or a beginning of it, or whole and not all handed on
abbrev pub WroteSums : (number subs events : ℕ) → SinkState → SinkState → Result (Unit {0}) SinkFault → Type 0
WroteSums number subs events before after result =
    (line : Text) × IsSumsLine number subs events line × WroteOut before after line result

-- the status, once the line was written so
abbrev pub status_written : Result (Unit {0}) SinkFault → Status
status_written (Ok _) = Done
status_written (Err sink.Failed) = WriteFault
status_written (Err sink.NoMemory) = NoMemory

module _ {L : Type 0} (p : Passage L) (number subs events : ℕ) where
  abbrev pub GenWrites : Result (Unit {0}) SinkFault → Type 0
  GenWrites result = WroteSums number subs events p.before.link.sink p.after.link.sink result

  -- how it may end
  abbrev pub GenEnds : Status → Type 0
  GenEnds Done = GenWrites (Ok tt)
  GenEnds WriteFault = GenWrites (Err sink.Failed)
  -- before anything was written, or in the output
  GenEnds NoMemory = p.OutKept ⊎ GenWrites (Err sink.NoMemory)
  GenEnds _ = ⊥
