-- How `gen` ends, once its line was written.
use Rattle.std.proofs.Common.{◌≡◌, inr, ℕ, Result, Ok, Err, sym, subst}
use Rattle.be_base.specs.Text.{Text}
use Rattle.be_io.specs.declared.faults.SinkFault.{SinkFault}
use Rattle.be_io.specs.declared.faults.SinkFault.TheVariants as sink
use Rattle.be_server.specs.Output.{WroteOut}
use Rattle.be_server.specs.declared.status.Status.{Status}
use Rattle.be_server.specs.Gen.{IsSumsLine, GenEnds, status_written}
use Rattle.be_server.specs.Outside.{Passage}

module _ {L : Type 0} (p : Passage L) (number subs events : ℕ) where
  gen_written : (line : Text) (written : Result (Unit {0}) SinkFault) → IsSumsLine number subs events line → WroteOut p.before.link.sink p.after.link.sink line written → GenEnds p number subs events (status_written written)
  gen_written line (Ok x) is w = (line, is, w)
  gen_written line (Err sink.Failed) is w = (line, is, w)
  gen_written line (Err sink.NoMemory) is w = inr (line, is, w)

  pub gen_ended : (line : Text) (written : Result (Unit {0}) SinkFault) (status : Status) → IsSumsLine number subs events line → WroteOut p.before.link.sink p.after.link.sink line written → status ≡ status_written written
      → GenEnds p number subs events status
  gen_ended line written status is w same = subst (GenEnds p number subs events) (sym same) (gen_written line written is w)
