-- The transcripts so far were written, and with those that are left they are all.
use Rattle.std.proofs.Common.{◌≡◌, ℕ, ◌+◌, ◌++◌, List, drop, map, Ok}
use Rattle.be_io.specs.Outside.{sink_state}
use Rattle.be_io.specs.Sink.{Wrote}
use Rattle.be_server.specs.Drill.{headed}
use Rattle.be_server.proofs.output.write_all_of.Given as goal

abbrev pub invariant-loop-transcript : goal.invariant-loop-transcript
invariant-loop-transcript g l =
    (l.number ≡ l.transcript-index)
    × ((text : List ℕ) × Wrote (sink_state g.K.Sink l.initial.out) (sink_state g.K.Sink l.out) text (Ok tt)
    × (text ++ headed (l.number + 1) (map (λ t. t.items) (drop l.transcript-index l.transcripts)) ≡ headed 1 (map (λ t. t.items) l.transcripts)))
