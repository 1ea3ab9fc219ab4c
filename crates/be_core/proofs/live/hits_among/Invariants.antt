use Rattle.std.proofs.Common.{◌≡◌, ◌++◌, drop}
use Rattle.std.specs.Prelude.{filter}
use Rattle.be_model.specs.Matching.{satisfies}
use Rattle.be_change.specs.History.{names_of}
use Rattle.be_core.specs.Memory.{live_in}
use Rattle.be_core.proofs.live.hits_among.Given as goal

abbrev pub invariant-loop-row : goal.invariant-loop-row
invariant-loop-row l = l.names ++ names_of (filter (λ r. satisfies l.event r.1.conj) (live_in (drop l.row-index l.rows))) ≡ names_of (filter (λ r. satisfies l.event r.1.conj) (live_in l.rows))
