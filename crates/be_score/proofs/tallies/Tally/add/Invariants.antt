use Rattle.std.proofs.Common.{◌≡◌, ℕ, ◌+◌, ◌<◌, take, if◌then◌else◌}
use Rattle.std.specs.Prelude.{slice_index_or}
use Rattle.std.specs.List.{list_any}
use Rattle.be_model.specs.Schemas.{numbered}
use Rattle.be_model.specs.Hulls.{is_on}
use Rattle.be_score.specs.Scores.{weight}
use Rattle.be_score.proofs.tallies.Tally.add.Given as goal

-- the predicates so far were counted, each attribute once
abbrev pub invariant-loop-place : goal.invariant-loop-place
invariant-loop-place l =
    ((a : ℕ) → a < 256 → slice_index_or l.self.gains a 0 ≡ slice_index_or l.initial.self.gains a 0 + (if list_any (is_on (numbered a)) (take l.place l.row.conj) then weight l.s (numbered a) l.row else 0))
    × ((a : ℕ) → a < 256 → slice_index_or l.self.counts a 0 ≡ slice_index_or l.initial.self.counts a 0 + (if list_any (is_on (numbered a)) (take l.place l.row.conj) then 1 else 0))
