use Rattle.std.proofs.Common.{◌≡◌, ◌<◌, ℕ, length}
use Rattle.std.specs.Slots.{slots_items}
use Rattle.be_heat.specs.Seats.{at_word}
use Rattle.be_heat.proofs.heat.Heat.close.Given as goal

abbrev pub invariant-loop-word : goal.invariant-loop-word
invariant-loop-word l =
    (length l.totals.items ≡ l.words)
    × ((k : ℕ) → k < l.word → at_word l.totals.items k ≡ at_word (slots_items l.closed.words) k)
