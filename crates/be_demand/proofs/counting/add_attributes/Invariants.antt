-- Each word has one more for each item so far that is at it.
use Rattle.std.proofs.Common.{◌≡◌, ℕ, ◌+◌, length, take}
use Rattle.be_heat.specs.Seats.{IsOf, at_word}
use Rattle.be_demand.proofs.Adding.{marks}
use Rattle.be_demand.proofs.counting.add_attributes.Given as goal

abbrev pub invariant-loop-item : goal.invariant-loop-item
invariant-loop-item l = record {
  of : IsOf l.heat l.seat;
  long : length l.seat.own ≡ l.heat.words;
  marked : (word : ℕ) → at_word l.seat.own word ≡ at_word l.fn.seat.own word + marks word (take l.item-index l.item-items);
}
