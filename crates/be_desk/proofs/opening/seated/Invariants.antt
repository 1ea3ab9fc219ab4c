-- The seats so far are those of the passes so far, and a new reader is left for each that is to come.
use Rattle.std.proofs.Common.{◌≡◌, ◌++◌, length, map}
use Rattle.std.specs.List.{All}
use Rattle.be_published.specs.States.{new_glass}
use Rattle.be_desk.specs.Seats.{seat_for}
use Rattle.be_desk.proofs.opening.seated.Given as goal

abbrev pub invariant-loop-pass : goal.invariant-loop-pass
invariant-loop-pass g l =
    (goal.iterator-loop-pass g).can_next l.pass-iterator
    × (goal.iterator-loop-pass g).is_finite l.pass-iterator
    × (l.fn.passes.items ≡ l.yielded ++ l.pass-iterator.rest.items)
    × All (λ glass. glass ≡ new_glass l.fn.press.list) l.glasses.items
    × (length l.glasses.items ≡ length l.pass-iterator.rest.items)
    × (l.seats.items ≡ map (seat_for l.fn.press.list) l.yielded)
