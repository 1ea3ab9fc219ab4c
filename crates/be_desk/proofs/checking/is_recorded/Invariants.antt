-- None of the seats so far has the place.
use Rattle.std.specs.Prelude.{◌≡◌, ◌≢◌}
use Rattle.std.specs.List.{All, AllWithin}
use Rattle.be_desk.proofs.checking.is_recorded.Given as goal

abbrev pub invariant-loop-seat : goal.invariant-loop-seat
invariant-loop-seat g l = AllWithin (λ s. s.passes.seat ≡ l.number → All (λ p. p.0 ≢ l.place) s.own) l.seats 0 l.seat-index
