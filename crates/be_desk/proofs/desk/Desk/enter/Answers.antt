use Rattle.std.proofs.Common.{sym, ap, subst, ◌∙◌, rules, ◌≡◌, ◌+◌, ◌<◌, ◌≤◌, ◌↔◌, Some, None, length, IfSome, MatchResult, OnErr, ℕ, ◌-◌, ◌*◌, ◌/◌, ◌%◌, Bool, true, false, nat_eq, nat_lt, List, [], ◌∷◌, ◌++◌, slice_index_or, slice_set, bit_and, bit_or, Fits, w8, w32, w64, Bor, MutBor}
use Rattle.std.specs.Option.{is_some}
use Rattle.be_base.specs.Lists.{BeginsWith}
use Rattle.be_change.specs.Sound.{Sound}
use Rattle.be_published.specs.Reads.{Meets}
use Rattle.be_desk.specs.Desks.{freed, HasHeld}
use Rattle.be_desk.specs.Numbers.{numbers}
use Rattle.be_desk.specs.Rifts.{numbers_of}
use Rattle.be_desk.specs.Seats.{SeatState, is_over}
use Rattle.be_desk.specs.Changes.{Continues}
use Rattle.be_desk.proofs.Seats.{seat_entered}
use Rattle.be_desk.proofs.desk.Desk.enter.Goals as goal

pub invariant_of-seat : goal.invariant_of-seat
invariant_of-seat g c =
    let i = c.seat.invariant in
    let d = c.self.invariant in
    (i.0, seat_entered g.J.BoxNames.boxes c.seat.inside.serial c.seat.inside.gone _ c.self.inside.seats _ d.3 d.2 (ap (λ n. c.seat.inside.session.0 + n) c.from.ensures) i.1, i.2)

pub returns-clause-serial : goal.returns-clause-serial
returns-clause-serial g c = sym (invariant_of-seat g c).1.serial_is

pub returns-clause-present : goal.returns-clause-present
returns-clause-present g c = sym (invariant_of-seat g c).1.gone_is
