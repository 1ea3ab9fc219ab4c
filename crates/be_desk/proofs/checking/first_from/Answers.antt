use Rattle.std.proofs.Common.{sym, subst, ◌+◌}
use Rattle.be_desk.specs.Closing.{IsNextPlace}
use Rattle.be_desk.proofs.Places.{IsFirstSo, first_more}
use Rattle.be_desk.proofs.checking.first_from.Goals as goal

pub loop-seat-preserved : goal.loop-seat-preserved
loop-seat-preserved g c =
    let next = subst (λ s. IsNextPlace c.args.place s.own c.next_from.result) c.seat-item.is c.next_from.ensures in
    subst (IsFirstSo c.args.place c.args.seats.now (c.loop-seat.seat-index + 1)) (sym c.least-first.ensures)
    (first_more c.args.place c.args.seats.now c.loop-seat.seat-index c.seat-item.result c.loop-seat.first c.next_from.result c.loop-seat-test.true c.loop-seat.invariant next)
