-- To which mailbox a letter goes, and that what the seat put stays delivered.
use Rattle.std.proofs.Common.{◌-◌, ◌<◌, length, sym, ap, ◌∙◌, subst, arith}
use Rattle.std.proofs.Math.Nat.{mod-lt}
use Rattle.be_model.specs.Letters.{plain_letter}
use Rattle.be_board.specs.Word.{IsDelivered}
use Rattle.be_desk.proofs.Offered.{seat_passing, put_delivered}
use Rattle.be_desk.proofs.seat.Seat.offer.Goals as goal

pub nonzero_rem-to : goal.nonzero_rem-to
nonzero_rem-to g c =
    let boxes = ap (λ l. length l) (c.self.invariant.1.kept.boxes_are ∙ sym c.requires.mail) in
    omega (arith, boxes, c.seat.ensures.form.own, c.seats.ensures.seats, c.seats.ensures.boxes)

pub overflow_cast-to-2 : goal.overflow_cast-to-2
overflow_cast-to-2 g c =
    let boxes = ap (λ l. length l) (c.self.invariant.1.kept.boxes_are ∙ sym c.requires.mail) in
    let some : 0 < c.seats.result = omega (arith, boxes, c.seat.ensures.form.own, c.seats.ensures.seats, c.seats.ensures.boxes) in
    omega (arith, mod-lt (c.args.letter.session.0 - 1) some, c.seats.type_inv)

pub invariant_of-self : goal.invariant_of-self
invariant_of-self g c = (c.self.invariant.0, seat_passing _ _ _ _ _ c.put.ensures.same (put_delivered _ c.self.inside.passes c.put.new.pass _ _ c.put.result c.put.ensures.put c.put.ensures.counted c.self.invariant.1.kept.delivered (subst (λ s. IsDelivered s.glass.known (plain_letter c.args.letter)) (sym c.self.view_is) c.requires.delivered)) c.self.invariant.1, c.self.invariant.2)
