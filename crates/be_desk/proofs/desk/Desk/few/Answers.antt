use Rattle.std.proofs.Common.{◌≡◌, ◌∙◌, ℕ, length, List, ap, arith}
use Rattle.be_change.specs.History.{Entry}
use Rattle.be_board.specs.Word.{own_of, top}
use Rattle.be_desk.specs.Changes.{serial_in}
use Rattle.be_desk.specs.Seats.{placed_at, list_in}
use Rattle.be_desk.proofs.Records.{serial_few}
use Rattle.be_desk.proofs.desk.Desk.few.Goals as goal

pub returns : goal.returns
returns g c = λ within.
    let made : List Entry = list_in c.seat.inside.made in
    let own : List (ℕ × Entry) = placed_at made c.seat.inside.places.items in
    let few = serial_few made c.seat.inside.places.items c.seat.inside.session.0 c.seat.invariant.0 in
    let long : length made ≡ top own = c.seat.invariant.0.last in
    let serial : length (own_of c.seat.inside.session.0 own) ≡ serial_in c.args.seat.now = ap (λ x. serial_in x) c.seat.view_is in
    let tops : top own ≡ top c.args.seat.now.own = ap (λ x. top x.own) c.seat.view_is in
    let listed : length c.self.inside.ledger ≡ length c.args.self.now.list = ap (λ h. length h) (c.self.invariant.0 ∙ ap (λ x. x.list) c.self.view_is) in
    omega (arith, few, long, serial, tops, within, listed, c.len.ensures.len, c.len.ensures.few)
