use Rattle.std.proofs.Common.{sym, ap, ◌∙◌}
use Rattle.be_desk.specs.Boards.{board_of}
use Rattle.be_hub.proofs.FilesServed.{board_same}
use Rattle.be_hub.proofs.SessionsServed.{session_served}
use Rattle.be_io.specs.Outside.{link_state}
use Rattle.be_hub.proofs.links.serve_session.Goals as goal

pub returns-clause-served : goal.returns-clause-served
returns-clause-served g c =
    let e = c.serve_link-end.ensures in
    let s = g.J.Naming.schema in
    let made = c.make-board.result in
    let left = c.serve_link-end.new.board in
    session_served _ s c.deref.result.now c.args.asked c.take-seat.result.1 c.args.seat c.take-seat.result.0
    (link_state g.L.Source g.L.Sink c.args.link) (link_state g.L.Source g.L.Sink c.serve_link-end.new.link)
    (board_of 1 s made.calls made.seat) (board_of 1 s left.calls left.seat) c.serve_link-end.result
    (c.deref.ensures ∙ c.hub.invariant.2)
    (board_same 1 s made.calls c.args.asked made.seat c.args.seat c.make-board.ensures.calls c.make-board.ensures.seat)
    (sym (board_same 1 s c.take-seat.result.1 left.calls c.take-seat.result.0 left.seat c.take-seat.ensures.calls c.take-seat.ensures.seat))
    (λ u. (ap (link_state g.L.Source g.L.Sink) u.0, c.take-seat.ensures.seat ∙ (ap (λ b. b.seat) u.1 ∙ c.make-board.ensures.seat), c.take-seat.ensures.calls ∙ (ap (λ b. b.calls) u.1 ∙ c.make-board.ensures.calls)))
    e.beside.whole e.ends e.board
