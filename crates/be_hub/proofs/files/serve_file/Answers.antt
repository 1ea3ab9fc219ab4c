use Rattle.std.proofs.Common.{refl, sym, ap, ◌∙◌, ◌≡◌, Some}
use Rattle.be_board.specs.State.{BoardState}
use Rattle.be_desk.specs.Boards.{board_of}
use Rattle.be_hub.proofs.FilesServed.{file_served, board_same, told, link_is, few_taken}
use Rattle.be_hub.proofs.files.serve_file.Goals as goal

pub returns : goal.returns
returns g c =
    let e = c.serve_link-end.ensures in
    let board : BoardState = board_of 0 g.J.Naming.schema c.make-board.result.calls c.make-board.result.seat in
    let was : board ≡ board_of 0 g.J.Naming.schema 0 c.args.job.seat = board_same 0 g.J.Naming.schema c.make-board.result.calls 0 c.make-board.result.seat c.args.job.seat c.make-board.ensures.calls c.make-board.ensures.seat in
    file_served _ g.J.Naming.schema c.deref.result.now c.args.job.task.items c.args.job.seat c.take-seat.result.0 c.take.result.items c.serve_link-end.result
    (told c.make-2.result c.make-3.result) (told c.serve_link-end.new.link.source c.serve_link-end.new.link.sink) board (board_of 0 g.J.Naming.schema c.serve_link-end.new.board.calls c.serve_link-end.new.board.seat)
    (c.deref.ensures ∙ c.hub.invariant.2) (link_is c.make-2.result c.make-3.result c.args.job.task.items c.make-2.ensures c.make-3.ensures.0 c.make-3.ensures.1) was
    (sym (board_same 0 g.J.Naming.schema 0 c.serve_link-end.new.board.calls c.take-seat.result.0 c.serve_link-end.new.board.seat (sym (c.take-seat.ensures.still refl) ∙ c.take-seat.ensures.calls) c.take-seat.ensures.seat))
    (λ u. (c.take-seat.ensures.seat ∙ (ap (λ b. b.seat) u.1 ∙ c.make-board.ensures.seat), c.take.ensures ∙ (ap (λ l. l.sink.held) u.0 ∙ c.make-3.ensures.0)))
    (ap (λ l. Some l) (sym c.take.ensures))
    (record { reads = refl; writes = refl; taken = few_taken c.drop.inside.inner c.serve_link-end.new.link.source c.drop.invariant c.drop.view_is })
    e.ends e.board
