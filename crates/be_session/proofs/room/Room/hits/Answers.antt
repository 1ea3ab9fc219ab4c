-- The reply tells what the read found, or why there is none.
use Rattle.std.proofs.Common.{◌≡◌, IfErr, List, length, refl, sym, ap, ◌∙◌, subst}
use Rattle.std.proofs.lemmas.List.{length-map}
use Rattle.std.proofs.lemmas.Result.{err_from_is_err_and}
use Rattle.be_change.specs.History.{Entry, hits}
use Rattle.be_change.specs.Requests as asked
use Rattle.be_board.specs.State.{BoardState}
use Rattle.be_protocol.specs.declared.short.Short.{Short}
use Rattle.be_protocol.specs.Short.{plain_reply}
use Rattle.be_session.specs.Steps.{Replies}
use Rattle.be_session.proofs.Looking.{found, refused_read, wanted_memory}
use Rattle.be_change.specs.History.{hit_rows}
use Rattle.be_session.proofs.room.Room.hits.Goals as goal

pub returns-in_err-n-clause-refused : goal.returns-in_err-n-clause-refused
returns-in_err-n-clause-refused g c =
    let b : BoardState = g.B.Board.state c.args.board.now in
    let b' : BoardState = g.B.Board.state c.hits.new.self in
    let p = err_from_is_err_and c.from_residual.result c.from_residual.ensures.1 in
    subst (λ r. IfErr r (λ (short : Short). Replies b.schema (asked.publish c.args.event.now, plain_reply short) b b')) (sym p.1)
    (subst (λ (short : Short). Replies b.schema (asked.publish c.args.event.now, plain_reply short) b b') (sym p.2) (refused_read b.schema (asked.publish c.args.event.now) b b' c.in_err-n.field-0.0 refl c.hits.ensures.looks.goes c.hits.ensures.looks.letters c.hits.ensures.looks.splits c.in_err-n.ensures.refused))

pub returns-in_err-write_hits-clause-refused : goal.returns-in_err-write_hits-clause-refused
returns-in_err-write_hits-clause-refused g c =
    let b : BoardState = g.B.Board.state c.args.board.now in
    let b' : BoardState = g.B.Board.state c.hits.new.self in
    let p = err_from_is_err_and c.from_residual-in_err-write_hits.result c.from_residual-in_err-write_hits.ensures.1 in
    subst (λ r. IfErr r (λ (short : Short). Replies b.schema (asked.publish c.args.event.now, plain_reply short) b b')) (sym p.1)
    (subst (λ (short : Short). Replies b.schema (asked.publish c.args.event.now, plain_reply short) b b') (sym p.2) (wanted_memory b.schema (asked.publish c.args.event.now) b b' refl c.hits.ensures.looks c.in_ok-n.ensures.read.shuts))

pub returns-clause-told : goal.returns-clause-told
returns-clause-told g c =
    let b : BoardState = g.B.Board.state c.args.board.now in
    let b' : BoardState = g.B.Board.state c.hits.new.self in
    let rows = hit_rows b'.word.known c.args.event.now in
    let count : length (hits b'.word.known c.args.event.now) ≡ c.count.result =
    length-map rows (λ r. r.1.name) ∙ sym (length-map rows (λ r. r.0)) ∙ ap length (sym c.in_ok-n.ensures.ids) ∙ sym c.count.ensures in
    let text = sym (c.as_slice.ensures.value ∙ c.in_ok-n.ensures.names) in (
      asked.hit c.in_ok-n.n (hits b'.word.known c.args.event.now),
      found b.schema (asked.publish c.args.event.now, asked.hit c.in_ok-n.n (hits b'.word.known c.args.event.now)) c.in_ok-n.n b b' c.hits.ensures.looks c.in_ok-n.ensures.read refl refl refl refl tt refl refl refl refl refl (λ h. refl) (λ h box. (tt, refl))
          (λ h w at front. (at, ap (λ (l : List Entry). hits l c.args.event.now) (sym front), refl)),
      c.in_ok-write_hits.ensures b.schema (hits b'.word.known c.args.event.now) count text,
      refl,
      refl,
    )
