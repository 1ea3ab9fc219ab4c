-- The reply tells what the read found, or why there is none.
use Rattle.std.proofs.Common.{◌≡◌, true, IfErr, refl, sym, ap, ◌∙◌, subst}
use Rattle.std.proofs.lemmas.Result.{err_from_is_err_and}
use Rattle.be_change.specs.Requests as asked
use Rattle.be_board.specs.State.{BoardState}
use Rattle.be_protocol.specs.declared.short.Short.{Short}
use Rattle.be_protocol.specs.Short.{plain_reply}
use Rattle.be_session.specs.Steps.{Replies}
use Rattle.be_session.proofs.Looking.{found, refused_read, wanted_memory}
use Rattle.std.specs.Prelude.{All}
use Rattle.be_model.specs.Lies.{row_lies}
use Rattle.be_model.specs.Rows.{rows_in}
use Rattle.be_model.specs.Schemas.{Attributes}
use Rattle.be_model.specs.declared.changes.Row.{Row}
use Rattle.be_change.specs.Walk.{live_rows}
use Rattle.be_protocol.specs.Replies.{reply_text}
use Rattle.be_session.proofs.LiveLies.{live_lies}
use Rattle.be_session.proofs.room.Room.dumped.Goals as goal

pub returns-in_err-n-clause-refused : goal.returns-in_err-n-clause-refused
returns-in_err-n-clause-refused g c =
    let b : BoardState = g.B.Board.state c.args.board.now in
    let b' : BoardState = g.B.Board.state c.all.new.self in
    let p = err_from_is_err_and c.from_residual.result c.from_residual.ensures.1 in
    subst (λ r. IfErr r (λ (short : Short). Replies b.schema (asked.dumping, plain_reply short) b b')) (sym p.1)
    (subst (λ (short : Short). Replies b.schema (asked.dumping, plain_reply short) b b') (sym p.2) (refused_read b.schema asked.dumping b b' c.in_err-n.field-0.0 refl c.all.ensures.looks.goes c.all.ensures.looks.letters c.all.ensures.looks.splits c.in_err-n.ensures.refused))

pub returns-in_err-write_rows-clause-refused : goal.returns-in_err-write_rows-clause-refused
returns-in_err-write_rows-clause-refused g c =
    let b : BoardState = g.B.Board.state c.args.board.now in
    let b' : BoardState = g.B.Board.state c.all.new.self in
    let p = err_from_is_err_and c.from_residual-in_err-write_rows.result c.from_residual-in_err-write_rows.ensures.1 in
    subst (λ r. IfErr r (λ (short : Short). Replies b.schema (asked.dumping, plain_reply short) b b')) (sym p.1)
    (subst (λ (short : Short). Replies b.schema (asked.dumping, plain_reply short) b b') (sym p.2) (wanted_memory b.schema asked.dumping b b' refl c.all.ensures.looks c.in_ok-n.ensures.read.shuts))

pub write_rows-requires-clause-lies : goal.write_rows-requires-clause-lies
write_rows-requires-clause-lies g c =
    let b' : BoardState = g.B.Board.state c.all.new.self in
    subst (All (λ (row : Row). row_lies c.args.schema.now row ≡ true)) (sym (c.rows.ensures ∙ c.in_ok-n.ensures.found))
    (subst (λ (s : Attributes). All (λ (row : Row). row_lies s row ≡ true) (live_rows b'.word.known)) (c.all.ensures.looks.goes.schema ∙ c.requires.schema) (live_lies b'.schema b'.word.known c.all.ensures.lies))

pub returns-clause-told : goal.returns-clause-told
returns-clause-told g c =
    let b : BoardState = g.B.Board.state c.args.board.now in
    let b' : BoardState = g.B.Board.state c.all.new.self in
    let text : rows_in c.rows.result.now ≡ live_rows b'.word.known = c.rows.ensures ∙ c.in_ok-n.ensures.found in (
      asked.dumped c.in_ok-n.n (live_rows b'.word.known),
      found b.schema (asked.dumping, asked.dumped c.in_ok-n.n (live_rows b'.word.known)) c.in_ok-n.n b b' c.all.ensures.looks c.in_ok-n.ensures.read refl refl refl refl tt refl refl refl refl refl (λ h. refl) (λ h box. (tt, refl))
          (λ h w at front. (at, ap live_rows (sym front), refl)),
      c.in_ok-write_rows.ensures ∙ (ap (λ rows. reply_text c.args.schema.now (asked.dumped c.in_ok-n.n rows)) text ∙ ap (λ (s : Attributes). reply_text s (asked.dumped c.in_ok-n.n (live_rows b'.word.known))) (sym c.requires.schema)),
      refl,
      refl,
    )
