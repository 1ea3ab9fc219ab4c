-- The reply tells what the read found, or why there is none.
use Rattle.std.proofs.Common.{◌≡◌, IfErr, ℕ, List, refl, sym, ap, ◌∙◌, subst}
use Rattle.std.proofs.lemmas.Result.{err_from_is_err_and}
use Rattle.be_change.specs.History.{Entry, live}
use Rattle.be_change.specs.Requests as asked
use Rattle.be_board.specs.State.{BoardState}
use Rattle.be_protocol.specs.declared.short.Short.{Short}
use Rattle.be_protocol.specs.Short.{plain_reply}
use Rattle.be_session.specs.Steps.{Replies}
use Rattle.be_session.proofs.Looking.{found, refused_read, wanted_memory}
use Rattle.std.proofs.Common.{filter}
use Rattle.be_model.specs.ByIds.{rows_of, is_of}
use Rattle.be_model.specs.Rows.{rows_in}
use Rattle.be_change.specs.Walk.{names_of_session}
use Rattle.be_protocol.specs.Replies.{reply_text}
use Rattle.be_protocol.specs.Texts.{names_in}
use Rattle.be_protocol.proofs.ReplyTexts.{names_in-rows_of}
use Rattle.be_session.proofs.room.Room.listed.Goals as goal

pub returns-in_err-n-clause-refused : goal.returns-in_err-n-clause-refused
returns-in_err-n-clause-refused g c =
    let b : BoardState = g.B.Board.state c.args.board.now in
    let b' : BoardState = g.B.Board.state c.mine.new.self in
    let p = err_from_is_err_and c.from_residual.result c.from_residual.ensures.1 in
    subst (λ r. IfErr r (λ (short : Short). Replies b.schema (asked.listing, plain_reply short) b b')) (sym p.1)
    (subst (λ (short : Short). Replies b.schema (asked.listing, plain_reply short) b b') (sym p.2) (refused_read b.schema asked.listing b b' c.in_err-n.field-0.0 refl c.mine.ensures.looks.goes c.mine.ensures.looks.letters c.mine.ensures.looks.splits c.in_err-n.ensures.refused))

pub returns-in_err-write_names-clause-refused : goal.returns-in_err-write_names-clause-refused
returns-in_err-write_names-clause-refused g c =
    let b : BoardState = g.B.Board.state c.args.board.now in
    let b' : BoardState = g.B.Board.state c.mine.new.self in
    let p = err_from_is_err_and c.from_residual-in_err-write_names.result c.from_residual-in_err-write_names.ensures.1 in
    subst (λ r. IfErr r (λ (short : Short). Replies b.schema (asked.listing, plain_reply short) b b')) (sym p.1)
    (subst (λ (short : Short). Replies b.schema (asked.listing, plain_reply short) b b') (sym p.2) (wanted_memory b.schema asked.listing b b' refl c.mine.ensures.looks c.in_ok-n.ensures.read.shuts))

pub returns-clause-told : goal.returns-clause-told
returns-clause-told g c =
    let b : BoardState = g.B.Board.state c.args.board.now in
    let b' : BoardState = g.B.Board.state c.mine.new.self in
    let k : ℕ = b.word.session in
    let names = names_in-rows_of (filter (is_of k) (live b'.word.known)) in
    let text : rows_in c.rows.result.now ≡ rows_of (filter (is_of k) (live b'.word.known)) = c.rows.ensures ∙ c.in_ok-n.ensures.found in (
      asked.listed c.in_ok-n.n (names_of_session k b'.word.known),
      found b.schema (asked.listing, asked.listed c.in_ok-n.n (names_of_session k b'.word.known)) c.in_ok-n.n b b' c.mine.ensures.looks c.in_ok-n.ensures.read refl refl refl refl tt refl refl refl refl refl (λ h. refl) (λ h box. (tt, refl))
          (λ h w at front. (at, ap (λ (l : List Entry). names_of_session k l) (sym front), refl)),
      c.in_ok-write_names.ensures b.schema ∙ ap (λ ns. reply_text b.schema (asked.listed c.in_ok-n.n ns)) (ap names_in text ∙ names),
      refl,
      refl,
    )
