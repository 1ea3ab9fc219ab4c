-- The reply tells what the read found, or why there is none.
use Rattle.std.proofs.Common.{◌≡◌, ◌++◌, true, IfErr, List, refl, sym, ap, ◌∙◌, subst}
use Rattle.std.proofs.lemmas.Result.{err_from_is_err_and}
use Rattle.be_change.specs.History.{Entry}
use Rattle.be_change.specs.Requests as asked
use Rattle.be_board.specs.State.{BoardState}
use Rattle.be_protocol.specs.declared.short.Short.{Short}
use Rattle.be_protocol.specs.Short.{plain_reply}
use Rattle.be_session.specs.Steps.{Replies}
use Rattle.be_session.proofs.Looking.{found, refused_read, wanted_memory}
use Rattle.be_model.specs.Schemas.{Attributes}
use Rattle.be_change.specs.Entries.{entries_in}
use Rattle.be_change.specs.Sound.{all_lie}
use Rattle.be_change.specs.Walk.{tail_from}
use Rattle.be_protocol.specs.Replies.{reply_text}
use Rattle.be_session.proofs.LiveLies.{tail_lies}
use Rattle.be_session.proofs.room.Room.tail.Goals as goal

pub returns-in_err-n-clause-refused : goal.returns-in_err-n-clause-refused
returns-in_err-n-clause-refused g c =
    let b : BoardState = g.B.Board.state c.args.board.now in
    let b' : BoardState = g.B.Board.state c.tail.new.self in
    let p = err_from_is_err_and c.from_residual.result c.from_residual.ensures.1 in
    subst (λ r. IfErr r (λ (short : Short). Replies b.schema (asked.tailing c.args.place c.args.max, plain_reply short) b b')) (sym p.1)
    (subst (λ (short : Short). Replies b.schema (asked.tailing c.args.place c.args.max, plain_reply short) b b') (sym p.2) (refused_read b.schema (asked.tailing c.args.place c.args.max) b b' c.in_err-n.field-0.0 refl c.tail.ensures.looks.goes c.tail.ensures.looks.letters c.tail.ensures.looks.splits c.in_err-n.ensures.refused))

pub returns-in_err-write_changes-clause-refused : goal.returns-in_err-write_changes-clause-refused
returns-in_err-write_changes-clause-refused g c =
    let b : BoardState = g.B.Board.state c.args.board.now in
    let b' : BoardState = g.B.Board.state c.tail.new.self in
    let p = err_from_is_err_and c.from_residual-in_err-write_changes.result c.from_residual-in_err-write_changes.ensures.1 in
    subst (λ r. IfErr r (λ (short : Short). Replies b.schema (asked.tailing c.args.place c.args.max, plain_reply short) b b')) (sym p.1)
    (subst (λ (short : Short). Replies b.schema (asked.tailing c.args.place c.args.max, plain_reply short) b b') (sym p.2) (wanted_memory b.schema (asked.tailing c.args.place c.args.max) b b' refl c.tail.ensures.looks c.in_ok-n.ensures.read.shuts))

pub write_changes-requires-clause-lies : goal.write_changes-requires-clause-lies
write_changes-requires-clause-lies g c =
    let b' : BoardState = g.B.Board.state c.tail.new.self in
    subst (λ es. all_lie c.args.schema.now es ≡ true) (sym (ap entries_in c.as_slice.ensures.value ∙ (c.in_ok-n.ensures.tail ∙ ap (λ (l : List Entry). l ++ tail_from c.args.place c.args.max (g.B.Board.state c.tail.new.self).word.known) (ap entries_in c.clear-2.ensures.items))))
    (subst (λ (s : Attributes). all_lie s (tail_from c.args.place c.args.max b'.word.known) ≡ true) (c.tail.ensures.looks.goes.schema ∙ c.requires.schema) (tail_lies b'.schema c.args.place c.args.max b'.word.known c.tail.ensures.lies))

pub returns-clause-told : goal.returns-clause-told
returns-clause-told g c =
    let b : BoardState = g.B.Board.state c.args.board.now in
    let b' : BoardState = g.B.Board.state c.tail.new.self in
    let entries : List Entry = tail_from c.args.place c.args.max b'.word.known in (
      asked.tailed c.in_ok-n.n c.args.place entries,
      found b.schema (asked.tailing c.args.place c.args.max, asked.tailed c.in_ok-n.n c.args.place entries) c.in_ok-n.n b b' c.tail.ensures.looks c.in_ok-n.ensures.read refl refl refl refl tt refl refl refl refl refl (λ h. refl) (λ h box. (tt, refl))
          (λ h w at front. (at, refl, ap (tail_from c.args.place c.args.max) (sym front), refl)),
      c.in_ok-write_changes.ensures ∙ (ap (λ es. reply_text c.args.schema.now (asked.tailed c.in_ok-n.n c.args.place es)) (ap entries_in c.as_slice.ensures.value ∙ (c.in_ok-n.ensures.tail ∙ ap (λ (l : List Entry). l ++ tail_from c.args.place c.args.max (g.B.Board.state c.tail.new.self).word.known) (ap entries_in c.clear-2.ensures.items))) ∙ ap (λ (s : Attributes). reply_text s (asked.tailed c.in_ok-n.n c.args.place entries)) (sym c.requires.schema)),
      refl,
      refl,
    )
