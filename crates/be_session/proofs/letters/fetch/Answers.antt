-- The letters that were taken and written are the reply.
use Rattle.std.proofs.Common.{◌≡◌, inl, inr, ◌<◌, Option, None, option_map, Err, refl, sym, ◌∙◌, subst, arith}
use Rattle.std.specs.Option.{IfNone}
use Rattle.be_base.specs.Counts.{HasRisen}
use Rattle.std.proofs.lemmas.Result.{err_from_is_err_and}
use Rattle.be_io.specs.Outside.{sink_state}
use Rattle.be_io.specs.declared.faults.SinkFault.{SinkFault}
use Rattle.be_model.specs.Letters.{PlainLetter, plain_letter}
use Rattle.be_model.specs.declared.letters.Letter.{Letter}
use Rattle.be_change.specs.Requests as asked
use Rattle.be_board.specs.Letters.{Fetches}
use Rattle.be_board.specs.State.{BoardState}
use Rattle.be_protocol.specs.Conduct.{GivesReply}
use Rattle.be_session.specs.Steps.{session_conduct}
use Rattle.be_session.proofs.FetchingOn.{fetch_first, fetch_next, fetch_none}
use Rattle.be_session.proofs.FetchingEnds.{fetch_cut, fetch_ended, none_given, none_counted}
use Rattle.be_session.proofs.letters.fetch.Goals as goal

pub letters-init : goal.letters-init
letters-init g c = record {
  so = fetch_first c.args.schema.now c.args.max (g.B.Board.state c.args.board.now) (sink_state g.K.Sink c.args.out.now);
  schema = c.requires.schema;
  beside = refl;
}

pub returns-then-count-max-clause-answered : goal.returns-then-count-max-clause-answered
returns-then-count-max-clause-answered g c =
    fetch_ended c.args.schema.now c.args.max c.letters.count (g.B.Board.state c.args.board.now) (g.B.Board.state c.letters.board)
    (sink_state g.K.Sink c.args.out.now) (sink_state g.K.Sink c.letters.out) (sink_state g.K.Sink c.say_end.new.out) c.say_end.result
    c.letters.invariant.so (inl c.if-count-max.true) c.say_end.ensures.wrote

pub returns-in_default-clause-answered : goal.returns-in_default-clause-answered
returns-in_default-clause-answered g c =
    let b : BoardState = g.B.Board.state c.args.board.now in
    let now : BoardState = g.B.Board.state c.letters.board in
    let next : BoardState = g.B.Board.state c.fetch.new.self in
    let gone : c.fetch.result ≡ None = none_given c.fetch.result c.in_default.not-Some in
    let q : Fetches now next None = subst (λ (l : Option Letter). Fetches now next (option_map plain_letter l)) gone c.fetch.ensures.fetches in
    fetch_ended c.args.schema.now c.args.max c.letters.count b next
    (sink_state g.K.Sink c.args.out.now) (sink_state g.K.Sink c.letters.out) (sink_state g.K.Sink c.say_end-in_default.new.out) c.say_end-in_default.result
    (fetch_none c.args.schema.now c.args.max c.letters.count b now next (sink_state g.K.Sink c.args.out.now) (sink_state g.K.Sink c.letters.out) c.letters.invariant.so q)
    (inr (none_counted c.args.schema.now c.args.max c.letters.count b now next (sink_state g.K.Sink c.args.out.now) (sink_state g.K.Sink c.letters.out) c.letters.invariant.so q (subst (λ (l : Option Letter). IfNone l (HasRisen now.counts.empties next.counts.empties)) gone c.fetch.ensures.empty)))
    c.say_end-in_default.ensures.wrote

pub returns-in_err-send_note-clause-answered : goal.returns-in_err-send_note-clause-answered
returns-in_err-send_note-clause-answered g c =
    let b : BoardState = g.B.Board.state c.args.board.now in
    let now : BoardState = g.B.Board.state c.letters.board in
    let next : BoardState = g.B.Board.state c.fetch.new.self in
    let l : PlainLetter = plain_letter c.in-Some.letter in
    let fault : SinkFault = c.in_err-send_note.field-0.0 in
    let p = err_from_is_err_and c.from_residual.result c.from_residual.ensures.1 in
    let more : c.letters.count < c.args.max = omega (arith, c.letters.invariant.so.few, c.if-count-max.false) in
    subst (λ r. GivesReply (session_conduct c.args.schema.now) (asked.fetching c.args.max) b next (sink_state g.K.Sink c.args.out.now) (sink_state g.K.Sink c.send_note.new.out) None r) (sym p.1)
    (subst (λ (f : SinkFault). GivesReply (session_conduct c.args.schema.now) (asked.fetching c.args.max) b next (sink_state g.K.Sink c.args.out.now) (sink_state g.K.Sink c.send_note.new.out) None (Err f)) (sym p.2)
    (fetch_cut c.args.schema.now now.schema c.args.max c.letters.count b now next l (sink_state g.K.Sink c.args.out.now) (sink_state g.K.Sink c.letters.out) (sink_state g.K.Sink c.send_note.new.out) fault
    c.letters.invariant.so more c.in-Some.ensures.fetches c.in-Some.ensures.letter c.fetch.ensures.holds c.in_err-send_note.ensures.wrote))

pub letters-preserved : goal.letters-preserved
letters-preserved g c =
    let b : BoardState = g.B.Board.state c.args.board.now in
    let now : BoardState = g.B.Board.state c.letters.board in
    let next : BoardState = g.B.Board.state c.fetch.new.self in
    let l : PlainLetter = plain_letter c.in-Some.letter in
    let more : c.letters.count < c.args.max = omega (arith, c.letters.invariant.so.few, c.if-count-max.false) in
    record {
      so = fetch_next c.args.schema.now now.schema c.args.max c.letters.count b now next l (sink_state g.K.Sink c.args.out.now) (sink_state g.K.Sink c.letters.out) (sink_state g.K.Sink c.send_note.new.out)
          c.letters.invariant.so more c.in-Some.ensures.fetches c.in-Some.ensures.letter c.in_ok-send_note.ensures.wrote;
      schema = c.fetch.ensures.fetches.goes.schema ∙ c.letters.invariant.schema;
      beside = c.send_note.ensures.beside ∙ c.letters.invariant.beside;
    }
