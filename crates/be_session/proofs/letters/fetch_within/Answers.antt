-- A FETCH that waited is answered as one that didn't.
use Rattle.std.proofs.Common.{◌≡◌, None, Err, sym, subst}
use Rattle.std.proofs.lemmas.Result.{err_from_is_err_and}
use Rattle.be_io.specs.Outside.{sink_state}
use Rattle.be_io.specs.Sink.{SinkState}
use Rattle.be_io.specs.declared.faults.SinkFault.{SinkFault}
use Rattle.be_model.specs.Schemas.{Attributes}
use Rattle.be_change.specs.Requests as asked
use Rattle.be_board.specs.State.{BoardState}
use Rattle.be_protocol.specs.Conduct.{GivesReply}
use Rattle.be_session.specs.Steps.{session_conduct}
use Rattle.be_session.proofs.WaitingOn.{gives_behind, none_fetched}
use Rattle.be_session.proofs.letters.fetch_within.Goals as goal

pub returns-in_err-await_letter-clause-answered : goal.returns-in_err-await_letter-clause-answered
returns-in_err-await_letter-clause-answered g c =
    let s : Attributes = c.args.schema.now in
    let r = asked.fetching c.args.max in
    let b : BoardState = g.B.Board.state c.args.board.now in
    let b' : BoardState = g.B.Board.state c.await_letter.new.board in
    let before : SinkState = sink_state g.K.Sink c.args.out.now in
    let after : SinkState = sink_state g.K.Sink c.await_letter.new.out in
    let fault : SinkFault = c.in_err-await_letter.field-0.0 in
    let p = err_from_is_err_and c.from_residual.result c.from_residual.ensures.1 in
    subst (λ x. GivesReply (session_conduct s) r b b' before after None x) (sym p.1)
    (subst (λ (f : SinkFault). GivesReply (session_conduct s) r b b' before after None (Err f)) (sym p.2)
    (subst (λ (x : BoardState). GivesReply (session_conduct s) r b x before after None (Err fault)) (sym c.await_letter.ensures.same)
    (none_fetched s c.args.max b before after fault c.in_err-await_letter.ensures.untold c.in_err-await_letter.ensures.handed)))

pub returns-clause-answered : goal.returns-clause-answered
returns-clause-answered g c =
    let s : Attributes = c.args.schema.now in
    let r = asked.fetching c.args.max in
    let b : BoardState = g.B.Board.state c.args.board.now in
    let b' : BoardState = g.B.Board.state c.fetch.new.board in
    let before : SinkState = sink_state g.K.Sink c.args.out.now in
    let mid : SinkState = sink_state g.K.Sink c.await_letter.new.out in
    let after : SinkState = sink_state g.K.Sink c.fetch.new.out in
    gives_behind s r b b' before mid after None c.fetch.result c.in_ok-await_letter.ensures.handed
    (subst (λ (x : BoardState). GivesReply (session_conduct s) r x b' mid after None c.fetch.result) c.await_letter.ensures.same c.fetch.ensures.answered)
