-- A TAIL that waited is answered as one that didn't.
use Rattle.std.proofs.Common.{◌≡◌, None, Err, refl, sym, subst}
use Rattle.be_io.specs.Outside.{sink_state}
use Rattle.be_io.specs.Sink.{SinkState}
use Rattle.be_model.specs.Schemas.{Attributes}
use Rattle.be_change.specs.Requests as asked
use Rattle.be_board.specs.State.{BoardState}
use Rattle.be_protocol.specs.Conduct.{GivesReply}
use Rattle.be_session.specs.Steps.{session_conduct}
use Rattle.be_session.proofs.Said.{says_built}
use Rattle.be_session.proofs.WaitingOn.{gives_behind, none_tailed}
use Rattle.be_session.proofs.serve.tail_within.Goals as goal

pub returns-in-Ok-clause-gives : goal.returns-in-Ok-clause-gives
returns-in-Ok-clause-gives g c =
    let s : Attributes = c.args.schema.now in
    let r = asked.tailing c.args.place c.args.max in
    let b : BoardState = g.B.Board.state c.args.board.now in
    let b1 : BoardState = g.B.Board.state c.await_change.new.board in
    let b' : BoardState = g.B.Board.state c.tail-built.new.board in
    let before : SinkState = sink_state g.K.Sink c.args.out.now in
    let mid : SinkState = sink_state g.K.Sink c.await_change.new.out in
    let after : SinkState = sink_state g.K.Sink c.tell_built.new.out in
    gives_behind s r b b' before mid after c.tell_built.result.by c.tell_built.result.written c.in-Ok.ensures.handed
    (subst (λ (x : BoardState). GivesReply (session_conduct s) r x b' mid after c.tell_built.result.by c.tell_built.result.written) c.await_change.ensures.same
    (subst (λ (x : Attributes). GivesReply (session_conduct x) r b1 b' mid after c.tell_built.result.by c.tell_built.result.written) (subst (λ (x : BoardState). x.schema ≡ s) (sym c.await_change.ensures.same) c.requires.schema)
    (says_built b1.schema r c.tail-built.result c.tail-built.new.self.reply.items b1 b' mid after c.tell_built.result refl c.tail-built.ensures.told c.tail-built.ensures.refused c.tell_built.ensures.built c.tell_built.ensures.refused)))

pub returns-in-Err-clause-gives : goal.returns-in-Err-clause-gives
returns-in-Err-clause-gives g c =
    let s : Attributes = c.args.schema.now in
    let r = asked.tailing c.args.place c.args.max in
    let b : BoardState = g.B.Board.state c.args.board.now in
    let before : SinkState = sink_state g.K.Sink c.args.out.now in
    let after : SinkState = sink_state g.K.Sink c.await_change.new.out in
    subst (λ (x : BoardState). GivesReply (session_conduct s) r b x before after None (Err c.in-Err.fault)) (sym c.await_change.ensures.same)
    (none_tailed s c.args.place c.args.max b before after c.in-Err.fault c.in-Err.ensures.handed)
