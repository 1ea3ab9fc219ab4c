-- Each request is answered by what the board said.
use Rattle.std.proofs.Common.{None, refl, sym, subst}
use Rattle.be_io.specs.Outside.{sink_state}
use Rattle.be_io.specs.Sink.{SinkState}
use Rattle.be_model.specs.Schemas.{Attributes}
use Rattle.be_change.specs.Requests as asked
use Rattle.be_board.specs.State.{BoardState}
use Rattle.be_protocol.specs.declared.requests.Request.{Request}
use Rattle.be_protocol.specs.declared.short.Short.TheVariants.{Refused}
use Rattle.be_protocol.specs.Requests.{plain_request, plain_refusal}
use Rattle.be_protocol.specs.Short.{plain_reply}
use Rattle.be_protocol.specs.Conduct.{GivesReply}
use Rattle.be_session.specs.Steps.{Replies, session_conduct}
use Rattle.be_session.proofs.Said.{replies_refused, says_short, says_bye, says_built}
use Rattle.be_session.proofs.serve.answer.Goals as goal

pub returns-in-Subscribe-clause-gives : goal.returns-in-Subscribe-clause-gives
returns-in-Subscribe-clause-gives g c =
    let b : BoardState = g.B.Board.state c.args.board.now in
    let b' : BoardState = g.B.Board.state c.subscribe.new.board in
    let before : SinkState = sink_state g.K.Sink c.args.out.now in
    let after : SinkState = sink_state g.K.Sink c.tell.new.out in
    subst (λ (x : Request). GivesReply (session_conduct c.args.schema.now) (plain_request x) b b' before after c.tell.result.by c.tell.result.written) (sym c.in-Subscribe.is)
    (says_short c.args.schema.now (asked.subscribe c.in-Subscribe.subscription.name c.in-Subscribe.subscription.conj) c.subscribe.result b b' before after c.tell.result refl (subst (λ (s : Attributes). Replies s (asked.subscribe c.in-Subscribe.subscription.name c.in-Subscribe.subscription.conj, plain_reply c.subscribe.result) b b') c.requires.schema c.subscribe.ensures.replies) c.tell.ensures.says)

pub returns-in-Unsubscribe-clause-gives : goal.returns-in-Unsubscribe-clause-gives
returns-in-Unsubscribe-clause-gives g c =
    let b : BoardState = g.B.Board.state c.args.board.now in
    let b' : BoardState = g.B.Board.state c.unsubscribe.new.board in
    let before : SinkState = sink_state g.K.Sink c.args.out.now in
    let after : SinkState = sink_state g.K.Sink c.tell-in-Unsubscribe.new.out in
    subst (λ (x : Request). GivesReply (session_conduct c.args.schema.now) (plain_request x) b b' before after c.tell-in-Unsubscribe.result.by c.tell-in-Unsubscribe.result.written) (sym c.in-Unsubscribe.is)
    (says_short c.args.schema.now (asked.unsubscribe c.in-Unsubscribe.name) c.unsubscribe.result b b' before after c.tell-in-Unsubscribe.result refl (subst (λ (s : Attributes). Replies s (asked.unsubscribe c.in-Unsubscribe.name, plain_reply c.unsubscribe.result) b b') c.requires.schema c.unsubscribe.ensures.replies) c.tell-in-Unsubscribe.ensures.says)

pub returns-in-Costing-clause-gives : goal.returns-in-Costing-clause-gives
returns-in-Costing-clause-gives g c =
    let b : BoardState = g.B.Board.state c.args.board.now in
    let b' : BoardState = g.B.Board.state c.cost.new.board in
    let before : SinkState = sink_state g.K.Sink c.args.out.now in
    let after : SinkState = sink_state g.K.Sink c.tell-in-Costing.new.out in
    subst (λ (x : Request). GivesReply (session_conduct c.args.schema.now) (plain_request x) b b' before after c.tell-in-Costing.result.by c.tell-in-Costing.result.written) (sym c.in-Costing.is)
    (says_short c.args.schema.now (asked.costing c.in-Costing.event) c.cost.result b b' before after c.tell-in-Costing.result refl (subst (λ (s : Attributes). Replies s (asked.costing c.in-Costing.event, plain_reply c.cost.result) b b') c.requires.schema c.cost.ensures.replies) c.tell-in-Costing.ensures.says)

pub returns-in-Sending-clause-gives : goal.returns-in-Sending-clause-gives
returns-in-Sending-clause-gives g c =
    let b : BoardState = g.B.Board.state c.args.board.now in
    let b' : BoardState = g.B.Board.state c.send.new.board in
    let before : SinkState = sink_state g.K.Sink c.args.out.now in
    let after : SinkState = sink_state g.K.Sink c.tell-in-Sending.new.out in
    subst (λ (x : Request). GivesReply (session_conduct c.args.schema.now) (plain_request x) b b' before after c.tell-in-Sending.result.by c.tell-in-Sending.result.written) (sym c.in-Sending.is)
    (says_short c.args.schema.now (asked.sending c.in-Sending.event) c.send.result b b' before after c.tell-in-Sending.result refl (subst (λ (s : Attributes). Replies s (asked.sending c.in-Sending.event, plain_reply c.send.result) b b') c.requires.schema c.send.ensures.replies) c.tell-in-Sending.ensures.says)

pub returns-in-Quit-clause-gives : goal.returns-in-Quit-clause-gives
returns-in-Quit-clause-gives g c =
    let b : BoardState = g.B.Board.state c.args.board.now in
    let b' : BoardState = g.B.Board.state c.quit.new.board in
    let before : SinkState = sink_state g.K.Sink c.args.out.now in
    let after : SinkState = sink_state g.K.Sink c.tell-in-Quit.new.out in
    subst (λ (x : Request). GivesReply (session_conduct c.args.schema.now) (plain_request x) b b' before after c.tell-in-Quit.result.by c.tell-in-Quit.result.written) (sym c.in-Quit.is)
    (says_bye c.args.schema.now c.quit.result b b' before after c.tell-in-Quit.result (subst (λ (s : Attributes). Replies s (asked.quit, plain_reply c.quit.result) b b') c.requires.schema c.quit.ensures.replies) c.tell-in-Quit.ensures.says)

pub returns-in-Publish-clause-gives : goal.returns-in-Publish-clause-gives
returns-in-Publish-clause-gives g c =
    let b : BoardState = g.B.Board.state c.args.board.now in
    let b' : BoardState = g.B.Board.state c.hits-built.new.board in
    let before : SinkState = sink_state g.K.Sink c.args.out.now in
    let after : SinkState = sink_state g.K.Sink c.tell_built.new.out in
    subst (λ (x : Request). GivesReply (session_conduct c.args.schema.now) (plain_request x) b b' before after c.tell_built.result.by c.tell_built.result.written) (sym c.in-Publish.is)
    (subst (λ (s : Attributes). GivesReply (session_conduct s) (asked.publish c.in-Publish.event) b b' before after c.tell_built.result.by c.tell_built.result.written) c.requires.schema
    (says_built b.schema (asked.publish c.in-Publish.event) c.hits-built.result c.hits-built.new.self.reply.items b b' before after c.tell_built.result refl c.hits-built.ensures.told c.hits-built.ensures.refused c.tell_built.ensures.built c.tell_built.ensures.refused))

pub returns-in-Listing-clause-gives : goal.returns-in-Listing-clause-gives
returns-in-Listing-clause-gives g c =
    let b : BoardState = g.B.Board.state c.args.board.now in
    let b' : BoardState = g.B.Board.state c.listed-built.new.board in
    let before : SinkState = sink_state g.K.Sink c.args.out.now in
    let after : SinkState = sink_state g.K.Sink c.tell_built-in-Listing.new.out in
    subst (λ (x : Request). GivesReply (session_conduct c.args.schema.now) (plain_request x) b b' before after c.tell_built-in-Listing.result.by c.tell_built-in-Listing.result.written) (sym c.in-Listing.is)
    (subst (λ (s : Attributes). GivesReply (session_conduct s) (asked.listing) b b' before after c.tell_built-in-Listing.result.by c.tell_built-in-Listing.result.written) c.requires.schema
    (says_built b.schema (asked.listing) c.listed-built.result c.listed-built.new.self.reply.items b b' before after c.tell_built-in-Listing.result refl c.listed-built.ensures.told c.listed-built.ensures.refused c.tell_built-in-Listing.ensures.built c.tell_built-in-Listing.ensures.refused))

pub returns-in-Dumping-clause-gives : goal.returns-in-Dumping-clause-gives
returns-in-Dumping-clause-gives g c =
    let b : BoardState = g.B.Board.state c.args.board.now in
    let b' : BoardState = g.B.Board.state c.dumped-built.new.board in
    let before : SinkState = sink_state g.K.Sink c.args.out.now in
    let after : SinkState = sink_state g.K.Sink c.tell_built-in-Dumping.new.out in
    subst (λ (x : Request). GivesReply (session_conduct c.args.schema.now) (plain_request x) b b' before after c.tell_built-in-Dumping.result.by c.tell_built-in-Dumping.result.written) (sym c.in-Dumping.is)
    (subst (λ (s : Attributes). GivesReply (session_conduct s) (asked.dumping) b b' before after c.tell_built-in-Dumping.result.by c.tell_built-in-Dumping.result.written) c.requires.schema
    (says_built b.schema (asked.dumping) c.dumped-built.result c.dumped-built.new.self.reply.items b b' before after c.tell_built-in-Dumping.result refl c.dumped-built.ensures.told c.dumped-built.ensures.refused c.tell_built-in-Dumping.ensures.built c.tell_built-in-Dumping.ensures.refused))

pub returns-in-Tailing-clause-gives : goal.returns-in-Tailing-clause-gives
returns-in-Tailing-clause-gives g c =
    let b : BoardState = g.B.Board.state c.args.board.now in
    let b' : BoardState = g.B.Board.state c.tail_within.new.board in
    let before : SinkState = sink_state g.K.Sink c.args.out.now in
    let after : SinkState = sink_state g.K.Sink c.tail_within.new.out in
    subst (λ (x : Request). GivesReply (session_conduct c.args.schema.now) (plain_request x) b b' before after c.tail_within.result.by c.tail_within.result.written) (sym c.in-Tailing.is)
    c.tail_within.ensures.gives

pub returns-in-Fetching-clause-gives : goal.returns-in-Fetching-clause-gives
returns-in-Fetching-clause-gives g c =
    let b : BoardState = g.B.Board.state c.args.board.now in
    let b' : BoardState = g.B.Board.state c.fetch_within.new.board in
    let before : SinkState = sink_state g.K.Sink c.args.out.now in
    let after : SinkState = sink_state g.K.Sink c.fetch_within.new.out in
    subst (λ (x : Request). GivesReply (session_conduct c.args.schema.now) (plain_request x) b b' before after None c.fetch_within.result) (sym c.in-Fetching.is)
    c.fetch_within.ensures.answered

pub returns-in-Refused-clause-gives : goal.returns-in-Refused-clause-gives
returns-in-Refused-clause-gives g c =
    let b : BoardState = g.B.Board.state c.args.board.now in
    let before : SinkState = sink_state g.K.Sink c.args.out.now in
    let after : SinkState = sink_state g.K.Sink c.tell-in-Refused.new.out in
    let r : asked.Refusal = plain_refusal c.in-Refused.refusal in
    subst (λ (x : Request). GivesReply (session_conduct c.args.schema.now) (plain_request x) b b before after c.tell-in-Refused.result.by c.tell-in-Refused.result.written) (sym c.in-Refused.is)
    (says_short c.args.schema.now (asked.refused r) (Refused c.in-Refused.refusal) b b before after c.tell-in-Refused.result refl (replies_refused c.args.schema.now r b) c.tell-in-Refused.ensures.says)
