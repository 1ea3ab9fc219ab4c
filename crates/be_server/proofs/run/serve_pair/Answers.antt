-- The session that was served over the pair, as one over its two objects.
use Rattle.std.proofs.Common.{rules, ◌≡◌, sym, ap, subst}
use Rattle.be_io.specs.Outside.{source_state, sink_state}
use Rattle.be_session.specs.Served.{SessionEnds}
use Rattle.be_server.specs.Outside.{link}
use Rattle.be_server.proofs.RunSession.{kept_so}
use Rattle.be_server.proofs.run.serve_pair.Goals as goal

pub returns-clause-ends : goal.returns-clause-ends
returns-clause-ends g c =
    let peer = c.serve_link.new.link in
    let read : c.input-1.given.0 ≡ peer.source.now = search rules in
    let wrote : c.out-1.given.0 ≡ peer.sink.now = search rules in
    let b = g.B.Board.state c.args.board.now in
    let b' = g.B.Board.state c.serve_link.new.board in
    let before = link (source_state g.S.Source c.args.input.now) (sink_state g.K.Sink c.args.out.now) in
    subst (λ (x : g.row.S.Denot). SessionEnds ((x ≡ c.args.input.now) × (c.out-1.given.0 ≡ c.args.out.now) × (c.serve_link.new.board ≡ c.args.board.now)) c.args.schema.now before
    (link (source_state g.S.Source x) (sink_state g.K.Sink c.out-1.given.0)) b b' c.serve_link.result) (sym read)
    (subst (λ (y : g.row.K.Denot). SessionEnds ((peer.source.now ≡ c.args.input.now) × (y ≡ c.args.out.now) × (c.serve_link.new.board ≡ c.args.board.now)) c.args.schema.now before
    (link (source_state g.S.Source peer.source.now) (sink_state g.K.Sink y)) b b' c.serve_link.result) (sym wrote)
    (kept_so _ ((peer.source.now ≡ c.args.input.now) × (peer.sink.now ≡ c.args.out.now) × (c.serve_link.new.board ≡ c.args.board.now)) c.args.schema.now before
    (link (source_state g.S.Source peer.source.now) (sink_state g.K.Sink peer.sink.now)) b b' c.serve_link.result
    (λ u. (ap (λ l. l.source.now) u.0, ap (λ l. l.sink.now) u.0, u.1)) c.serve_link.ensures.ends))
