-- What the conversation's exchanges made of the board is what the board's word and counts bear out.
use Rattle.std.proofs.Common.{◌≡◌, rules, ℕ, List, refl, sym, ap, subst}
use Rattle.be_io.specs.Outside.{link_state}
use Rattle.be_protocol.specs.Conduct.{KeptByReplier}
use Rattle.be_session.specs.Served.{SessionEnds, BoardLeft}
use Rattle.be_session.proofs.BoardWalks.{serves_first}
use Rattle.be_session.proofs.Upholding.{session_ended, session_left, one_reference}
use Rattle.be_session.proofs.serve.serve_link.Goals as goal

pub converse-requires : goal.converse-requires
converse-requires g c = record { ready = ((serves_first c.args.schema.now (g.B.Board.state c.args.board.now) c.requires.first).present refl, c.requires.schema) }

pub returns-clause-ends : goal.returns-clause-ends
returns-clause-ends g c =
    let named = sym (one_reference _ _ (ap (λ (k : KeptByReplier). k.references) c.converse.ensures.kept)) in
    subst (λ (d : g.row.B.Denot). SessionEnds ((c.converse.new.link ≡ c.args.link.now) × (d ≡ c.args.board.now)) c.args.schema.now (link_state g.L.Source g.L.Sink c.args.link.now) (link_state g.L.Source g.L.Sink c.converse.new.link)
    (g.B.Board.state c.args.board.now) (g.B.Board.state d) c.converse.result) (sym (c.board-1.given.1 named))
    (session_ended _ ((c.converse.new.link ≡ c.args.link.now) × (c.converse.new.replier.board.now ≡ c.args.board.now)) c.args.schema.now (g.B.Board.state c.args.board.now) (g.B.Board.state c.converse.new.replier.board.now) _ _ c.converse.result
    (λ u. (u.0, ap (λ x. x.board.now) u.1)) c.left-left.ensures.somebody c.requires.first c.converse.ensures.ends)

pub returns-clause-board : goal.returns-clause-board
returns-clause-board g c =
    let named = sym (one_reference _ _ (ap (λ (k : KeptByReplier). k.references) c.converse.ensures.kept)) in
    subst (λ (d : g.row.B.Denot). BoardLeft (g.B.Board.state c.args.board.now) (g.B.Board.state d)) (sym (c.board-1.given.1 named))
    (session_left _ c.args.schema.now (g.B.Board.state c.args.board.now) (g.B.Board.state c.converse.new.replier.board.now) _ _ c.converse.result
    (λ u. ap (λ x. g.B.Board.state x.board.now) u.1) c.requires.first c.converse.ensures.ends)
