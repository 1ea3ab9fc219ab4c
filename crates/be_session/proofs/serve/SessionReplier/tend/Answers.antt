-- A board that was tended hasn't left.
use Rattle.std.proofs.Common.{◌≡◌, false, sym, subst}
use Rattle.be_board.specs.State.{BoardState, is_gone}
use Rattle.be_session.proofs.serve.SessionReplier.tend.Goals as goal

pub returns-clause-ready : goal.returns-clause-ready
returns-clause-ready g c =
    subst (λ (x : BoardState). (is_gone x ≡ false) × (x.schema ≡ c.args.self.now.schema.now)) (sym c.tend.ensures.3) c.requires.ready
