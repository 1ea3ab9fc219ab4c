-- The session asked to leave.
use Rattle.be_session.proofs.serve.SessionReplier.leave.Goals as goal

pub returns-clause-leaves : goal.returns-clause-leaves
returns-clause-leaves g c = (c.leave.result, c.leave.ensures.asked)
