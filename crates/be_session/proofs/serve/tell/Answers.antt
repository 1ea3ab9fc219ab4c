-- The reply was written, and the session goes on by it.
use Rattle.be_session.proofs.serve.tell.Goals as goal

pub returns-clause-says : goal.returns-clause-says
returns-clause-says g c = λ s. (c.short_end.ensures, c.say.ensures.wrote s)
