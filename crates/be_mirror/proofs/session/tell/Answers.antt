-- The reply was written, and the session goes on by it.
use Rattle.std.proofs.Common.{refl}
use Rattle.be_mirror.proofs.session.tell.Goals as goal

pub returns-clause-says : goal.returns-clause-says
returns-clause-says g c = λ s. (refl, c.say.ensures.wrote s)
