use Rattle.be_event.proofs.RoundTrip.{texts_are_read}
use Rattle.be_event.proofs.laws.texts_are_read.Goals as goal

pub returns : goal.returns
returns c = texts_are_read
