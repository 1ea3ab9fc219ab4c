use Rattle.be_model.proofs.Spans.{spans_hold}
use Rattle.be_model.proofs.laws.spans_hold.Goals as goal

pub returns : goal.returns
returns c = spans_hold
