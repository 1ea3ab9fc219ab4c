use Rattle.be_model.proofs.Spans.{spans_lie}
use Rattle.be_model.proofs.laws.spans_lie.Goals as goal

pub returns : goal.returns
returns c = spans_lie
