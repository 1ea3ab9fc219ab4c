use Rattle.be_model.proofs.Spans.{spans_are}
use Rattle.be_model.proofs.laws.spans_are.Goals as goal

pub returns : goal.returns
returns c = spans_are
