use Rattle.be_demand.proofs.Refused.{has_words}
use Rattle.be_demand.proofs.counting.read_request.Goals as goal

pub returns-clause-words : goal.returns-clause-words
returns-clause-words c = has_words c.args.schema.now c.in_ok-request.request c.in_ok-request.ensures.lies

pub returns-clause-named : goal.returns-clause-named
returns-clause-named c = λ t e. c.show_name.ensures c.args.schema.now t e
