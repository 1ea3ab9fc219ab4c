use Rattle.be_copy.proofs.Pairs.{updated}
use Rattle.std.proofs.Common.{true}
use Rattle.be_copy.proofs.places.Places.put.Goals as goal

pub returns-in-Ok-clause-put : goal.returns-in-Ok-clause-put
returns-in-Ok-clause-put c = updated c.args.self.now.pairs.keys c.insert.new.self.keys c.args.key c.args.place true c.in-Ok.ensures.updates.0
