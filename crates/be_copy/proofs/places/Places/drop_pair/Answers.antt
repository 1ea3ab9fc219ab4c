use Rattle.be_copy.proofs.Pairs.{updated}
use Rattle.std.proofs.Common.{false}
use Rattle.be_copy.proofs.places.Places.drop_pair.Goals as goal

pub returns : goal.returns
returns c = updated c.args.self.now.pairs.keys c.remove.new.self.keys c.args.key c.args.place false c.remove.ensures.updates.0
