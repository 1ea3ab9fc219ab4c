-- The file was asked for.
use Rattle.be_server.proofs.Asking.{asks_file}
use Rattle.be_server.proofs.follow.load_follower.Goals as goal

pub returns-in-Err-clause-asked : goal.returns-in-Err-clause-asked
returns-in-Err-clause-asked g c =
    asks_file c.read_file.result (g.F.Shelf.asked c.args.shelf.now) (g.F.Shelf.asked c.read_file.new.self) c.args.file.now c.read_file.ensures.asked
