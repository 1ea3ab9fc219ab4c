-- The feed was asked for behind a good schema.
use Rattle.be_server.proofs.Asking.{asks_feed}
use Rattle.be_server.proofs.follow.load_feed.Goals as goal

pub returns-in-Ok-clause-asked : goal.returns-in-Ok-clause-asked
returns-in-Ok-clause-asked g c =
    asks_feed (g.F.Shelf.content c.args.shelf.now) c.args.schema.now c.args.file.now c.in-Ok.schema (g.F.Shelf.asked c.args.shelf.now) (g.F.Shelf.asked c.load_schema.new.shelf) (g.F.Shelf.asked c.load_follower.new.shelf)
    c.in-Ok.ensures.read c.in-Ok.ensures.loads.1 c.load_follower.ensures.asked
