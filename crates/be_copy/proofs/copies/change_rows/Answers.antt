-- Live rows are rows of the list, and a map.
use Rattle.be_copy.proofs.Kept.{kept_listed, kept_map}
use Rattle.be_copy.proofs.copies.change_rows.Goals as goal

pub remove_wanted-requires-clause-listed : goal.remove_wanted-requires-clause-listed
remove_wanted-requires-clause-listed g c = kept_listed c.args.log.now.list (g.I.Index.rows c.args.index.now) c.requires.kept.live

pub remove_wanted-requires-clause-map : goal.remove_wanted-requires-clause-map
remove_wanted-requires-clause-map g c =
    kept_map c.args.log.now.list (g.I.Index.rows c.args.index.now) c.len.result c.args.log.now.spare c.requires.kept.live c.len.ensures.len c.len.ensures.most c.len.ensures.ids

pub remove_wanted-requires-in-Bye-clause-listed : goal.remove_wanted-requires-in-Bye-clause-listed
remove_wanted-requires-in-Bye-clause-listed g c = kept_listed c.args.log.now.list (g.I.Index.rows c.args.index.now) c.requires.kept.live

pub remove_wanted-requires-in-Bye-clause-map : goal.remove_wanted-requires-in-Bye-clause-map
remove_wanted-requires-in-Bye-clause-map g c =
    kept_map c.args.log.now.list (g.I.Index.rows c.args.index.now) c.len.result c.args.log.now.spare c.requires.kept.live c.len.ensures.len c.len.ensures.most c.len.ensures.ids
