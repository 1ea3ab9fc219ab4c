-- The wanted rows are the session's live rows.
use Rattle.be_copy.proofs.Kept.{kept_listed, kept_map}
use Rattle.be_copy.proofs.copies.Copy2.rows_of.Goals as goal

pub append_wanted-requires-clause-listed : goal.append_wanted-requires-clause-listed
append_wanted-requires-clause-listed g c = kept_listed c.self.inside.log.list (g.I.Index.rows c.self.inside.index) c.self.invariant.0.live

pub append_wanted-requires-clause-map : goal.append_wanted-requires-clause-map
append_wanted-requires-clause-map g c =
    kept_map c.self.inside.log.list (g.I.Index.rows c.self.inside.index) c.len.result c.self.inside.log.spare c.self.invariant.0.live c.len.ensures.len c.len.ensures.most c.len.ensures.ids
