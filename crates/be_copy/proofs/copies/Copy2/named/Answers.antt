-- The wanted row is that of the name; live rows are rows of the list, and a map.
use Rattle.std.specs.Arc.{arc_value}
use Rattle.be_change.specs.History.{live}
use Rattle.be_copy.proofs.Kept.{kept_listed, kept_map, none_named}
use Rattle.be_copy.proofs.copies.Copy2.named.Goals as goal

pub first-requires-clause-listed : goal.first-requires-clause-listed
first-requires-clause-listed g c = kept_listed c.self.inside.log.list (g.I.Index.rows c.self.inside.index) c.self.invariant.0.live

pub first-requires-clause-map : goal.first-requires-clause-map
first-requires-clause-map g c =
    kept_map c.self.inside.log.list (g.I.Index.rows c.self.inside.index) c.len.result c.self.inside.log.spare c.self.invariant.0.live c.len.ensures.len c.len.ensures.most c.len.ensures.ids

pub returns-clause-none : goal.returns-clause-none
returns-clause-none g c =
    rw (← c.self.view_is)
    (none_named (λ row. arc_value row.now) c.first.result (g.I.Index.rows c.self.inside.index) (live c.self.inside.log.list) c.args.name.now c.self.invariant.0.live c.first.ensures.first)
