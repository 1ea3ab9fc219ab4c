-- It stays a map.
use Rattle.std.proofs.Common.{ap, ◌∙◌}
use Rattle.std.specs.Arc.{arc_value}
use Rattle.be_model.specs.Rows.{id_of}
use Rattle.be_model.specs.ByIds.{map_in, has_id}
use Rattle.be_index.specs.Rows.{PlainIndex}
use Rattle.be_index.proofs.Maps.{map_after_put}
use Rattle.be_index.proofs.rows.ListIndexIndex.insert.Goals as goal

pub invariant_of-self : goal.invariant_of-self
invariant_of-self c =
    let row = arc_value c.args.row in
    map_after_put c.put_row.result row (map_in c.self.inside.rows.entries) (map_in c.put_row.new.rows.entries) c.put_row.ensures.put c.put_row.ensures.refused
    c.self.invariant (ap (λ (i : PlainIndex). has_id (id_of row) i.rows) c.self.view_is ∙ c.requires.new) c.requires.low
