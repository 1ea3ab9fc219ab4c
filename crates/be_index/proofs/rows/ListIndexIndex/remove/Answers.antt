-- It stays a map.
use Rattle.be_model.specs.Rows.{id_of}
use Rattle.be_model.specs.ByIds.{map_in}
use Rattle.be_index.proofs.Maps.{map_after_drop}
use Rattle.be_index.proofs.rows.ListIndexIndex.remove.Goals as goal

pub invariant_of-self : goal.invariant_of-self
invariant_of-self c =
    map_after_drop c.drop_row.result (id_of c.args.row.now) (map_in c.self.inside.rows.entries) (map_in c.drop_row.new.rows.entries) c.drop_row.ensures.removed c.drop_row.ensures.kept c.self.invariant
