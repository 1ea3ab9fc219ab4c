-- A row more in the map.
use Rattle.std.proofs.Common.{ap, ◌∙◌}
use Rattle.be_model.specs.declared.changes.Row.{Row}
use Rattle.be_model.specs.Rows.{id_of}
use Rattle.be_model.specs.ByIds.{map_in, has_id}
use Rattle.be_index.proofs.Maps.{put_is}
use Rattle.be_index.proofs.rows.put_row.Goals as goal

pub returns-in-Ok-clause-put : goal.returns-in-Ok-clause-put
returns-in-Ok-clause-put c =
    let m = c.args.rows.now.entries in
    ap map_in c.in-Ok.ensures.entries
    ∙ put_is m c.deref.result.now.id.0 c.args.row (ap (λ (r : Row). r.id.0) c.deref.ensures) (ap (λ (r : Row). has_id (id_of r) (map_in m)) c.deref.ensures ∙ c.requires)
