-- The rows but that of the id.
use Rattle.std.proofs.Common.{ap, ◌∙◌}
use Rattle.be_model.specs.Rows.{id_of}
use Rattle.be_model.specs.ByIds.{map_in}
use Rattle.be_index.proofs.Maps.{removed_is}
use Rattle.be_index.proofs.rows.drop_row.Goals as goal

pub returns-clause-removed : goal.returns-clause-removed
returns-clause-removed c = ap map_in c.remove.ensures.entries ∙ removed_is c.args.rows.now.entries (id_of c.args.row.now) c.requires
