use Rattle.std.proofs.Common.{sym, ◌∙◌}
use Rattle.be_model.proofs.RowsByIds.{has_by_ids}
use Rattle.be_shape.specs.Plain.{plain, rows_below}
use Rattle.be_shape.proofs.laws.new_ids_are_nowhere.Goals as goal

pub returns : goal.returns
returns c =
    let rows = rows_below (plain c.args.t.now.root) in
    λ id. (λ e. sym (has_by_ids id rows) ∙ e, λ e. has_by_ids id rows ∙ e)
