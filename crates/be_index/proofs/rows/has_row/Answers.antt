-- The held row is that of its id.
use Rattle.std.proofs.Common.{Some, option_map, ap, sym, ◌∙◌}
use Rattle.std.specs.Arc.{arc_value}
use Rattle.std.specs.Option.{option_copied}
use Rattle.be_model.specs.declared.changes.Row.{Row}
use Rattle.be_model.specs.Rows.{id_of}
use Rattle.be_model.specs.ByIds.{map_in, row_at}
use Rattle.be_index.proofs.Maps.{lookup_is, held_is, held_none}
use Rattle.be_index.proofs.rows.has_row.Goals as goal

pub returns-in-Some : goal.returns-in-Some
returns-in-Some c =
    let m = c.args.rows.now.entries in
    let id = id_of c.args.row.now in
    let found = sym (lookup_is m id) ∙ ap (option_map (λ x. arc_value x)) (sym c.get.ensures.value ∙ ap option_copied c.in-Some.is) in
    held_is c.deref.result.now c.args.row.now (row_at id (map_in m)) c.same_as.result (found ∙ ap (λ (r : Row). Some r) (sym c.deref.ensures)) c.same_as.ensures

pub returns-in-None : goal.returns-in-None
returns-in-None c =
    let m = c.args.rows.now.entries in
    let id = id_of c.args.row.now in
    held_none c.args.row.now (row_at id (map_in m)) (sym (lookup_is m id) ∙ ap (option_map (λ x. arc_value x)) (sym c.get.ensures.value ∙ ap option_copied c.in-None.is))
