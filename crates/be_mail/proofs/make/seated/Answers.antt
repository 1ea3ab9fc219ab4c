use Rattle.std.proofs.Common.{◌<◌, ap, ◌∙◌, subst, sym, map, length}
use Rattle.be_mail.specs.Boxes.{IsNewRow}
use Rattle.be_mail.specs.Passes.{new_passes, box_of}
use Rattle.be_mail.proofs.Rows.{seats_new}
use Rattle.be_mail.proofs.make.seated.Goals as goal

pub returns : goal.returns
returns c =
    let row = subst (λ r. (c.args.seat < length r) × IsNewRow c.args.seat (map box_of r) r) (sym c.row.view_is) c.requires in
    seats_new c.args.seat c.row.inside.passes.items row.0 row.1 ∙ ap (λ r. new_passes (map box_of r) c.args.seat) c.row.view_is
