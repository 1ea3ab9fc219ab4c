-- The row that the register finds.
use Rattle.std.proofs.Common.{◌≡◌, List, Some, refl, sym, ap, subst}
use Rattle.std.specs.Arc.{arc_value}
use Rattle.be_model.specs.declared.changes.Row.{Row}
use Rattle.be_change.specs.History.{Entry, live}
use Rattle.be_core.specs.World.{named}
use Rattle.be_desk.proofs.ledger.Ledger.named.Goals as goal

pub returns : goal.returns
returns c =
    let row = arc_value c.in_ok-id.row.now in
    let found = subst (λ (h : List Entry). named c.args.name.now (live h) ≡ Some (c.in_ok-id.id, row)) c.self.view_is c.in_ok-id.ensures in
    ((c.in_ok-id.id, row), found, refl, ap (λ (r : Row). r.session.0) (sym c.deref.ensures))
