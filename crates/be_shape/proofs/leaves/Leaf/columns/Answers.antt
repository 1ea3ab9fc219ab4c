use Rattle.std.proofs.Common.{take, drop, IfSome, ap, subst, ◌∙◌}
use Rattle.be_shape.specs.Columns.{AreColumnsOf}
use Rattle.be_shape.proofs.LeafRows.{rows_between}
use Rattle.be_shape.proofs.leaves.Leaf.columns.Goals as goal

pub returns : goal.returns
returns c =
    let ps = c.self.inside.places.items in
    let from = c.args.from in
    let same = rows_between from 32 ps c.self.invariant.rows ∙ ap (λ rows. take 32 (drop from rows)) c.self.view_is in
    subst (λ rows. IfSome c.told_of.result (λ c'. AreColumnsOf c'.now rows)) same (c.told_of.ensures ps c.self.invariant.beside)
