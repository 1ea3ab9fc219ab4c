use Rattle.std.proofs.Common.{slice_get, sym, ap, ◌∙◌}
use Rattle.be_shape.specs.Leaves.{rows_of_places}
use Rattle.be_shape.proofs.leaves.Leaf.kept.Goals as goal

pub returns-clause-at : goal.returns-clause-at
returns-clause-at c =
    let i = c.args.place in
    ap (λ rows. slice_get rows i) (sym c.self.view_is) ∙ ap (λ ps. slice_get (rows_of_places ps) i) (sym c.as_slice.ensures) ∙ c.kept_at.ensures.at
