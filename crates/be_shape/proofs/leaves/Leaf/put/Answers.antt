use Rattle.std.proofs.Common.{◌∷◌, ◌++◌, [], sym, ap, subst, ◌∙◌}
use Rattle.std.specs.Arc.{arc_value}
use Rattle.be_shape.specs.Large.{IsBeside}
use Rattle.be_shape.specs.Leaves.{are_rows, rows_of_places}
use Rattle.be_shape.proofs.Commons.{many_common}
use Rattle.be_shape.proofs.LargeTold.{beside_put}
use Rattle.be_shape.proofs.LeafRows.{are_rows_put}
use Rattle.be_shape.proofs.leaves.Leaf.put.Goals as goal

pub invariant_of-self : goal.invariant_of-self
invariant_of-self c =
    let ps = c.self.inside.places.items in
    let k = c.of.result in
    let large = c.note_put_few.new.large in
    let items = c.push_reserved.ensures.items in
    record {
      rows = ap are_rows items ∙ ap (λ x. are_rows (ps ++ x ∷ [])) c.of.ensures ∙ are_rows_put ps (arc_value c.args.row) c.self.invariant.rows;
      counted = sym c.len-self-inside.ensures.value;
      told = many_common (rows_of_places c.push_reserved.new.self.items);
      beside = subst (λ xs. IsBeside xs large) (sym items) (beside_put ps k large (c.note_put_few.ensures ps c.self.invariant.beside));
    }
