use Rattle.std.proofs.Common.{◌<◌, length, slice_get, sym, ap, subst, ◌∙◌, arith}
use Rattle.std.specs.List.{remove}
use Rattle.be_shape.specs.Leaves.{rows_of_places, are_rows}
use Rattle.be_shape.specs.Large.{IsBeside}
use Rattle.be_shape.proofs.LeafRows.{rows_length, row_there, row_some, rows_taken, are_rows_taken}
use Rattle.be_shape.proofs.Commons.{many_common}
use Rattle.be_shape.proofs.leaves.Leaf.take.Goals as goal

pub into_row-row-requires : goal.into_row-row-requires
into_row-row-requires c =
    let ps = c.self.inside.places.items in
    let l : c.args.place < length ps = omega (arith, rows_length ps c.self.invariant.rows, ap length c.self.view_is, c.requires) in
    row_some ps c.args.place c.remove.result c.self.invariant.rows l c.remove.ensures.value

pub invariant_of-self : goal.invariant_of-self
invariant_of-self c =
    let ps = c.self.inside.places.items in
    let l : c.args.place < length ps = omega (arith, rows_length ps c.self.invariant.rows, ap length c.self.view_is, c.requires) in
    record {
      rows = ap are_rows c.remove.ensures.items ∙ are_rows_taken ps c.args.place c.self.invariant.rows;
      counted = sym c.len-self-inside.ensures.value;
      told = many_common (rows_of_places c.remove.new.self.items);
      beside = subst (λ xs. IsBeside xs c.note_taken.new.large) (sym c.remove.ensures.items) (c.note_taken.ensures ps l c.self.invariant.beside);
    }

pub returns-clause-row : goal.returns-clause-row
returns-clause-row c =
    let ps = c.self.inside.places.items in
    let l : c.args.place < length ps = omega (arith, rows_length ps c.self.invariant.rows, ap length c.self.view_is, c.requires) in
    ap (λ rows. slice_get rows c.args.place) (sym c.self.view_is) ∙ row_there ps c.args.place c.remove.result c.self.invariant.rows l c.remove.ensures.value ∙ c.into_row-row.ensures

pub returns-clause-rest : goal.returns-clause-rest
returns-clause-rest c =
    let ps = c.self.inside.places.items in
    ap rows_of_places c.remove.ensures.items ∙ rows_taken ps c.args.place c.self.invariant.rows ∙ ap (λ rows. remove rows c.args.place) c.self.view_is
