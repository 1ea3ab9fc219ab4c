use Rattle.std.proofs.Common.{◌<◌, ◌∷◌, length, slice_get, sym, ap, subst, ◌∙◌, arith}
use Rattle.std.specs.Prelude.{IsPermutation}
use Rattle.std.specs.Arc.{arc_value}
use Rattle.std.specs.List.{swap_remove}
use Rattle.std.proofs.lemmas.List.Sorted.{IsPermutation-swap_remove}
use Rattle.be_shape.specs.Leaves.{rows_of_places, are_rows}
use Rattle.be_shape.specs.Large.{IsBeside}
use Rattle.be_shape.proofs.LeafRows.{rows_length, row_there, row_some, rows_pulled, are_rows_pulled}
use Rattle.be_shape.specs.Common.{AreCommon}
use Rattle.be_shape.proofs.Commons.{pulled_common}
use Rattle.be_shape.proofs.leaves.Leaf.pull.Goals as goal

pub into_row-row-requires : goal.into_row-row-requires
into_row-row-requires c =
    let ps = c.self.inside.places.items in
    let l : c.args.place < length ps = omega (arith, rows_length ps c.self.invariant.rows, ap length c.self.view_is, c.requires) in
    row_some ps c.args.place c.swap_remove.result c.self.invariant.rows l c.swap_remove.ensures.value

pub invariant_of-self : goal.invariant_of-self
invariant_of-self c =
    let ps = c.self.inside.places.items in
    let k = c.swap_remove.result in
    let l : c.args.place < length ps = omega (arith, rows_length ps c.self.invariant.rows, ap length c.self.view_is, c.requires) in
    let row = arc_value c.into_row-row.result in
    let moved = IsPermutation-swap_remove ps c.args.place k l c.swap_remove.ensures.value in
    let pulled = rows_pulled ps (swap_remove ps c.args.place k) k row c.into_row-row.ensures c.self.invariant.rows moved in
    let as_slice_is = c.as_slice.ensures in
    let swapped = as_slice_is ∙ c.swap_remove.ensures.items in
    record {
      rows = ap are_rows c.swap_remove.ensures.items ∙ are_rows_pulled ps (swap_remove ps c.args.place k) k row c.into_row-row.ensures c.self.invariant.rows moved;
      counted = sym c.len-self-inside.ensures.value;
      told = subst (λ xs. AreCommon (rows_of_places xs) c.self.inside.common) (sym c.swap_remove.ensures.items) (pulled_common (rows_of_places ps) (rows_of_places (swap_remove ps c.args.place k)) row c.self.inside.common pulled c.self.invariant.told);
      beside = subst (λ xs. IsBeside xs c.note_pulled.new.large) as_slice_is (c.note_pulled.ensures ps k swapped c.self.invariant.beside);
    }

pub returns-clause-row : goal.returns-clause-row
returns-clause-row c =
    let ps = c.self.inside.places.items in
    let l : c.args.place < length ps = omega (arith, rows_length ps c.self.invariant.rows, ap length c.self.view_is, c.requires) in
    ap (λ rows. slice_get rows c.args.place) (sym c.self.view_is) ∙ row_there ps c.args.place c.swap_remove.result c.self.invariant.rows l c.swap_remove.ensures.value ∙ c.into_row-row.ensures

pub returns-clause-rest : goal.returns-clause-rest
returns-clause-rest c =
    let ps = c.self.inside.places.items in
    let k = c.swap_remove.result in
    let row = arc_value c.into_row-row.result in
    let l : c.args.place < length ps = omega (arith, rows_length ps c.self.invariant.rows, ap length c.self.view_is, c.requires) in
    let p = rows_pulled ps (swap_remove ps c.args.place k) k row c.into_row-row.ensures c.self.invariant.rows (IsPermutation-swap_remove ps c.args.place k l c.swap_remove.ensures.value) in
    let q : IsPermutation (rows_of_places ps) (row ∷ rows_of_places c.swap_remove.new.self.items) = subst (λ xs. IsPermutation (rows_of_places ps) (row ∷ rows_of_places xs)) (sym c.swap_remove.ensures.items) p in
    subst (λ xs. IsPermutation xs (row ∷ rows_of_places c.swap_remove.new.self.items)) c.self.view_is q
