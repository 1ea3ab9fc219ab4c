use Rattle.std.proofs.Common.{IsPermutation, sym, subst, ◌∙◌}
use Rattle.std.proofs.lemmas.List.Sorted.{length_permutation}
use Rattle.be_shape.specs.Common.{IsLeaf}
use Rattle.be_shape.specs.Leaves.{rows_of_places}
use Rattle.be_shape.proofs.Commons.{moved_common}
use Rattle.be_shape.proofs.LeafRows.{are_rows_moved, rows_moved, refilled}
use Rattle.be_shape.proofs.leaves.Leaf.arrange.Goals as goal

pub invariant_of-self : goal.invariant_of-self
invariant_of-self c =
    let ps = c.self.inside.places.items in
    let qs = c.arrange.new.places in
    let order : IsPermutation ps qs = subst (λ xs. IsPermutation xs qs) c.as_mut_slice.ensures.value c.arrange.ensures.order in
    let is : IsLeaf c.self.inside.count c.self.inside.common qs c.arrange.new.large = record {
      rows = are_rows_moved ps qs order c.self.invariant.rows;
      counted = length_permutation ps qs order ∙ c.self.invariant.counted;
      told = moved_common (rows_of_places ps) (rows_of_places qs) c.self.inside.common (rows_moved ps qs order c.self.invariant.rows) c.self.invariant.told;
      beside = c.arrange.ensures.beside;
    } in
    subst (λ xs. IsLeaf c.self.inside.count c.self.inside.common xs c.arrange.new.large) (sym (refilled ps qs order)) is

pub returns-then-self-ge-LARGE_ROWS : goal.returns-then-self-ge-LARGE_ROWS
returns-then-self-ge-LARGE_ROWS c =
    let ps = c.self.inside.places.items in
    let qs = c.arrange.new.places in
    let order : IsPermutation ps qs = subst (λ xs. IsPermutation xs qs) c.as_mut_slice.ensures.value c.arrange.ensures.order in
    let moved = subst (λ xs. IsPermutation xs (rows_of_places qs)) c.self.view_is (rows_moved ps qs order c.self.invariant.rows) in
    subst (λ xs. IsPermutation c.args.self.now (rows_of_places xs)) (sym (refilled ps qs order)) moved
