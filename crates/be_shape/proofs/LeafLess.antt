-- A node whose leaf has a row less.
use Rattle.std.proofs.Common.{◌≡◌, Bool, true, not, leb, ◌||◌, List, ◌∷◌, ◌++◌, length, ◌⊎◌, inl, inr, sym, ap, ◌∙◌, subst, arith}
use Rattle.std.specs.Prelude.{IsPermutation}
use Rattle.std.specs.List.{list_all, AllByRecursion}
use Rattle.std.proofs.lemmas.Bool.{and_parts, or_cases, or_left, or_right, leb-true, le-leb}
use Rattle.std.proofs.lemmas.List.Sorted.{IsPermutation-append_left, length_permutation}
use Rattle.be_base.specs.declared.limits.TheConstants.{LEAF_ROWS}
use Rattle.be_model.specs.declared.changes.Row.{Row}
use Rattle.be_model.specs.Schemas.{Attributes}
use Rattle.be_shape.specs.Plain.{Plain, node, rows_below, leaf_of, rows_in_parts, rows_in_half}
use Rattle.be_shape.specs.Shape.{Known, is_stuck, spans_inside, may_stand}
use Rattle.be_shape.specs.Children.{children, with_leaf}
use Rattle.be_shape.specs.Right.{is_right_at, IsRight}
use Rattle.be_shape.proofs.Children.{levels}
use Rattle.be_shape.proofs.Placed.{is_placed_from}
use Rattle.be_shape.proofs.Levels.{passes_one, drawn_is}
use Rattle.be_shape.proofs.Lists.{all_permuted}
use Rattle.be_shape.proofs.OneLevel.{right_here, right_from}
use Rattle.be_shape.proofs.NodeSteps.{IsBelow, placed_by, settled_is}
use Rattle.be_shape.proofs.LeafSteps.{same_placed, same_drawn, same_pruned, same_children, same_leaf}

-- the rows below the node: this one less
pub leaf_gone : (n : Plain) (leaf : List Row) (row : Row) → IsPermutation (leaf_of n) (row ∷ leaf) → IsPermutation (rows_below n) (row ∷ rows_below (with_leaf leaf n))
leaf_gone (node rows parts low high) leaf row h =
    let p = rows_in_parts parts in
    let l = rows_in_half low in
    let u = rows_in_half high in
    IsPermutation-append_left u (rows ++ p ++ l) (row ∷ leaf ++ p ++ l) (IsPermutation-append_left l (rows ++ p) (row ∷ leaf ++ p) (IsPermutation-append_left p rows (row ∷ leaf) h))

fewer : (rows leaf : List Row) (row : Row) (stuck : Row → Bool) → IsPermutation rows (row ∷ leaf) → (leb (length rows) LEAF_ROWS || list_all stuck rows) ≡ true → (leb (length leaf) LEAF_ROWS || list_all stuck leaf) ≡ true
fewer rows leaf row stuck h t =
    by_case (or_cases (leb (length rows) LEAF_ROWS) (list_all stuck rows) t)
  where
    by_case : (leb (length rows) LEAF_ROWS ≡ true) ⊎ (list_all stuck rows ≡ true) → (leb (length leaf) LEAF_ROWS || list_all stuck leaf) ≡ true
    by_case (inl few) =
        let n = length_permutation rows (row ∷ leaf) h in
        let l = leb-true (length rows) LEAF_ROWS few in
        or_left (leb (length leaf) LEAF_ROWS) (list_all stuck leaf) (le-leb (length leaf) LEAF_ROWS (omega arith))
    by_case (inr all) =
        or_right (leb (length leaf) LEAF_ROWS) (list_all stuck leaf) (and_parts (stuck row) (list_all stuck leaf) (all_permuted stuck rows (row ∷ leaf) h all)).1

-- the node is still right
pub leaf_right : (s : Attributes) (k : Known) (n : Plain) (leaf : List Row) (row : Row) → IsPermutation (leaf_of n) (row ∷ leaf) → IsRight s k n → IsRight s k (with_leaf leaf n)
leaf_right s k n leaf row h t =
    let w = with_leaf leaf n in
    let v = levels (is_right_at s) s k n t.right in
    let here = right_here s k n v.here in
    let pl = placed_by s k n here.0 v.children in
    let stay = λ (q : Row → Bool) (u : list_all q (rows_below n) ≡ true). (and_parts (q row) (list_all q (rows_below w)) (all_permuted q (rows_below n) (row ∷ rows_below w) (leaf_gone n leaf row h) u)).1 in
    let drawn = λ (z : Row). not (passes_one s k (children n) z) in
    record {
      right = right_from s k w (is_placed_from s k w (same_placed s k leaf n pl (stay (spans_inside s k.range) pl.inside))) (same_drawn s k leaf n (and_parts (drawn row) (list_all drawn leaf) (all_permuted drawn (leaf_of n) (row ∷ leaf) h (sym (drawn_is s k n) ∙ here.1))).1) (same_pruned k leaf n ∙ here.2)
          (settled_is s k w ∙ ap (λ q. leb (length q) LEAF_ROWS || list_all (is_stuck s k) q) (same_leaf leaf n) ∙ fewer (leaf_of n) leaf row (is_stuck s k) h (sym (settled_is s k n) ∙ here.3))
          (subst (AllByRecursion (IsBelow s k)) (sym (same_children leaf n)) v.children);
      may = stay (may_stand s) t.may;
    }
