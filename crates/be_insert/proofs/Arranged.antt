-- A node whose leaf has its rows in another order.
use Rattle.std.proofs.Common.{◌≡◌, Bool, true, not, leb, ◌||◌, List, [], ◌++◌, length, ◌⊎◌, inl, inr, sym, ap, ◌∙◌, subst}
use Rattle.std.specs.Prelude.{IsPermutation}
use Rattle.std.specs.List.{list_all, AllByRecursion}
use Rattle.std.proofs.lemmas.Bool.{or_cases, or_left, or_right}
use Rattle.std.proofs.lemmas.List.Sorted.{IsPermutation-append_left, IsPermutation-trans, length_permutation}
use Rattle.be_base.specs.declared.limits.TheConstants.{LEAF_ROWS}
use Rattle.be_model.specs.declared.changes.Row.{Row}
use Rattle.be_model.specs.Schemas.{Attributes}
use Rattle.be_shape.specs.Plain.{Plain, node, rows_below, leaf_of, rows_in_parts, rows_in_half}
use Rattle.be_shape.specs.Shape.{Known, is_stuck, spans_inside, may_stand}
use Rattle.be_shape.specs.Children.{children, with_leaf}
use Rattle.be_shape.specs.Right.{is_right_at, IsRight}
use Rattle.be_shape.proofs.Children.{levels}
use Rattle.be_shape.proofs.Placed.{is_placed_from}
use Rattle.be_shape.proofs.Levels.{passes_one, drawn_is}
use Rattle.be_shape.proofs.Lists.{all_permuted}
use Rattle.be_shape.proofs.OneLevel.{right_here, right_from}
use Rattle.be_shape.proofs.NodeSteps.{IsBelow, placed_by, settled_is}
use Rattle.be_shape.proofs.LeafSteps.{same_placed, same_drawn, same_pruned, same_children, same_leaf}

-- the rows below the node are in another order
pub rows_arranged : (n : Plain) (leaf : List Row) → IsPermutation (leaf_of n) leaf → IsPermutation (rows_below n) (rows_below (with_leaf leaf n))
rows_arranged (node rows parts low high) leaf h =
    let p = rows_in_parts parts in
    let l = rows_in_half low in
    let u = rows_in_half high in
    IsPermutation-append_left u (rows ++ p ++ l) (leaf ++ p ++ l)
    (IsPermutation-append_left l (rows ++ p) (leaf ++ p) (IsPermutation-append_left p rows leaf h))

-- few rows stay few, and stuck rows stay stuck
few_or_stuck : (rows leaf : List Row) (stuck : Row → Bool) → IsPermutation rows leaf
    → (leb (length rows) LEAF_ROWS || list_all stuck rows) ≡ true → (leb (length leaf) LEAF_ROWS || list_all stuck leaf) ≡ true
few_or_stuck rows leaf stuck h t =
    by_case (or_cases (leb (length rows) LEAF_ROWS) (list_all stuck rows) t)
  where
    by_case : (leb (length rows) LEAF_ROWS ≡ true) ⊎ (list_all stuck rows ≡ true) → (leb (length leaf) LEAF_ROWS || list_all stuck leaf) ≡ true
    by_case (inl few) =
        or_left (leb (length leaf) LEAF_ROWS) (list_all stuck leaf) (ap (λ m. leb m LEAF_ROWS) (length_permutation rows leaf h) ∙ few)
    by_case (inr all) =
        or_right (leb (length leaf) LEAF_ROWS) (list_all stuck leaf) (all_permuted stuck rows leaf h all)

-- the node is still right
pub arranged_right : (s : Attributes) (k : Known) (n : Plain) (leaf : List Row) → IsPermutation (leaf_of n) leaf
    → IsRight s k n → IsRight s k (with_leaf leaf n)
arranged_right s k n leaf h t =
    let w = with_leaf leaf n in
    let v = levels (is_right_at s) s k n t.right in
    let here = right_here s k n v.here in
    let pl = placed_by s k n here.0 v.children in
    let stay = λ (q : Row → Bool). all_permuted q (rows_below n) (rows_below w) (rows_arranged n leaf h) in
    let drawn = λ (z : Row). not (passes_one s k (children n) z) in
    let undrawn = all_permuted drawn (leaf_of n) leaf h (sym (drawn_is s k n) ∙ here.1) in
    let placed = is_placed_from s k w (same_placed s k leaf n pl (stay (spans_inside s k.range) pl.inside)) in
    let few = few_or_stuck (leaf_of n) leaf (is_stuck s k) h (sym (settled_is s k n) ∙ here.3) in
    let settled = settled_is s k w ∙ ap (λ q. leb (length q) LEAF_ROWS || list_all (is_stuck s k) q) (same_leaf leaf n) ∙ few in
    record {
      right = right_from s k w placed (same_drawn s k leaf n undrawn) (same_pruned k leaf n ∙ here.2) settled
          (subst (AllByRecursion (IsBelow s k)) (sym (same_children leaf n)) v.children);
      may = stay (may_stand s) t.may;
    }

-- a node that differs from a right one in the order of its leaf's rows alone is right
pub still_right : (s : Attributes) (k : Known) (n m : Plain) → IsPermutation (leaf_of n) (leaf_of m) → m ≡ with_leaf (leaf_of m) n
    → IsRight s k n → IsRight s k m
still_right s k n m h is t = subst (IsRight s k) (sym is) (arranged_right s k n (leaf_of m) h t)

-- and the same rows are below it
pub put_arranged : (rows : List Row) (n m : Plain) → IsPermutation (leaf_of n) (leaf_of m) → m ≡ with_leaf (leaf_of m) n
    → IsPermutation rows (rows_below n ++ []) → IsPermutation rows (rows_below m ++ [])
put_arranged rows n m h is put =
    let moved = subst (λ w. IsPermutation (rows_below n) (rows_below w)) (sym is) (rows_arranged n (leaf_of m) h) in
    IsPermutation-trans rows (rows_below n ++ []) (rows_below m ++ []) put (IsPermutation-append_left [] (rows_below n) (rows_below m) moved)
