-- A split made as a step: where it stands, and what it leaves.
use Rattle.std.proofs.Common.{◌≡◌, ◌≤◌, ◌+◌, ℕ, Bool, true, false, not, leb, ltb, ◌&&◌, ◌||◌, List, [], length, Option, None, Some, Result, Ok, Err, OnOk, OnErr, refl, sym, ap, ◌∙◌, subst, arith, length-append}
use Rattle.std.specs.Prelude.{IsPermutation}
use Rattle.std.specs.List.{list_all, list_any, filter, count_by}
use Rattle.std.proofs.lemmas.Bool.{and_parts, not-true, or_left, leb-true, le-leb, ltb-true, ltb-false}
use Rattle.std.proofs.lemmas.List.{append-nil}
use Rattle.std.specs.Arc.{arc_value}
use Rattle.be_base.specs.declared.limits.TheConstants.{LEAF_ROWS}
use Rattle.be_base.specs.declared.names.AttrNo.{AttrNo}
use Rattle.be_model.specs.declared.changes.Row.{Row}
use Rattle.be_model.specs.declared.paths.Hop.{Hop}
use Rattle.be_model.specs.declared.paths.Hop.TheVariants.{Part}
use Rattle.be_model.specs.Schemas.{Attributes, IsSchema}
use Rattle.be_shape.specs.declared.trees.Tree.{Tree}
use Rattle.be_shape.specs.Plain.{Plain, plain, node, no_part, no_half, rows_below, leaf_of, contents}
use Rattle.be_shape.specs.Shape.{Known, nothing, is_stuck}
use Rattle.be_shape.specs.Children.{known_below, is_open, may_pass}
use Rattle.be_shape.specs.NodeList.{known_along}
use Rattle.be_shape.specs.Paths.{child, is_used_on}
use Rattle.be_shape.specs.Right.{is_right_at, IsRight}
use Rattle.be_shape.specs.Steps.{is_node, at_end, can_split_off, split_off, changed_at}
use Rattle.be_shape.proofs.Children.{test_from_Each, levels, below}
use Rattle.be_shape.proofs.Lists.{filter_some, filter_empty, lengths}
use Rattle.be_shape.proofs.LeafSteps.{stuck_stay}
use Rattle.be_shape.proofs.NodeSteps.{settled_is}
use Rattle.be_shape.proofs.OneLevel.{right_here}
use Rattle.be_shape.proofs.Replacements.{Reshaped, used_known}
use Rattle.be_shape.proofs.RootPut.{IsRoot}
use Rattle.be_shape.proofs.Roots.{root_of}
use Rattle.be_shape.proofs.Reshaping.{SameRows, right_at, reshaped_at, ended, changed_is}
use Rattle.be_insert.specs.Filled.{IsFilled}
use Rattle.be_insert.proofs.AtPlaces.{settled_few}
use Rattle.be_insert.proofs.Choices.{counted, none_counted}
use Rattle.be_insert.proofs.Settled.{ready, stays_settled, after_split}

-- a step to a part may be made where its attribute isn't used on the path
pub open_along : (s : Attributes) (hops : List Hop) (a : AttrNo) → not (is_used_on hops a) ≡ is_open (Part a) (known_along s hops nothing)
open_along s hops a = ap not (or_false (is_used_on hops a) ∙ sym (used_known s hops nothing a))
  where
    or_false : (b : Bool) → b ≡ (b || false)
    or_false true = refl
    or_false false = refl

-- some row passes where more than none are counted
pub some_counted : (p : Row → Bool) (rows : List Row) (n : ℕ) → n ≡ count_by p rows → ltb 0 n ≡ list_any p rows
some_counted p rows n e = by_test (ltb 0 n) refl
  where
    by_test : (b : Bool) → ltb 0 n ≡ b → b ≡ list_any p rows
    by_test true t = sym (counted p rows (let l = ltb-true 0 n t in omega (arith, e)))
    by_test false t = sym (none_counted p rows (let l = ltb-false 0 n t in omega (arith, e)))

-- no more rows are moved than there are
pub fewer_moved : (p : Row → Bool) (rows : List Row) → length (filter p rows) ≤ length rows
fewer_moved p rows = omega (arith, lengths p rows, length-append (filter p rows) (filter (λ x. not (p x)) rows))

-- what it says that the split stands
pub record Stands (s : Attributes) (k : Known) (n : Plain) (hop : Hop) : Type 0 where
  pub open_step : is_open hop k ≡ true
  pub gone : child hop n ≡ None
  pub some : list_any (may_pass s hop k.range) (leaf_of n) ≡ true
  pub few : length (leaf_of n) ≤ LEAF_ROWS

few_leaf : (s : Attributes) (k : Known) (hop : Hop) (leaf : List Row) → (leb (length leaf) LEAF_ROWS || list_all (is_stuck s k) leaf) ≡ true → is_open hop k ≡ true → list_any (may_pass s hop k.range) leaf ≡ true → length leaf ≤ LEAF_ROWS
few_leaf s k hop leaf h o some = by_test (leb (length leaf) LEAF_ROWS) refl h
  where
    by_test : (b : Bool) → leb (length leaf) LEAF_ROWS ≡ b → (b || list_all (is_stuck s k) leaf) ≡ true → length leaf ≤ LEAF_ROWS
    by_test true e t = leb-true (length leaf) LEAF_ROWS e
    by_test false e t =
        let none = filter_empty (may_pass s hop k.range) leaf (stuck_stay s hop k leaf t o) in
        absurd (omega (arith, filter_some (may_pass s hop k.range) leaf some, ap length none))

pub stands : (s : Attributes) (k : Known) (n : Plain) (hop : Hop) → IsRight s k n → can_split_off s hop k n ≡ true → Stands s k n hop
stands s k n hop r h =
    let a = and_parts (is_open hop k && not (is_node (child hop n))) (list_any (may_pass s hop k.range) (leaf_of n)) h in
    let b = and_parts (is_open hop k) (not (is_node (child hop n))) a.0 in
    let here = right_here s k n (levels (is_right_at s) s k n r.right).here in
    record {
      open_step = b.0;
      gone = none (child hop n) (not-true (is_node (child hop n)) b.1);
      some = a.1;
      few = few_leaf s k hop (leaf_of n) (sym (settled_is s k n) ∙ here.3) b.0 a.1;
    }
  where
    none : (o : Option Plain) → is_node o ≡ false → o ≡ None
    none None e = refl
    none (Some m) e = absurd (cc)

-- what it leaves
pub split_reshaped : (s : Attributes) (k : Known) (n : Plain) (hop : Hop) → IsSchema s → IsRight s k n → can_split_off s hop k n ≡ true → Reshaped s k n (split_off s hop k n)
split_reshaped s k n hop form r h =
    let p = may_pass s hop k.range in
    let leaf = leaf_of n in
    let z = stands s k n hop r h in
    let l = levels (is_right_at s) s k n r.right in
    let here = right_here s k n l.here in
    let moved = fewer_moved p leaf in
    let f : IsFilled s k n =
    record {
      placed = here.0;
      drawn = here.1;
      pruned = here.2;
      below = test_from_Each (below (is_right_at s) s k) _ l.children;
      may = r.may;
      some = omega (arith, filter_some p leaf z.some, moved);
      filled = or_left (leb (length leaf) (LEAF_ROWS + 1)) _ (le-leb (length leaf) (LEAF_ROWS + 1) (omega (arith, z.few)));
    } in
    let y = ready s k n hop form f z.open_step z.some in
    let m = node (filter p leaf) no_part no_half no_half in
    let d = stays_settled s (known_below s hop k) m y.filled (settled_few s (known_below s hop k) (filter p leaf) (omega (arith, moved, z.few))) in
    let w = after_split s k n m hop [] f z.open_step y d.right d.same refl in
    record { right = w.right; same = subst (IsPermutation (rows_below n)) (append-nil (rows_below (split_off s hop k n))) w.same }

-- the tree after the split
pub split_rows : {A B : Type 0} (t : Tree) (hops : List Hop) (hop : Hop) (w : Plain) (result : Result A B) → IsSchema (arc_value t.schema) → at_end (can_split_off (arc_value t.schema) hop) (arc_value t.schema) hops (plain t.root) ≡ true
    → OnOk result (w ≡ changed_at (split_off (arc_value t.schema) hop) (arc_value t.schema) hops (plain t.root)) → OnErr result (w ≡ plain t.root) → SameRows (arc_value t.schema) (plain t.root) w
split_rows t hops hop w (Ok x) form h done same =
    let s = arc_value t.schema in
    let n = plain t.root in
    let e = ended (can_split_off s hop) s hops n h in
    reshaped_at t hops e.here (split_off s hop (known_along s hops nothing) e.here) w e.there (split_reshaped s (known_along s hops nothing) e.here hop form (right_at t hops e.here e.there) e.passes) (done ∙ changed_is (split_off s hop) s hops n e.here e.there)
split_rows t hops hop w (Err x) form h done same =
    record { root = subst (IsRoot (arc_value t.schema)) (sym same) (root_of t); contents = ap contents same }
