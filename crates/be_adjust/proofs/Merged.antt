-- A merge: where it stands, and what it leaves.
use Rattle.std.proofs.Common.{◌≡◌, ◌≤◌, ◌+◌, ℕ, suc, Bool, true, false, not, cond, eqb, leb, ◌&&◌, List, [], ◌∷◌, ◌++◌, length, Option, None, Some, option_map, refl, sym, ap, ◌∙◌, subst, arith, length-append}
use Rattle.std.specs.Prelude.{IsPermutation}
use Rattle.std.specs.List.{list_all, remove, flat_map, AllByRecursion}
use Rattle.std.specs.Arc.{arc_value}
use Rattle.std.proofs.lemmas.Bool.{and_parts, and_from, eqb-true, leb-true, le-leb, or_left, not-true, not_from_false, or_parts, or_from}
use Rattle.std.proofs.lemmas.List.{append_assoc}
use Rattle.std.proofs.lemmas.List.Folds.{list_any-append}
use Rattle.std.proofs.lemmas.List.Sorted.{IsPermutation-trans}
use Rattle.be_base.specs.declared.limits.TheConstants.{LEAF_ROWS, MERGE_ROWS}
use Rattle.be_base.specs.declared.names.AttrNo.{AttrNo}
use Rattle.be_model.specs.declared.changes.Row.{Row}
use Rattle.be_model.specs.declared.paths.Hop.{Hop}
use Rattle.be_model.specs.declared.paths.Hop.TheVariants.{Part, Low, High}
use Rattle.be_model.specs.Forms.{attrs_rise}
use Rattle.be_model.specs.Schemas.{Attributes, numbered}
use Rattle.be_shape.specs.declared.nodes.Part.{Part as PartOf}
use Rattle.be_shape.specs.declared.trees.Tree.{Tree}
use Rattle.be_shape.specs.Plain.{Plain, plain, node, Parts, no_part, part, no_half, half, parts_as, part_as, rows_below, leaf_of, parts_under}
use Rattle.be_shape.specs.Shape.{Known, nothing, is_stuck, spans_inside, may_stand, attrs_of}
use Rattle.be_shape.specs.Children.{roots_of, root_of, children, is_open, may_pass, with_leaf}
use Rattle.be_shape.specs.Paths.{part_on, child, walk}
use Rattle.be_shape.specs.Right.{is_right_at, IsRight}
use Rattle.be_shape.specs.NodeList.{known_along}
use Rattle.be_shape.specs.Steps.{rows_at, rows_of_node, without_part, without_child, may_merge, can_merge, merged, front, last, can_merge_at, merged_at, at_end, changed_at}
use Rattle.be_shape.specs.Swaps.{place_on}
use Rattle.be_shape.proofs.Children.{Each-from_test, test_from_Each, levels, rows_of, rows_are}
use Rattle.be_shape.proofs.Placed.{is_placed_from}
use Rattle.be_shape.proofs.Levels.{holds_rows, pruned_is, passes_one, drawn_is}
use Rattle.be_shape.proofs.Lists.{all_permuted, all_back, all_both, swap_last}
use Rattle.be_shape.proofs.OneLevel.{Each-without, others, child_last, right_here, right_from}
use Rattle.be_shape.proofs.NodeSteps.{IsBelow, placed_by, settled_is, leaf_children, leaf_parts, leaf_leaf}
use Rattle.be_shape.proofs.Among.{behind_parts}
use Rattle.be_shape.proofs.Replacements.{Reshaped, one_other}
use Rattle.be_shape.proofs.Reshaping.{SameRows, right_at, reshaped_at, ended, changed_is}
use Rattle.be_adjust.specs.Fits.{stays, HasRows, MayMerge}
use Rattle.be_adjust.proofs.Others.{rise_without}

-- the rows below a child are rows of the node
pub child_may : (q : Row → Bool) (hop : Hop) (n m : Plain) → child hop n ≡ Some m → list_all q (rows_below n) ≡ true → list_all q (rows_below m) ≡ true
child_may q hop n m h t =
    let x = one_other hop n m m h in
    all_back q (others (leaf_of n) x.before x.after) (rows_below m) (all_permuted q (rows_below n) (others (leaf_of n) x.before x.after ++ rows_below m) (child_last n x.before x.after (hop, m) x.was) t)

-- a child taken off
pub none_off : (parts : Parts) (a : AttrNo) → part_on a parts ≡ None → without_part a parts ≡ parts
none_off no_part a h = refl
none_off (part b root more) a h = by_test (eqb b.0 a.0) h (none_off more a)
  where
    by_test : (t : Bool) → cond t (Some root) (part_on a more) ≡ None → (part_on a more ≡ None → without_part a more ≡ more) → cond t more (part b root (without_part a more)) ≡ part b root more
    by_test true e f = absurd (cc)
    by_test false e f = ap (part b root) (f e)

pub part_off : (ps : List PartOf) (i : ℕ) (a : AttrNo) → place_on a (parts_as ps) ≡ Some i → parts_as (remove ps i) ≡ without_part a (parts_as ps)
part_off [] i a h = absurd (cc)
part_off (r ∷ ps) i a h = by_test (eqb (part_as r).0.0 a.0) h (λ j e. part_off ps j a e)
  where
    less : (o : Option ℕ) → option_map (λ j. j + 1) o ≡ Some i → (j : ℕ) × (o ≡ Some j) × (i ≡ suc j)
    less None e = absurd (cc)
    less (Some j) e = let same : j + 1 ≡ i = cc in (j, refl, omega (arith, same))

    by_test : (t : Bool) → cond t (Some 0) (option_map (λ j. j + 1) (place_on a (parts_as ps))) ≡ Some i → ((j : ℕ) → place_on a (parts_as ps) ≡ Some j → parts_as (remove ps j) ≡ without_part a (parts_as ps))
        → parts_as (remove (r ∷ ps) i) ≡ cond t (parts_as ps) (part (part_as r).0 (part_as r).1 (without_part a (parts_as ps)))
    by_test true e f = let z : 0 ≡ i = cc in ap (λ j. parts_as (remove (r ∷ ps) j)) (sym z)
    by_test false e f =
        let l = less (place_on a (parts_as ps)) e in
        ap (λ j. parts_as (remove (r ∷ ps) j)) l.2 ∙ ap (part (part_as r).0 (part_as r).1) (f l.0 l.1)

-- a node without one of its children
record OneOff (n m : Plain) (hop : Hop) : Type 0 where
  before : List (Hop × Plain)
  after : List (Hop × Plain)
  was : children n ≡ before ++ (hop, m) ∷ after
  is : children (without_child hop n) ≡ before ++ after
  rise : attrs_rise (attrs_of (parts_under n)) ≡ true → attrs_rise (attrs_of (parts_under (without_child hop n))) ≡ true

record PartOff (parts : Parts) (a : AttrNo) (m : Plain) : Type 0 where
  before : List (Hop × Plain)
  after : List (Hop × Plain)
  was : roots_of parts ≡ before ++ (Part a, m) ∷ after
  is : roots_of (without_part a parts) ≡ before ++ after

one_part_off : (parts : Parts) (a : AttrNo) (m : Plain) → part_on a parts ≡ Some m → PartOff parts a m
one_part_off no_part a m h = absurd (cc)
one_part_off (part b root more) a m h = by_test (eqb b.0 a.0) refl h (λ e. one_part_off more a m e)
  where
    by_test : (t : Bool) → eqb b.0 a.0 ≡ t → cond t (Some root) (part_on a more) ≡ Some m → (part_on a more ≡ Some m → PartOff more a m) → PartOff (part b root more) a m
    by_test true e k f =
        let is_root : root ≡ m = cc in
        let is_attr : b ≡ a = ap (λ i. numbered i) (eqb-true b.0 a.0 e) in
        record {
          before = [];
          after = roots_of more;
          was = ap (λ x. (Part b, x) ∷ roots_of more) is_root ∙ ap (λ c. (Part c, m) ∷ roots_of more) is_attr;
          is = ap (λ c. roots_of (cond c more (part b root (without_part a more)))) e;
        }
    by_test false e k f =
        let r = f k in
        record {
          before = (Part b, root) ∷ r.before;
          after = r.after;
          was = ap (λ l. (Part b, root) ∷ l) r.was;
          is = ap (λ c. roots_of (cond c more (part b root (without_part a more)))) e ∙ ap (λ l. (Part b, root) ∷ l) r.is;
        }

one_off : (hop : Hop) (n m : Plain) → child hop n ≡ Some m → OneOff n m hop
one_off (Part a) (node rows parts low high) m h =
    let r = one_part_off parts a m h in
    let l = root_of Low low in
    let u = root_of High high in
    record {
      before = r.before;
      after = r.after ++ l ++ u;
      was = behind_parts (roots_of parts) r.before r.after (Part a, m) l u r.was;
      is = ap (λ q. q ++ l ++ u) r.is ∙ ap (λ q. q ++ u) (append_assoc r.before r.after l) ∙ append_assoc r.before (r.after ++ l) u;
      rise = rise_without a parts;
    }
one_off Low (node rows parts no_half high) m h = absurd (cc)
one_off Low (node rows parts (half x) high) m h =
    let e : x ≡ m = cc in
    record {
      before = roots_of parts;
      after = root_of High high;
      was = append_assoc (roots_of parts) ((Low, x) ∷ []) (root_of High high) ∙ ap (λ y. roots_of parts ++ (Low, y) ∷ root_of High high) e;
      is = append_assoc (roots_of parts) [] (root_of High high);
      rise = λ t. t;
    }
one_off High (node rows parts low no_half) m h = absurd (cc)
one_off High (node rows parts low (half x)) m h =
    let e : x ≡ m = cc in
    record {
      before = roots_of parts ++ root_of Low low;
      after = [];
      was = ap (λ y. (roots_of parts ++ root_of Low low) ++ (High, y) ∷ []) e;
      is = refl;
      rise = λ t. t;
    }

-- rows that pass no child pass none of fewer
passes_fewer : (s : Attributes) (k : Known) (before after : List (Hop × Plain)) (x : Hop × Plain) (rows : List Row) → list_all (λ row. not (passes_one s k (before ++ x ∷ after) row)) rows ≡ true → list_all (λ row. not (passes_one s k (before ++ after) row)) rows ≡ true
passes_fewer s k before after x [] h = refl
passes_fewer s k before after x (row ∷ rows) h =
    let f = λ (y : Hop × Plain). may_pass s y.0 k.range row in
    let a = and_parts (not (passes_one s k (before ++ x ∷ after) row)) (list_all (λ r. not (passes_one s k (before ++ x ∷ after) r)) rows) h in
    let none = not-true (passes_one s k (before ++ x ∷ after) row) a.0 in
    let b = or_parts _ _ (sym (list_any-append f before (x ∷ after)) ∙ none) in
    let c = or_parts (f x) _ b.1 in
    and_from (not (passes_one s k (before ++ after) row)) (list_all (λ r. not (passes_one s k (before ++ after) r)) rows)
    (not_from_false (passes_one s k (before ++ after) row) (list_any-append f before after ∙ or_from _ _ b.0 c.1)) (passes_fewer s k before after x rows a.1)

-- what it says that the merge stands
pub record Stands (s : Attributes) (hop : Hop) (k : Known) (n : Plain) : Type 0 where
  pub below : Plain
  pub there : child hop n ≡ Some below
  pub room : length (rows_below below) + length (leaf_of n) ≤ LEAF_ROWS
  pub stay : list_all (stays s hop k.range n) (rows_below below) ≡ true

pub stands : (s : Attributes) (hop : Hop) (k : Known) (n : Plain) → can_merge s hop k n ≡ true → Stands s hop k n
stands s hop k n h = by_child (child hop n) refl h
  where
    by_child : (o : Option Plain) → child hop n ≡ o → may_merge s hop k n o ≡ true → Stands s hop k n
    by_child None e t = absurd (cc)
    by_child (Some m) e t =
        let a = and_parts (leb (length (rows_below m)) MERGE_ROWS && leb (length (rows_below m) + length (leaf_of n)) LEAF_ROWS) (list_all (stays s hop k.range n) (rows_below m)) t in
        let b = and_parts (leb (length (rows_below m)) MERGE_ROWS) (leb (length (rows_below m) + length (leaf_of n)) LEAF_ROWS) a.0 in
        record { below = m; there = e; room = leb-true (length (rows_below m) + length (leaf_of n)) LEAF_ROWS b.1; stay = a.1 }

-- what it leaves
pub merge_reshaped : (s : Attributes) (hop : Hop) (k : Known) (n : Plain) → IsRight s k n → can_merge s hop k n ≡ true → Reshaped s k n (merged hop n)
merge_reshaped s hop k n r h =
    let z = stands s hop k n h in
    let m = z.below in
    let x = one_off hop n m z.there in
    let l = levels (is_right_at s) s k n r.right in
    let here = right_here s k n l.here in
    let pl = placed_by s k n here.0 l.children in
    let leaf = leaf_of n in
    let o = without_child hop n in
    let rows = rows_at hop n in
    let is_rows : rows ≡ rows_below m = ap rows_of_node z.there in
    let all_leaf = leaf ++ rows in
    let w = with_leaf all_leaf o in
    let kids : children w ≡ x.before ++ x.after = leaf_children all_leaf o ∙ x.is in
    let wl : leaf_of w ≡ all_leaf = leaf_leaf all_leaf o in
    let f = flat_map rows_of (x.before ++ x.after) in
    let is_w : rows_below w ≡ all_leaf ++ f = rows_are w ∙ ap (λ q. q ++ flat_map rows_of (children w)) wl ∙ ap (λ q. all_leaf ++ flat_map rows_of q) kids in
    let same : IsPermutation (rows_below n) (rows_below w) =
    subst (IsPermutation (rows_below n)) (sym is_w) (IsPermutation-trans (rows_below n) (leaf ++ f ++ rows) (all_leaf ++ f)
    (subst (λ q. IsPermutation (rows_below n) (leaf ++ f ++ q)) (sym is_rows) (child_last n x.before x.after (hop, m) x.was)) (swap_last leaf f rows)) in
    let held = λ (q : Row → Bool) (t : list_all q (rows_below n) ≡ true). all_permuted q (rows_below n) (rows_below w) same t in
    let fewer = λ (P : Hop × Plain → Type 0) (each : AllByRecursion P (children n)). subst (AllByRecursion P) (sym kids) (Each-without P x.before x.after (hop, m) (subst (AllByRecursion P) x.was each)) in
    let drawn_leaf = passes_fewer s k x.before x.after (hop, m) leaf (ap (λ q. list_all (λ row. not (passes_one s k q row)) leaf) (sym x.was) ∙ sym (drawn_is s k n) ∙ here.1) in
    let drawn_rows : list_all (λ row. not (passes_one s k (x.before ++ x.after) row)) rows ≡ true =
    ap (λ q. list_all (λ row. not (passes_one s k q row)) rows) (sym x.is) ∙ ap (list_all (λ row. not (passes_one s k (children o) row))) is_rows ∙ z.stay in
    record {
      right = record {
        right = right_from s k w
            (is_placed_from s k w (record {
              rise = ap (λ q. attrs_rise (attrs_of q)) (leaf_parts all_leaf o) ∙ x.rise pl.rise;
              inside = held (spans_inside s k.range) pl.inside;
              open_steps = fewer (λ (y : Hop × Plain). is_open y.0 k ≡ true) pl.open_steps;
              pass = fewer (λ (y : Hop × Plain). list_all (may_pass s y.0 k.range) (rows_below y.1) ≡ true) pl.pass;
            }))
            (drawn_is s k w ∙ ap (λ q. list_all (λ row. not (passes_one s k (children w) row)) q) wl ∙ ap (λ q. list_all (λ row. not (passes_one s k q row)) all_leaf) kids ∙ all_both (λ row. not (passes_one s k (x.before ++ x.after) row)) leaf rows drawn_leaf drawn_rows)
            (pruned_is k w ∙ test_from_Each holds_rows (children w) (fewer (λ (y : Hop × Plain). holds_rows y ≡ true) (Each-from_test holds_rows (children n) (sym (pruned_is k n) ∙ here.2))))
            (settled_is s k w ∙ or_left (leb (length (leaf_of w)) LEAF_ROWS) (list_all (is_stuck s k) (leaf_of w)) (le-leb (length (leaf_of w)) LEAF_ROWS (omega (arith, z.room, ap length wl, length-append leaf rows, ap length is_rows))))
            (fewer (IsBelow s k) l.children);
        may = held (may_stand s) r.may;
      };
      same = same;
    }

-- the tree after the merge
pub may_merge_at : (s : Attributes) (hops : List Hop) (last : Hop) (n : Plain) → at_end (can_merge s last) s hops n ≡ true → MayMerge last (walk hops n)
may_merge_at s hops last n h =
    let e = ended (can_merge s last) s hops n h in
    let z = stands s last (known_along s hops nothing) e.here e.passes in
    subst (MayMerge last) (sym e.there) (subst (HasRows last e.here) (sym z.there) (omega (arith, z.room)))

pub merge_rows : (t : Tree) (hops : List Hop) (last : Hop) (w : Plain) → at_end (can_merge (arc_value t.schema) last) (arc_value t.schema) hops (plain t.root) ≡ true → w ≡ changed_at (λ k n. merged last n) (arc_value t.schema) hops (plain t.root)
    → SameRows (arc_value t.schema) (plain t.root) w
merge_rows t hops last w h done =
    let s = arc_value t.schema in
    let n = plain t.root in
    let e = ended (can_merge s last) s hops n h in
    reshaped_at t hops e.here (merged last e.here) w e.there (merge_reshaped s last (known_along s hops nothing) e.here (right_at t hops e.here e.there) e.passes) (done ∙ changed_is (λ k m. merged last m) s hops n e.here e.there)

-- a path by its last step and those before it
last_is : (h x : Hop) (rest : List Hop) → last h (rest ++ x ∷ []) ≡ x
last_is h x [] = refl
last_is h x (g ∷ rest) = last_is g x rest

front_is : (h x : Hop) (rest : List Hop) → front h (rest ++ x ∷ []) ≡ h ∷ rest
front_is h x [] = refl
front_is h x (g ∷ rest) = ap (λ l. h ∷ l) (front_is g x rest)

pub stands_last : (s : Attributes) (path rest : List Hop) (x : Hop) (n : Plain) → path ≡ rest ++ x ∷ [] → can_merge_at s path n ≡ at_end (can_merge s x) s rest n
stands_last s path rest x n e = ap (λ p. can_merge_at s p n) e ∙ by_rest rest
  where
    by_rest : (r : List Hop) → can_merge_at s (r ++ x ∷ []) n ≡ at_end (can_merge s x) s r n
    by_rest [] = refl
    by_rest (h ∷ r) =
        ap (λ y. at_end (can_merge s y) s (front h (r ++ x ∷ [])) n) (last_is h x r) ∙ ap (λ p. at_end (can_merge s x) s p n) (front_is h x r)

pub merged_last : (s : Attributes) (path rest : List Hop) (x : Hop) (n : Plain) → path ≡ rest ++ x ∷ [] → merged_at s path n ≡ changed_at (λ k m. merged x m) s rest n
merged_last s path rest x n e = ap (λ p. merged_at s p n) e ∙ by_rest rest
  where
    by_rest : (r : List Hop) → merged_at s (r ++ x ∷ []) n ≡ changed_at (λ k m. merged x m) s r n
    by_rest [] = refl
    by_rest (h ∷ r) =
        ap (λ y. changed_at (λ k m. merged y m) s (front h (r ++ x ∷ [])) n) (last_is h x r) ∙ ap (λ p. changed_at (λ k m. merged x m) s p n) (front_is h x r)

-- a node that may be merged is there
pub merge_there : (hop : Hop) (o : Option Plain) → MayMerge hop o → (m : Plain) × (o ≡ Some m) × HasRows hop m (child hop m)
merge_there hop None h = absurd h
merge_there hop (Some m) h = (m, refl, h)
