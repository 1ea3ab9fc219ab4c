-- The first steps at a node that stand.
use Rattle.std.proofs.Common.{◌≡◌, ℕ, eqb, Bool, true, false, true≢false, not, cond, ◌&&◌, List, [], ◌∷◌, ◌++◌, Option, Some, None, option_map, refl, sym, ap, ◌∙◌}
use Rattle.std.specs.Prelude.{map, filter}
use Rattle.std.specs.Option.{option_or, option_to_list}
use Rattle.std.specs.List.{list_all, list_any, find, flat_map, AllByRecursion}
use Rattle.std.proofs.lemmas.Bool.{and_parts, and_from, or_left, or_right, or_from, not_from_false, not-true, eq-eqb, ne_eqb}
use Rattle.std.proofs.lemmas.List.Folds.{find-append}
use Rattle.std.proofs.lemmas.List.Sorted.{list_any-IsPermutation}
use Rattle.be_base.specs.declared.names.AttrNo.{AttrNo}
use Rattle.be_base.specs.declared.names.Id.{Id}
use Rattle.be_model.specs.declared.changes.Row.{Row}
use Rattle.be_model.specs.declared.paths.Hop.{Hop}
use Rattle.be_model.specs.declared.paths.Hop.TheVariants.{Part, Low, High}
use Rattle.be_model.specs.declared.paths.Step.{Step}
use Rattle.be_model.specs.declared.paths.Step.TheVariants.{SplitPart, SplitHalf, Merge, Shift}
use Rattle.be_model.specs.Schemas.{Attributes}
use Rattle.be_model.specs.Rows.{id_of, has}
use Rattle.be_model.specs.ByIds.{by_ids, rows_of, ids_differ}
use Rattle.be_model.proofs.RowsByIds.{rows_permuted}
use Rattle.be_score.specs.Picks.{pick}
use Rattle.be_score.proofs.Picks.{picked}
use Rattle.be_shape.specs.Plain.{Plain, node, Parts, no_part, part, rows_below, leaf_of, parts_under}
use Rattle.be_shape.specs.Shape.{Known, attrs_of, can_split, is_used}
use Rattle.be_shape.specs.Paths.{child, walk}
use Rattle.be_shape.specs.Children.{roots_of, root_of, children, is_open, may_pass}
use Rattle.be_shape.specs.NodeList.{NodeAt, node_at}
use Rattle.be_shape.specs.Steps.{is_node, rows_of_node, rows_at, test_at, at_end, can_split_off, can_merge, front, last, can_merge_at, can_shift, stands}
use Rattle.be_shape.proofs.Children.{Each-weaker, Each-parts, levels}
use Rattle.be_shape.proofs.NodeList.{children_there}
use Rattle.be_shape.proofs.Among.{placed_at}
use Rattle.be_shape.proofs.Placed.{at_child}
use Rattle.be_shape.proofs.Levels.{drawn_is, passes_one}
use Rattle.be_shape.proofs.OneLevel.{right_here}
use Rattle.be_shape.specs.Right.{is_right_at, IsRight}
use Rattle.be_plan.specs.Plan.{gains, shifts_of, shifts, is_early, part_splits, half_splits}
use Rattle.be_plan.specs.Best.{IsAt, first}
use Rattle.be_plan.specs.Shifts.{gain_of, least_gain, first_shift}
use Rattle.be_plan.specs.Splits.{enough_pass, where_enough, early_part, early_half}
use Rattle.be_plan.proofs.Gains.{gain_has, gain_differs}
use Rattle.be_plan.proofs.Ids.{first_in, sorted_first}
use Rattle.be_plan.proofs.Counts.{some_pass}
use Rattle.be_plan.proofs.Places.{child_differ, leaf_lies}

-- a test of the node where the path ends
pub at_end_is : (test : Known → Plain → Bool) (s : Attributes) (root : Plain) (path : List Hop) (k : Known) (n : Plain) → IsAt s root path k n → at_end test s path root ≡ test k n
at_end_is test s root path k n a = ap (λ j. test_at test j (walk path root)) a.knows ∙ ap (test_at test k) a.there

-- Merge: the last step of a longer path
front_on : (first : Hop) (path : List Hop) (hop : Hop) → front first (path ++ hop ∷ []) ≡ first ∷ path
front_on first [] hop = refl
front_on first (next ∷ path) hop = ap (λ p. first ∷ p) (front_on next path hop)

last_on : (first : Hop) (path : List Hop) (hop : Hop) → last first (path ++ hop ∷ []) ≡ hop
last_on first [] hop = refl
last_on first (next ∷ path) hop = last_on next path hop

pub merge_is : (s : Attributes) (root : Plain) (path : List Hop) (hop : Hop) → can_merge_at s (path ++ hop ∷ []) root ≡ at_end (can_merge s hop) s path root
merge_is s root [] hop = refl
merge_is s root (first ∷ path) hop =
    ap (λ h. at_end (can_merge s h) s (front first (path ++ hop ∷ [])) root) (last_on first path hop) ∙ ap (λ p. at_end (can_merge s hop) s p root) (front_on first path hop)

pub first_merge : (s : Attributes) (root : Plain) (path : List Hop) (k : Known) (n : Plain) (hop : Hop) → IsAt s root path k n
    → first s root (Merge (path ++ hop ∷ []) ∷ []) ≡ cond (can_merge s hop k n) (Some (Merge (path ++ hop ∷ []))) None
unfolding first
first_merge s root path k n hop a =
    ap (λ b. cond b (Some (Merge (path ++ hop ∷ []))) None) (merge_is s root path hop ∙ at_end_is (can_merge s hop) s root path k n a)

-- what an element passes, one of the list does
abbrev pub In : {X : Type 0} → List X → X → Type 0
In {X} xs x = (q : X → Bool) → q x ≡ true → list_any q xs ≡ true

pub each_in : {X : Type 0} (xs : List X) → AllByRecursion (In xs) xs
each_in [] = tt
each_in (x ∷ xs) = (
  λ q e. or_left (q x) (list_any q xs) e,
  Each-weaker (In xs) (In (x ∷ xs)) (λ y h q e. or_right (q x) (list_any q xs) (h q e)) xs (each_in xs),
)

no_one : (p q : Row → Bool) (rows : List Row) → list_all (λ row. not (q row)) rows ≡ true → ((row : Row) → p row ≡ true → q row ≡ true) → list_any p rows ≡ false
no_one p q [] h f = refl
no_one p q (row ∷ rows) h f =
    let j = and_parts (not (q row)) (list_all (λ r. not (q r)) rows) h in or_from (p row) (list_any p rows) (is_false (p row) refl j.0) (no_one p q rows j.1 f)
  where
    is_false : (b : Bool) → p row ≡ b → not (q row) ≡ true → b ≡ false
    is_false true e k = absurd (true≢false (sym (f row e) ∙ not-true (q row) k))
    is_false false e k = refl

-- Split: where a row of the leaf may pass, the child isn't there
pub no_child : (s : Attributes) (k : Known) (n : Plain) (hop : Hop) → IsRight s k n → list_any (may_pass s hop k.range) (leaf_of n) ≡ true → is_node (child hop n) ≡ false
no_child s k n hop r some = by_child (child hop n) refl
  where
    drawn : list_all (λ row. not (passes_one s k (children n) row)) (leaf_of n) ≡ true
    drawn = sym (drawn_is s k n) ∙ (right_here s k n (levels (is_right_at s) s k n r.right).here).1

    passing : (m : Plain) → child hop n ≡ Some m → (row : Row) → may_pass s hop k.range row ≡ true → passes_one s k (children n) row ≡ true
    passing m e row p = at_child (In (children n)) hop n m e (each_in (children n)) (λ (x : Hop × Plain). may_pass s x.0 k.range row) p

    by_child : (o : Option Plain) → child hop n ≡ o → is_node o ≡ false
    by_child None e = refl
    by_child (Some m) e = absurd (true≢false (sym some ∙ no_one (may_pass s hop k.range) (passes_one s k (children n)) (leaf_of n) drawn (passing m e)))

-- the first that passes among steps that are made of the elements that pass another test
pub found : {X : Type 0} (p : Step → Bool) (q : X → Bool) (mk : X → Step) (xs : List X) → AllByRecursion (λ x. q x ≡ true → p (mk x) ≡ true) xs → find p (map mk (filter q xs)) ≡ option_map mk (find q xs)
found p q mk [] h = refl
found p q mk (x ∷ xs) h = by_test (q x) refl (found p q mk xs h.1)
  where
    by_test : (b : Bool) → q x ≡ b → find p (map mk (filter q xs)) ≡ option_map mk (find q xs) → find p (map mk (cond b (x ∷ filter q xs) (filter q xs))) ≡ option_map mk (cond b (Some x) (find q xs))
    by_test true e k = ap (λ b. cond b (Some (mk x)) (find p (map mk (filter q xs)))) (h.0 e)
    by_test false e k = k

none_found : {X : Type 0} (p : Step → Bool) (q : X → Bool) (mk : X → Step) (xs : List X) → AllByRecursion (λ x. p (mk x) ≡ false) xs → find p (map mk (filter q xs)) ≡ None
none_found p q mk [] h = refl
none_found p q mk (x ∷ xs) h = by_test (q x) (none_found p q mk xs h.1)
  where
    by_test : (b : Bool) → find p (map mk (filter q xs)) ≡ None → find p (map mk (cond b (x ∷ filter q xs) (filter q xs))) ≡ None
    by_test true k = ap (λ b. cond b (Some (mk x)) (find p (map mk (filter q xs)))) h.0 ∙ k
    by_test false k = k

or_map : {X Y : Type 0} (f : X → Y) (a b : Option X) → option_or (option_map f a) (option_map f b) ≡ option_map f (option_or a b)
or_map f None b = refl
or_map f (Some a) b = refl

map_map : {X Y Z : Type 0} (f : Y → Z) (g : X → Y) (a : Option X) → option_map (λ x. f (g x)) a ≡ option_map f (option_map g a)
map_map f g None = refl
map_map f g (Some a) = refl

attrs_there : (n : Plain) (parts : Parts) → AllByRecursion (λ (x : Hop × Plain). child x.0 n ≡ Some x.1) (roots_of parts) → AllByRecursion (λ a. is_node (child (Part a) n) ≡ true) (attrs_of parts)
attrs_there n no_part h = tt
attrs_there n (part a root more) h = (ap is_node h.0, attrs_there n more h.1)

pub roots_there : (s : Attributes) (k : Known) (n : Plain) → IsRight s k n → AllByRecursion (λ (x : Hop × Plain). child x.0 n ≡ Some x.1) (roots_of (parts_under n))
roots_there s k (node rows parts low high) r =
    let all = children_there (node rows parts low high) (placed_at s k (node rows parts low high) r).rise in
    let P : Hop × Plain → Type 0 = λ x. child x.0 (node rows parts low high) ≡ Some x.1 in
    (Each-parts P (roots_of parts) (root_of Low low) (Each-parts P (roots_of parts ++ root_of Low low) (root_of High high) all).0).0

module _ (s : Attributes) (root : Plain) (path : List Hop) (k : Known) (n : Plain) (a : IsAt s root path k n) where
  abbrev stand : Step → Bool
  stand step = stands s step root

  abbrev here : NodeAt
  here = node_at path k n

  abbrev attrs : List AttrNo
  attrs = attrs_of (parts_under n)

  abbrev shift_from : AttrNo → Id × AttrNo → Step
  shift_from from g = Shift path from g.1 g.0

  abbrev pub shift_of : AttrNo × Id × AttrNo → Step
  shift_of m = Shift path m.0 m.2 m.1

  there : AllByRecursion (λ b. is_node (child (Part b) n) ≡ true) attrs
  there = attrs_there n (parts_under n) (roots_there s k n a.right)

  shift_stands : (from to : AttrNo) (row : Row) → is_node (child (Part from) n) ≡ true → is_node (child (Part to) n) ≡ true → In (rows_at (Part from) n) row → gains s from row to ≡ true → stand (Shift path from to row.id) ≡ true
  shift_stands from to row f t i g =
      let some = i (λ r. eqb (id_of r) (id_of row) && has to r) (and_from (eqb (id_of row) (id_of row)) (has to row) (eq-eqb (id_of row) (id_of row) refl) (gain_has s from to row g)) in
      let b = not (eqb from.0 to.0) in
      let c = is_node (child (Part from) n) in
      let d = is_node (child (Part to) n) in
      at_end_is (λ j m. can_shift from to (id_of row) m) s root path k n a
      ∙ and_from (b && c && d) (list_any (λ r. eqb (id_of r) (id_of row) && has to r) (rows_at (Part from) n)) (and_from (b && c) d (and_from b c (not_from_false (eqb from.0 to.0) (ne_eqb from.0 to.0 (gain_differs s from to row g))) f) t) some

  of_row : (from : AttrNo) (row : Row) → is_node (child (Part from) n) ≡ true → In (rows_at (Part from) n) row → find stand (shifts_of s here from row) ≡ option_map (shift_from from) (gain_of s attrs from row)
  of_row from row f i =
      found stand (gains s from row) (λ to. Shift path from to row.id) attrs (Each-weaker (λ b. is_node (child (Part b) n) ≡ true) (λ b. gains s from row b ≡ true → stand (Shift path from b row.id) ≡ true) (λ b t g. shift_stands from b row f t i g) attrs there)
      ∙ map_map (shift_from from) (λ (to : AttrNo). (row.id, to)) (find (gains s from row) attrs)

  of_rows : (from : AttrNo) (rows : List Row) → is_node (child (Part from) n) ≡ true → AllByRecursion (In (rows_at (Part from) n)) rows → find stand (flat_map (shifts_of s here from) rows) ≡ option_map (shift_from from) (first_in s attrs from rows)
  of_rows from [] f h = refl
  of_rows from (row ∷ rows) f h =
      find-append stand (shifts_of s here from row) (flat_map (shifts_of s here from) rows) ∙ ap (λ o. option_or o (find stand (flat_map (shifts_of s here from) rows))) (of_row from row f h.0)
      ∙ ap (option_or (option_map (shift_from from) (gain_of s attrs from row))) (of_rows from rows f h.1) ∙ or_map (shift_from from) (gain_of s attrs from row) (first_in s attrs from rows)

  of_part : (from : AttrNo) (m : Plain) → child (Part from) n ≡ Some m → find stand (flat_map (shifts_of s here from) (rows_of (by_ids (rows_at (Part from) n)))) ≡ option_map (shift_from from) (least_gain s attrs from (rows_below m))
  of_part from m e =
      let rows = rows_at (Part from) n in
      let sorted = rows_of (by_ids rows) in
      let same : rows ≡ rows_below m = ap rows_of_node e in
      let differ : ids_differ rows ≡ true = ap ids_differ same ∙ child_differ (Part from) n m e a.differ in
      of_rows from sorted (ap is_node e) (Each-weaker (In sorted) (In rows) (λ row h q t. list_any-IsPermutation q rows sorted (rows_permuted rows) ∙ h q t) sorted (each_in sorted))
      ∙ ap (option_map (shift_from from)) (sorted_first s attrs from rows differ ∙ ap (least_gain s attrs from) same)

  of_parts : (parts : Parts) → AllByRecursion (λ (x : Hop × Plain). child x.0 n ≡ Some x.1) (roots_of parts)
      → find stand (flat_map (λ from. flat_map (shifts_of s here from) (rows_of (by_ids (rows_at (Part from) n)))) (attrs_of parts)) ≡ option_map shift_of (first_shift s attrs parts)
  of_parts no_part h = refl
  of_parts (part b m more) h =
      let F : AttrNo → List Step = λ from. flat_map (shifts_of s here from) (rows_of (by_ids (rows_at (Part from) n))) in
      let g = least_gain s attrs b (rows_below m) in
      find-append stand (F b) (flat_map F (attrs_of more)) ∙ ap (λ o. option_or o (find stand (flat_map F (attrs_of more)))) (of_part b m h.0 ∙ map_map shift_of (λ (x : Id × AttrNo). (b, x.0, x.1)) g)
      ∙ ap (option_or (option_map shift_of (option_map (λ (x : Id × AttrNo). (b, x.0, x.1)) g))) (of_parts more h.1) ∙ or_map shift_of (option_map (λ (x : Id × AttrNo). (b, x.0, x.1)) g) (first_shift s attrs more)

  pub first_shift_is : first s root (shifts s here) ≡ option_map shift_of (first_shift s attrs (parts_under n))
  unfolding first
  first_shift_is = of_parts (parts_under n) (roots_there s k n a.right)

  split_stands : (hop : Hop) → is_open hop k ≡ true → list_any (may_pass s hop k.range) (leaf_of n) ≡ true → at_end (can_split_off s hop) s path root ≡ true
  split_stands hop o p =
      at_end_is (can_split_off s hop) s root path k n a
      ∙ and_from (is_open hop k && not (is_node (child hop n))) (list_any (may_pass s hop k.range) (leaf_of n)) (and_from (is_open hop k) (not (is_node (child hop n))) o (not_from_false (is_node (child hop n)) (no_child s k n hop a.right p))) p

  split_closed : (hop : Hop) → is_open hop k ≡ false → at_end (can_split_off s hop) s path root ≡ false
  split_closed hop o =
      at_end_is (can_split_off s hop) s root path k n a ∙ ap (λ b. b && not (is_node (child hop n)) && list_any (may_pass s hop k.range) (leaf_of n)) o

  pub first_part_split : (alpha : ℕ) → first s root (part_splits s alpha here) ≡ option_map (λ b. SplitPart path b) (early_part s alpha k (leaf_of n))
  unfolding first
  first_part_split alpha = by_pick (pick s (leaf_of n) k.used alpha) refl
    where
      early : AttrNo → Bool
      early b = is_early s (node_at path k n) (Part b)

      by_pick : (o : Option AttrNo) → pick s (leaf_of n) k.used alpha ≡ o
          → find (λ step. stands s step root) (map (λ b. SplitPart path b) (filter (λ b. is_early s (node_at path k n) (Part b)) (option_to_list o))) ≡ option_map (λ b. SplitPart path b) (where_enough s k.range (leaf_of n) o)
      by_pick None e = refl
      by_pick (Some b) e =
          found (λ step. stands s step root) (λ c. is_early s (node_at path k n) (Part c)) (λ c. SplitPart path c) (b ∷ [])
          (λ t. split_stands (Part b) (not_from_false (is_used k.used b) (picked s (leaf_of n) k.used alpha b (leaf_lies s k n a.right) e).unused) (some_pass (has b) (leaf_of n) t), tt)

  pub first_half_split : first s root (half_splits s here) ≡ option_map (λ hop. SplitHalf path hop) (early_half s k.range (leaf_of n))
  unfolding first
  first_half_split = by_range (can_split k.range) refl
    where
      by_range : (c : Bool) → can_split k.range ≡ c
          → find (λ step. stands s step root) (map (λ hop. SplitHalf path hop) (filter (is_early s (node_at path k n)) (Low ∷ High ∷ []))) ≡ option_map (λ hop. SplitHalf path hop) (early_half s k.range (leaf_of n))
      by_range true e =
          found (λ step. stands s step root) (is_early s (node_at path k n)) (λ hop. SplitHalf path hop) (Low ∷ High ∷ [])
          (λ t. split_stands Low e (some_pass (may_pass s Low k.range) (leaf_of n) t), (λ t. split_stands High e (some_pass (may_pass s High k.range) (leaf_of n) t), tt))
          ∙ ap (option_map (λ hop. SplitHalf path hop)) (sym (ap (λ c. cond (c && enough_pass s Low k.range (leaf_of n)) (Some Low) (cond (c && enough_pass s High k.range (leaf_of n)) (Some High) None)) e))
      by_range false e =
          none_found (λ step. stands s step root) (is_early s (node_at path k n)) (λ hop. SplitHalf path hop) (Low ∷ High ∷ []) (split_closed Low e, (split_closed High e, tt))
          ∙ ap (option_map (λ hop. SplitHalf path hop)) (sym (ap (λ c. cond (c && enough_pass s Low k.range (leaf_of n)) (Some Low) (cond (c && enough_pass s High k.range (leaf_of n)) (Some High) None)) e))
