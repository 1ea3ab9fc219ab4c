-- Steps of an insertion at one node: a row goes below a child, is put into the leaf, is taken out again, or a child is made.
use Rattle.std.proofs.Common.{◌≡◌, ◌<◌, ◌≤◌, Bool, true, not, leb, ◌&&◌, ◌||◌, List, [], ◌∷◌, ◌++◌, length, None, refl, sym, ap, ◌∙◌, subst, arith, length-append}
use Rattle.std.specs.Prelude.{IsPermutation}
use Rattle.std.specs.List.{list_all, filter, flat_map, AllByRecursion}
use Rattle.std.proofs.lemmas.Bool.{and_from}
use Rattle.std.proofs.lemmas.List.{append_assoc}
use Rattle.std.proofs.lemmas.List.Folds.{list_any-append}
use Rattle.std.proofs.lemmas.List.Sorted.{IsPermutation-append_comm, IsPermutation-append_left, IsPermutation-append_right, IsPermutation-trans, IsPermutation-sym, length_permutation}
use Rattle.be_base.specs.declared.limits.TheConstants.{LEAF_ROWS}
use Rattle.be_model.specs.declared.changes.Row.{Row}
use Rattle.be_model.specs.declared.paths.Hop.{Hop}
use Rattle.be_model.specs.Forms.{attrs_rise}
use Rattle.be_model.specs.Schemas.{Attributes}
use Rattle.be_shape.specs.Plain.{Plain, rows_below, leaf_of, parts_under}
use Rattle.be_shape.specs.Shape.{Known, is_stuck, spans_inside, may_stand, attrs_of}
use Rattle.be_shape.specs.Children.{children, known_below, is_open, may_pass, with_child, with_leaf}
use Rattle.be_shape.specs.Paths.{child}
use Rattle.be_shape.proofs.Children.{Each-from_test, test_from_Each, levels, below, rows_of, rows_are}
use Rattle.be_shape.proofs.Placed.{is_placed_from}
use Rattle.be_shape.proofs.Levels.{holds_rows, pruned_is, passes_one, drawn_is}
use Rattle.be_shape.specs.Right.{is_right_at, IsRight}
use Rattle.be_insert.specs.Filled.{IsFilled}
use Rattle.be_shape.proofs.Lists.{all_permuted, all_front, all_both, filter_keeps, filter_passes, kept_and_left}
use Rattle.be_shape.proofs.OneLevel.{child_more, child_rise, child_leaf, Each-middle, Each-without, Each-at, others, child_last, right_here, right_from}
use Rattle.be_shape.proofs.NodeSteps.{IsBelow, placed_by, settled_is, still_drawn, some_rows, some_length, leaf_children, leaf_child, leaf_parts, leaf_leaf}
use Rattle.be_shape.proofs.LeafSteps.{same_leaf}

-- what a step leaves of a node, and the rows that it hands back
pub record Leaves (s : Attributes) (k : Known) (rows : List Row) (n : Plain) (back : List Row) : Type 0 where
  pub right : IsRight s k n
  pub same : IsPermutation rows (rows_below n ++ back)

-- the rows that may pass a step are made a child
pub split : (s : Attributes) (k : Known) (n m : Plain) (hop : Hop) (back : List Row) → IsFilled s k n → is_open hop k ≡ true → child hop n ≡ None
    → IsRight s (known_below s hop k) m → IsPermutation (filter (may_pass s hop k.range) (leaf_of n)) (rows_below m ++ back) → 0 < length (rows_below m)
    → (leb (length (filter (λ row. not (may_pass s hop k.range row)) (leaf_of n))) LEAF_ROWS || list_all (is_stuck s k) (filter (λ row. not (may_pass s hop k.range row)) (leaf_of n))) ≡ true
    → Leaves s k (rows_below n) (with_child hop m (with_leaf (filter (λ row. not (may_pass s hop k.range row)) (leaf_of n)) n)) back
split s k n m hop back f open_step gone r moves some settled =
    let p = may_pass s hop k.range in
    let leaf = leaf_of n in
    let kept = filter (λ row. not (p row)) leaf in
    let o = with_leaf kept n in
    let w = with_child hop m o in
    let h = child_more hop m o (leaf_child kept hop n ∙ gone) in
    let was = sym (leaf_children kept n) ∙ h.was in
    let each = Each-from_test (below (is_right_at s) s k) (children n) f.below in
    let pl = placed_by s k n f.placed each in
    let wl : leaf_of w ≡ kept = child_leaf hop m o ∙ leaf_leaf kept n in
    let c = others kept h.before h.after in
    let first : IsPermutation (rows_below n) (c ++ filter p leaf) =
    subst (λ l. IsPermutation l (c ++ filter p leaf)) (sym (rows_are n ∙ ap (λ l. leaf ++ flat_map rows_of l) was))
    (IsPermutation-trans (leaf ++ flat_map rows_of (h.before ++ h.after)) ((filter p leaf ++ kept) ++ flat_map rows_of (h.before ++ h.after)) (c ++ filter p leaf)
    (IsPermutation-append_left (flat_map rows_of (h.before ++ h.after)) leaf (filter p leaf ++ kept) (kept_and_left p leaf))
    (subst (λ l. IsPermutation l (c ++ filter p leaf)) (sym (append_assoc (filter p leaf) kept (flat_map rows_of (h.before ++ h.after)))) (IsPermutation-append_comm (filter p leaf) c))) in
    let second : IsPermutation (c ++ filter p leaf) ((c ++ rows_below m) ++ back) =
    subst (IsPermutation (c ++ filter p leaf)) (sym (append_assoc c (rows_below m) back)) (IsPermutation-append_right c (filter p leaf) (rows_below m ++ back) moves) in
    let third : IsPermutation ((c ++ rows_below m) ++ back) (rows_below w ++ back) =
    IsPermutation-append_left back (c ++ rows_below m) (rows_below w) (IsPermutation-sym (rows_below w) (c ++ rows_below m) (subst (λ l. IsPermutation (rows_below w) (others l h.before h.after ++ rows_below m)) wl (child_last w h.before h.after (hop, m) h.is))) in
    let all : IsPermutation (rows_below n) (rows_below w ++ back) =
    IsPermutation-trans (rows_below n) (c ++ filter p leaf) (rows_below w ++ back) first (IsPermutation-trans (c ++ filter p leaf) ((c ++ rows_below m) ++ back) (rows_below w ++ back) second third) in
    let held = λ (q : Row → Bool) (t : list_all q (rows_below n) ≡ true). all_front q (rows_below w) back (all_permuted q (rows_below n) (rows_below w ++ back) all t) in
    let passing = all_front p (rows_below m) back (all_permuted p (filter p leaf) (rows_below m ++ back) moves (filter_passes p leaf)) in
    let drawn_old = ap (λ l. list_all (λ row. not (passes_one s k l row)) leaf) (sym was) ∙ sym (drawn_is s k n) ∙ f.drawn in
    record {
      right = record {
        right = right_from s k w
            (is_placed_from s k w (record {
              rise = child_rise hop m o (ap (λ q. attrs_rise (attrs_of q)) (leaf_parts kept n) ∙ pl.rise) (leaf_child kept hop n ∙ gone);
              inside = held (spans_inside s k.range) pl.inside;
              open_steps = subst (AllByRecursion (λ (x : Hop × Plain). is_open x.0 k ≡ true)) (sym h.is) (Each-middle (λ (x : Hop × Plain). is_open x.0 k ≡ true) h.before h.after (hop, m) (subst (AllByRecursion (λ (x : Hop × Plain). is_open x.0 k ≡ true)) was pl.open_steps) open_step);
              pass = subst (AllByRecursion (λ (x : Hop × Plain). list_all (may_pass s x.0 k.range) (rows_below x.1) ≡ true)) (sym h.is) (Each-middle (λ (x : Hop × Plain). list_all (may_pass s x.0 k.range) (rows_below x.1) ≡ true) h.before h.after (hop, m) (subst (AllByRecursion (λ (x : Hop × Plain). list_all (may_pass s x.0 k.range) (rows_below x.1) ≡ true)) was pl.pass) passing);
            }))
            (drawn_is s k w ∙ ap (λ l. list_all (λ row. not (passes_one s k (children w) row)) l) wl ∙ ap (λ l. list_all (λ row. not (passes_one s k l row)) kept) h.is
            ∙ still_drawn s k h.before h.after (hop, m) kept (filter_keeps (λ row. not (passes_one s k (h.before ++ h.after) row)) (λ row. not (p row)) leaf drawn_old) (filter_passes (λ row. not (p row)) leaf))
            (pruned_is k w ∙ test_from_Each holds_rows (children w) (subst (AllByRecursion (λ (x : Hop × Plain). holds_rows x ≡ true)) (sym h.is) (Each-middle (λ (x : Hop × Plain). holds_rows x ≡ true) h.before h.after (hop, m) (subst (AllByRecursion (λ (x : Hop × Plain). holds_rows x ≡ true)) was (Each-from_test holds_rows (children n) (sym (pruned_is k n) ∙ f.pruned))) (some_rows (rows_below m) some))))
            (settled_is s k w ∙ ap (λ l. leb (length l) LEAF_ROWS || list_all (is_stuck s k) l) wl ∙ settled)
            (subst (AllByRecursion (IsBelow s k)) (sym h.is) (Each-middle (IsBelow s k) h.before h.after (hop, m) (subst (AllByRecursion (IsBelow s k)) was each) r.right));
        may = held (may_stand s) f.may;
      };
      same = all;
    }

-- a row goes below a child
pub deeper : (s : Attributes) (k : Known) (n w m o : Plain) (hop : Hop) (before after : List (Hop × Plain)) (row : Row) (back : List Row) → IsRight s k n → children n ≡ before ++ (hop, m) ∷ after
    → children w ≡ before ++ (hop, o) ∷ after → leaf_of w ≡ leaf_of n → attrs_of (parts_under w) ≡ attrs_of (parts_under n) → may_pass s hop k.range row ≡ true → spans_inside s k.range row ≡ true → may_stand s row ≡ true
    → length back ≤ 1 → Leaves s (known_below s hop k) (rows_below m ++ row ∷ []) o back → Leaves s k (rows_below n ++ row ∷ []) w back
deeper s k n w m o hop before after row back r was is same_leaf same_attrs pass inside may few d =
    let l = levels (is_right_at s) s k n r.right in
    let here = right_here s k n l.here in
    let pl = placed_by s k n here.0 l.children in
    let leaf = leaf_of n in
    let c = others leaf before after in
    let first : IsPermutation (rows_below n ++ row ∷ []) ((c ++ rows_below m) ++ row ∷ []) =
    IsPermutation-append_left (row ∷ []) (rows_below n) (c ++ rows_below m) (child_last n before after (hop, m) was) in
    let second : IsPermutation ((c ++ rows_below m) ++ row ∷ []) ((c ++ rows_below o) ++ back) =
    subst (λ q. IsPermutation q ((c ++ rows_below o) ++ back)) (sym (append_assoc c (rows_below m) (row ∷ []))) (subst (IsPermutation (c ++ (rows_below m ++ row ∷ []))) (sym (append_assoc c (rows_below o) back)) (IsPermutation-append_right c (rows_below m ++ row ∷ []) (rows_below o ++ back) d.same)) in
    let third : IsPermutation ((c ++ rows_below o) ++ back) (rows_below w ++ back) =
    IsPermutation-append_left back (c ++ rows_below o) (rows_below w) (IsPermutation-sym (rows_below w) (c ++ rows_below o) (subst (λ q. IsPermutation (rows_below w) (others q before after ++ rows_below o)) same_leaf (child_last w before after (hop, o) is))) in
    let all : IsPermutation (rows_below n ++ row ∷ []) (rows_below w ++ back) =
    IsPermutation-trans (rows_below n ++ row ∷ []) ((c ++ rows_below m) ++ row ∷ []) (rows_below w ++ back) first (IsPermutation-trans ((c ++ rows_below m) ++ row ∷ []) ((c ++ rows_below o) ++ back) (rows_below w ++ back) second third) in
    let held = λ (q : Row → Bool) (t : list_all q (rows_below n) ≡ true) (u : q row ≡ true). all_front q (rows_below w) back (all_permuted q (rows_below n ++ row ∷ []) (rows_below w ++ back) all (all_both q (rows_below n) (row ∷ []) t (and_from (q row) true u refl))) in
    let passed = Each-at (λ (x : Hop × Plain). list_all (may_pass s x.0 k.range) (rows_below x.1) ≡ true) before after (hop, m) (subst (AllByRecursion (λ (x : Hop × Plain). list_all (may_pass s x.0 k.range) (rows_below x.1) ≡ true)) was pl.pass) in
    let passing = all_front (may_pass s hop k.range) (rows_below o) back (all_permuted (may_pass s hop k.range) (rows_below m ++ row ∷ []) (rows_below o ++ back) d.same (all_both (may_pass s hop k.range) (rows_below m) (row ∷ []) passed (and_from (may_pass s hop k.range row) true pass refl))) in
    let had = Each-at (λ (x : Hop × Plain). holds_rows x ≡ true) before after (hop, m) (subst (AllByRecursion (λ (x : Hop × Plain). holds_rows x ≡ true)) was (Each-from_test holds_rows (children n) (sym (pruned_is k n) ∙ here.2))) in
    let some : 0 < length (rows_below o) =
    omega (arith, length_permutation (rows_below m ++ row ∷ []) (rows_below o ++ back) d.same, length-append (rows_below m) (row ∷ []), length-append (rows_below o) back, some_length (rows_below m) had) in
    record {
      right = record {
        right = right_from s k w
            (is_placed_from s k w (record {
              rise = ap attrs_rise same_attrs ∙ pl.rise;
              inside = held (spans_inside s k.range) pl.inside inside;
              open_steps = replaced (λ (x : Hop × Plain). is_open x.0 k ≡ true) pl.open_steps (Each-at (λ (x : Hop × Plain). is_open x.0 k ≡ true) before after (hop, m) (subst (AllByRecursion (λ (x : Hop × Plain). is_open x.0 k ≡ true)) was pl.open_steps));
              pass = replaced (λ (x : Hop × Plain). list_all (may_pass s x.0 k.range) (rows_below x.1) ≡ true) pl.pass passing;
            }))
            (drawn_is s k w ∙ ap (λ q. list_all (λ z. not (passes_one s k (children w) z)) q) same_leaf ∙ same_drawn leaf ∙ sym (drawn_is s k n) ∙ here.1)
            (pruned_is k w ∙ test_from_Each holds_rows (children w) (replaced (λ (x : Hop × Plain). holds_rows x ≡ true) (Each-from_test holds_rows (children n) (sym (pruned_is k n) ∙ here.2)) (some_rows (rows_below o) some)))
            (settled_is s k w ∙ ap (λ q. leb (length q) LEAF_ROWS || list_all (is_stuck s k) q) same_leaf ∙ sym (settled_is s k n) ∙ here.3)
            (replaced (IsBelow s k) l.children d.right.right);
        may = held (may_stand s) r.may may;
      };
      same = all;
    }
  where
    replaced : (P : Hop × Plain → Type 0) → AllByRecursion P (children n) → P (hop, o) → AllByRecursion P (children w)
    replaced P each new =
        subst (AllByRecursion P) (sym is) (Each-middle P before after (hop, o) (Each-without P before after (hop, m) (subst (AllByRecursion P) was each)) new)

    same_passes : (z : Row) → passes_one s k (before ++ (hop, o) ∷ after) z ≡ passes_one s k (before ++ (hop, m) ∷ after) z
    same_passes z =
        let f = λ (y : Hop × Plain). may_pass s y.0 k.range z in list_any-append f before ((hop, o) ∷ after) ∙ sym (list_any-append f before ((hop, m) ∷ after))

    same_drawn : (rows : List Row) → list_all (λ z. not (passes_one s k (children w) z)) rows ≡ list_all (λ z. not (passes_one s k (children n) z)) rows
    same_drawn [] = refl
    same_drawn (z ∷ rows) =
        ap (λ b. not b && list_all (λ y. not (passes_one s k (children w) y)) rows) (ap (λ q. passes_one s k q z) is ∙ same_passes z ∙ ap (λ q. passes_one s k q z) (sym was)) ∙ ap (λ b. not (passes_one s k (children n) z) && b) (same_drawn rows)
