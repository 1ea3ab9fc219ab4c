-- A leaf that has a row more, and what may pass from it.
use Rattle.std.proofs.Common.{◌≡◌, ◌<◌, ◌≤◌, ◌+◌, ◌-◌, suc, Bool, true, false, not, cond, leb, ◌&&◌, ◌||◌, List, [], ◌∷◌, ◌++◌, length, take, slice_get, None, Some, Option, refl, sym, ap, ◌∙◌, subst, arith, length-append}
use Rattle.std.specs.Prelude.{IsPermutation}
use Rattle.std.specs.List.{list_all, list_any, filter, AllByRecursion}
use Rattle.std.proofs.lemmas.Bool.{and_parts, and_from, not_from_false, not-true, or_parts, or_from, leb-true, le-leb, or_left, or_right, false≢true}
use Rattle.std.proofs.lemmas.List.{append-nil}
use Rattle.std.proofs.lemmas.List.Elements.{filter-append}
use Rattle.std.proofs.lemmas.List.Folds.{list_any-append}
use Rattle.std.proofs.lemmas.List.Sorted.{IsPermutation-sym, IsPermutation-refl}
use Rattle.be_base.specs.declared.limits.TheConstants.{LEAF_ROWS}
use Rattle.be_model.specs.declared.changes.Row.{Row}
use Rattle.be_model.specs.declared.paths.Hop.{Hop}
use Rattle.be_model.specs.Schemas.{Attributes}
use Rattle.be_shape.specs.Plain.{Plain, node, no_part, no_half, rows_below, leaf_of, with_row}
use Rattle.be_shape.specs.Shape.{Known, is_drawn_at, is_settled_at, is_stuck, spans_inside, may_stand}
use Rattle.be_shape.specs.Children.{children, is_open, may_pass, with_leaf}
use Rattle.be_shape.specs.Paths.{child}
use Rattle.be_shape.proofs.Children.{Each-from_test, test_from_Each, levels, below}
use Rattle.be_shape.proofs.Placed.{is_placed_from, at_child}
use Rattle.be_shape.proofs.Levels.{passes_one, drawn_is}
use Rattle.be_shape.specs.Right.{is_right_at, IsRight}
use Rattle.be_insert.specs.Filled.{is_filled, IsFilled}
use Rattle.be_shape.proofs.Lists.{all_permuted, all_front, all_both, filter_whole, filter_empty, filter_some, lengths}
use Rattle.be_shape.proofs.OneLevel.{right_here, right_from}
use Rattle.be_insert.proofs.Steps.{Leaves}
use Rattle.be_shape.proofs.NodeSteps.{placed_by, settled_is}
use Rattle.be_shape.proofs.LeafSteps.{leaf_rows, row_leaf, own_leaf, same_placed, same_drawn, same_pruned, same_children, same_leaf, stuck_stay, alone, all_true}

-- the last of a list
pub record HasLast (rows : List Row) : Type 0 where
  pub front : List Row
  pub last : Row
  pub is : rows ≡ front ++ last ∷ []
  pub taken : take (length rows - 1) rows ≡ front
  pub at : slice_get rows (length rows - 1) ≡ Some last

pub has_last : (rows : List Row) → 0 < length rows → HasLast rows
has_last [] h = absurd (omega arith)
has_last (x ∷ []) h = record { front = []; last = x; is = refl; taken = refl; at = refl }
has_last (x ∷ y ∷ rows) h =
    let r = has_last (y ∷ rows) (omega arith) in
    let e : length (x ∷ y ∷ rows) - 1 ≡ suc (length (y ∷ rows) - 1) = omega arith in
    record {
      front = x ∷ r.front;
      last = r.last;
      is = ap (λ l. x ∷ l) r.is;
      taken = ap (λ i. take i (x ∷ y ∷ rows)) e ∙ ap (λ l. x ∷ l) r.taken;
      at = ap (λ i. slice_get (x ∷ y ∷ rows) i) e ∙ r.at;
    }

-- a leaf that was settled is filled by a row more
now_filled : (s : Attributes) (k : Known) (leaf : List Row) (x : Row) → (leb (length leaf) LEAF_ROWS || list_all (is_stuck s k) leaf) ≡ true → is_filled s k (leaf ++ x ∷ []) ≡ true
now_filled s k leaf x h = by_cases (leb (length leaf) LEAF_ROWS) refl h
  where
    size : length (leaf ++ x ∷ []) ≡ length leaf + 1
    size = length-append leaf (x ∷ [])

    front : (rows : List Row) (y : Row) → take (length rows) (rows ++ y ∷ []) ≡ rows
    front [] y = refl
    front (z ∷ rows) y = ap (λ l. z ∷ l) (front rows y)

    by_cases : (b : Bool) → leb (length leaf) LEAF_ROWS ≡ b → (b || list_all (is_stuck s k) leaf) ≡ true → is_filled s k (leaf ++ x ∷ []) ≡ true
    by_cases true e t =
        let l = leb-true (length leaf) LEAF_ROWS e in
        or_left (leb (length (leaf ++ x ∷ [])) (LEAF_ROWS + 1)) (list_all (is_stuck s k) (take (length (leaf ++ x ∷ []) - 1) (leaf ++ x ∷ []))) (le-leb (length (leaf ++ x ∷ [])) (LEAF_ROWS + 1) (omega (arith, size)))
    by_cases false e t =
        let i : length (leaf ++ x ∷ []) - 1 ≡ length leaf = omega (arith, size) in
        or_right (leb (length (leaf ++ x ∷ [])) (LEAF_ROWS + 1)) (list_all (is_stuck s k) (take (length (leaf ++ x ∷ []) - 1) (leaf ++ x ∷ []))) (ap (list_all (is_stuck s k)) (ap (λ j. take j (leaf ++ x ∷ [])) i ∙ front leaf x) ∙ t)

pub last_put : (n : Plain) (x y : Row) → slice_get (leaf_of (with_row x n)) (length (leaf_of (with_row x n)) - 1) ≡ Some y → y ≡ x
last_put (node rows parts low high) x y h = let e = sym (at_end rows) ∙ h in cc
  where
    at_end : (rows : List Row) → slice_get (rows ++ x ∷ []) (length (rows ++ x ∷ []) - 1) ≡ Some x
    at_end [] = refl
    at_end (r ∷ rows) =
        let i : length (r ∷ rows ++ x ∷ []) - 1 ≡ suc (length (rows ++ x ∷ []) - 1) = omega (arith, length-append rows (x ∷ [])) in
        ap (slice_get (r ∷ rows ++ x ∷ [])) i ∙ at_end rows

-- a row is put into the leaf
pub put_filled : (s : Attributes) (k : Known) (n : Plain) (x : Row) → IsRight s k n → passes_one s k (children n) x ≡ false → spans_inside s k.range x ≡ true → may_stand s x ≡ true → IsFilled s k (with_row x n)
put_filled s k n x r out inside may =
    let leaf = leaf_of n in
    let new = leaf ++ x ∷ [] in
    let w = with_leaf new n in
    let l = levels (is_right_at s) s k n r.right in
    let here = right_here s k n l.here in
    let pl = placed_by s k n here.0 l.children in
    let moved : IsPermutation (rows_below n ++ x ∷ []) (rows_below w) =
    IsPermutation-sym (rows_below w) (rows_below n ++ x ∷ []) (subst (λ q. IsPermutation (rows_below w) (rows_below q ++ x ∷ [])) (own_leaf n) (leaf_rows new leaf (x ∷ []) n (IsPermutation-refl new))) in
    let held = λ (q : Row → Bool) (t : list_all q (rows_below n) ≡ true) (u : q x ≡ true). all_permuted q (rows_below n ++ x ∷ []) (rows_below w) moved (all_both q (rows_below n) (x ∷ []) t (and_from (q x) true u refl)) in
    subst (IsFilled s k) (sym (row_leaf x n)) (record {
      placed = is_placed_from s k w (same_placed s k new n pl (held (spans_inside s k.range) pl.inside inside));
      drawn = same_drawn s k new n (all_both (λ row. not (passes_one s k (children n) row)) leaf (x ∷ []) (sym (drawn_is s k n) ∙ here.1) (and_from (not (passes_one s k (children n) x)) true (not_from_false (passes_one s k (children n) x) out) refl));
      pruned = same_pruned k new n ∙ here.2;
      below = ap (list_all (below (is_right_at s) s k)) (same_children new n) ∙ test_from_Each (below (is_right_at s) s k) (children n) l.children;
      may = held (may_stand s) r.may may;
      some = omega (arith, ap length (same_leaf new n), length-append leaf (x ∷ []));
      filled = ap (is_filled s k) (same_leaf new n) ∙ now_filled s k leaf x (sym (settled_is s k n) ∙ here.3);
    })

-- a node whose leaf is settled after all
pub stays : (s : Attributes) (k : Known) (n : Plain) → IsFilled s k n → is_settled_at s k n ≡ true → Leaves s k (rows_below n) n []
stays s k n f h =
    record {
      right = record { right = right_from s k n f.placed f.drawn f.pruned h (Each-from_test (below (is_right_at s) s k) (children n) f.below); may = f.may };
      same = subst (IsPermutation (rows_below n)) (sym (append-nil (rows_below n))) (IsPermutation-refl (rows_below n));
    }

-- the last row is taken out again
front_settled : (s : Attributes) (k : Known) (rows : List Row) (l : HasLast rows) → is_filled s k rows ≡ true → (leb (length l.front) LEAF_ROWS || list_all (is_stuck s k) l.front) ≡ true
front_settled s k rows l h = by_cases (leb (length rows) (LEAF_ROWS + 1)) refl h
  where
    by_cases : (b : Bool) → leb (length rows) (LEAF_ROWS + 1) ≡ b → (b || list_all (is_stuck s k) (take (length rows - 1) rows)) ≡ true → (leb (length l.front) LEAF_ROWS || list_all (is_stuck s k) l.front) ≡ true
    by_cases true e t =
        let few = leb-true (length rows) (LEAF_ROWS + 1) e in
        or_left (leb (length l.front) LEAF_ROWS) (list_all (is_stuck s k) l.front) (le-leb (length l.front) LEAF_ROWS (omega (arith, ap length l.is, length-append l.front (l.last ∷ []))))
    by_cases false e t =
        or_right (leb (length l.front) LEAF_ROWS) (list_all (is_stuck s k) l.front) (ap (list_all (is_stuck s k)) (sym l.taken) ∙ t)

pub cut : (s : Attributes) (k : Known) (n : Plain) (l : HasLast (leaf_of n)) → IsFilled s k n → Leaves s k (rows_below n) (with_leaf l.front n) (l.last ∷ [])
cut s k n l f =
    let w = with_leaf l.front n in
    let each = Each-from_test (below (is_right_at s) s k) (children n) f.below in
    let pl = placed_by s k n f.placed each in
    let moved : IsPermutation (rows_below n) (rows_below w ++ l.last ∷ []) =
    subst (λ q. IsPermutation (rows_below q) (rows_below w ++ l.last ∷ [])) (own_leaf n) (leaf_rows (leaf_of n) l.front (l.last ∷ []) n (subst (IsPermutation (leaf_of n)) l.is (IsPermutation-refl (leaf_of n)))) in
    let held = λ (q : Row → Bool) (t : list_all q (rows_below n) ≡ true). all_front q (rows_below w) (l.last ∷ []) (all_permuted q (rows_below n) (rows_below w ++ l.last ∷ []) moved t) in
    let p = λ (row : Row). not (passes_one s k (children n) row) in
    record {
      right = record {
        right = right_from s k w (is_placed_from s k w (same_placed s k l.front n pl (held (spans_inside s k.range) pl.inside)))
            (same_drawn s k l.front n (all_front p l.front (l.last ∷ []) (ap (list_all p) (sym l.is) ∙ sym (drawn_is s k n) ∙ f.drawn)))
            (same_pruned k l.front n ∙ f.pruned)
            (settled_is s k w ∙ ap (λ q. leb (length q) LEAF_ROWS || list_all (is_stuck s k) q) (same_leaf l.front n) ∙ front_settled s k (leaf_of n) l f.filled)
            (subst (AllByRecursion (λ (x : Hop × Plain). below (is_right_at s) s k x ≡ true)) (sym (same_children l.front n)) each);
        may = held (may_stand s) f.may;
      };
      same = moved;
    }

-- where a row of the leaf may pass a step, there is no child yet
drawn_each : (s : Attributes) (k : Known) (xs : List (Hop × Plain)) (rows : List Row) → list_all (λ row. not (passes_one s k xs row)) rows ≡ true → AllByRecursion (λ (x : Hop × Plain). list_any (may_pass s x.0 k.range) rows ≡ false) xs
drawn_each s k [] rows h = tt
drawn_each s k (x ∷ xs) rows h = (first rows h, drawn_each s k xs rows (rest rows h))
  where
    both : (row : Row) → not (passes_one s k (x ∷ xs) row) ≡ true → (may_pass s x.0 k.range row ≡ false) × (passes_one s k xs row ≡ false)
    both row t = or_parts (may_pass s x.0 k.range row) (passes_one s k xs row) (not-true (passes_one s k (x ∷ xs) row) t)

    first : (ys : List Row) → list_all (λ row. not (passes_one s k (x ∷ xs) row)) ys ≡ true → list_any (may_pass s x.0 k.range) ys ≡ false
    first [] t = refl
    first (y ∷ ys) t =
        let q = and_parts (not (passes_one s k (x ∷ xs) y)) (list_all (λ row. not (passes_one s k (x ∷ xs) row)) ys) t in or_from (may_pass s x.0 k.range y) (list_any (may_pass s x.0 k.range) ys) (both y q.0).0 (first ys q.1)

    rest : (ys : List Row) → list_all (λ row. not (passes_one s k (x ∷ xs) row)) ys ≡ true → list_all (λ row. not (passes_one s k xs row)) ys ≡ true
    rest [] t = refl
    rest (y ∷ ys) t =
        let q = and_parts (not (passes_one s k (x ∷ xs) y)) (list_all (λ row. not (passes_one s k (x ∷ xs) row)) ys) t in and_from (not (passes_one s k xs y)) (list_all (λ row. not (passes_one s k xs row)) ys) (not_from_false (passes_one s k xs y) (both y q.0).1) (rest ys q.1)

pub not_there : (s : Attributes) (hop : Hop) (k : Known) (n : Plain) → is_drawn_at s k n ≡ true → list_any (may_pass s hop k.range) (leaf_of n) ≡ true → child hop n ≡ None
not_there s hop k n d h = by_child (child hop n) refl
  where
    by_child : (o : Option Plain) → child hop n ≡ o → child hop n ≡ None
    by_child None e = e
    by_child (Some m) e =
        absurd (false≢true (sym (at_child (λ (x : Hop × Plain). list_any (may_pass s x.0 k.range) (leaf_of n) ≡ false) hop n m e (drawn_each s k (children n) (leaf_of n) (sym (drawn_is s k n) ∙ d))) ∙ h))

-- what passes from a filled leaf, and what is left
pub record Passing (s : Attributes) (hop : Hop) (k : Known) (leaf : List Row) : Type 0 where
  pub few : length (filter (may_pass s hop k.range) leaf) ≤ LEAF_ROWS + 1
  pub some : 0 < length (filter (may_pass s hop k.range) leaf)
  pub settled : (leb (length (filter (λ row. not (may_pass s hop k.range row)) leaf)) LEAF_ROWS || list_all (is_stuck s k) (filter (λ row. not (may_pass s hop k.range row)) leaf)) ≡ true
  pub whole : LEAF_ROWS < length (filter (may_pass s hop k.range) leaf) → filter (may_pass s hop k.range) leaf ≡ leaf

none_left : (q : Row → Bool) (rows : List Row) → length (filter (λ row. not (q row)) rows) ≡ 0 → list_all q rows ≡ true
none_left q [] h = refl
none_left q (row ∷ rows) h = by_test (q row) refl h (none_left q rows)
  where
    by_test : (b : Bool) → q row ≡ b → length (cond (not b) (row ∷ filter (λ r. not (q r)) rows) (filter (λ r. not (q r)) rows)) ≡ 0 → (length (filter (λ r. not (q r)) rows) ≡ 0 → list_all q rows ≡ true) → (b && list_all q rows) ≡ true
    by_test true e z f = f z
    by_test false e z f = absurd (omega arith)

none_any : (q : Row → Bool) (rows : List Row) → list_all (λ row. not (q row)) rows ≡ true → list_any q rows ≡ false
none_any q [] h = refl
none_any q (row ∷ rows) h =
    let k = and_parts (not (q row)) (list_all (λ r. not (q r)) rows) h in or_from (q row) (list_any q rows) (not-true (q row) k.0) (none_any q rows k.1)

-- where none passes but the last
last_passes : (q : Row → Bool) (front : List Row) (x : Row) → list_all (λ row. not (q row)) front ≡ true → list_any q (front ++ x ∷ []) ≡ true → q x ≡ true
last_passes q front x h k = by_test (q x) refl
  where
    by_test : (b : Bool) → q x ≡ b → b ≡ true
    by_test true e = refl
    by_test false e =
        sym (list_any-append q front (x ∷ []) ∙ or_from (list_any q front) (q x || false) (none_any q front h) (ap (λ b. b || false) e)) ∙ k

short : (q : Row → Bool) (x : Row) → length (filter q (x ∷ [])) ≤ 1
short q x = by_test (q x)
  where
    by_test : (b : Bool) → length (cond b (x ∷ []) []) ≤ 1
    by_test true = omega arith
    by_test false = omega arith

pub passing : (s : Attributes) (hop : Hop) (k : Known) (leaf : List Row) → is_filled s k leaf ≡ true → is_open hop k ≡ true → list_any (may_pass s hop k.range) leaf ≡ true → 0 < length leaf → Passing s hop k leaf
passing s hop k leaf f o h l =
    by_cases (leb (length leaf) (LEAF_ROWS + 1)) refl f (has_last leaf l)
  where
    by_cases : (b : Bool) → leb (length leaf) (LEAF_ROWS + 1) ≡ b → (b || list_all (is_stuck s k) (take (length leaf - 1) leaf)) ≡ true → HasLast leaf → Passing s hop k leaf
    by_cases true e t z =
        let p = may_pass s hop k.range in
        let n = λ (row : Row). not (p row) in
        let all = lengths p leaf in
        let sum = length-append (filter p leaf) (filter n leaf) in
        let top = leb-true (length leaf) (LEAF_ROWS + 1) e in
        let some = filter_some p leaf h in
        record {
          few = omega (arith, all, sum, top);
          some = some;
          settled = or_left (leb (length (filter n leaf)) LEAF_ROWS) (list_all (is_stuck s k) (filter n leaf)) (le-leb (length (filter n leaf)) LEAF_ROWS (omega (arith, all, sum, top, some)));
          whole = λ w. filter_whole p leaf (none_left p leaf (omega (arith, all, sum, top, w)));
        }
    by_cases false e t z =
        let p = may_pass s hop k.range in
        let n = λ (row : Row). not (p row) in
        let stuck : list_all (is_stuck s k) z.front ≡ true = ap (list_all (is_stuck s k)) (sym z.taken) ∙ t in
        let none = stuck_stay s hop k z.front stuck o in
        let moved : filter p leaf ≡ filter p (z.last ∷ []) =
        ap (filter p) z.is ∙ filter-append p z.front (z.last ∷ []) ∙ ap (λ q. q ++ filter p (z.last ∷ [])) (filter_empty p z.front none) in
        let one = short p z.last in
        let passes = last_passes p z.front z.last none (ap (list_any p) (sym z.is) ∙ h) in
        let kept : filter n leaf ≡ z.front =
        ap (filter n) z.is ∙ filter-append n z.front (z.last ∷ []) ∙ ap (λ q. q ++ filter n (z.last ∷ [])) (filter_whole n z.front none) ∙ ap (λ b. z.front ++ cond (not b) (z.last ∷ []) []) passes ∙ append-nil z.front in
        record {
          few = omega (arith, ap length moved, one);
          some = filter_some p leaf h;
          settled = or_right (leb (length (filter n leaf)) LEAF_ROWS) (list_all (is_stuck s k) (filter n leaf)) (ap (list_all (is_stuck s k)) kept ∙ stuck);
          whole = λ w. absurd (omega (arith, ap length moved, one, w));
        }

pub leaf_filled : (s : Attributes) (k : Known) (rows : List Row) → list_all (spans_inside s k.range) rows ≡ true → list_all (may_stand s) rows ≡ true → 0 < length rows → length rows ≤ LEAF_ROWS + 1 → IsFilled s k (node rows no_part no_half no_half)
leaf_filled s k rows inside may some few =
    record {
      placed = is_placed_from s k (node rows no_part no_half no_half) (record { rise = refl; inside = ap (list_all (spans_inside s k.range)) (alone rows) ∙ inside; open_steps = tt; pass = tt });
      drawn = all_true rows;
      pruned = refl;
      below = refl;
      may = ap (list_all (may_stand s)) (alone rows) ∙ may;
      some = some;
      filled = or_left (leb (length rows) (LEAF_ROWS + 1)) (list_all (is_stuck s k) (take (length rows - 1) rows)) (le-leb (length rows) (LEAF_ROWS + 1) few);
    }
