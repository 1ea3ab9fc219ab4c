-- A node of which one child has a row less, or is dropped.
use Rattle.std.proofs.Common.{◌≡◌, ◌<◌, Bool, true, false, not, cond, ltb, leb, ◌||◌, List, [], ◌∷◌, ◌++◌, length, refl, sym, ap, ◌∙◌, subst, arith}
use Rattle.std.specs.Prelude.{IsPermutation}
use Rattle.std.specs.List.{list_all, list_any, flat_map, AllByRecursion}
use Rattle.std.proofs.lemmas.Bool.{and_parts, and_from, not_from_false, not-true, or_parts, or_from, lt-ltb, ltb-true}
use Rattle.std.proofs.lemmas.List.{append_assoc, append-nil}
use Rattle.std.proofs.lemmas.List.Concat.{flat_map-append}
use Rattle.std.proofs.lemmas.List.Folds.{list_any-append}
use Rattle.std.proofs.lemmas.List.Sorted.{IsPermutation-append_left, IsPermutation-append_right, IsPermutation-middle, IsPermutation-trans}
use Rattle.be_base.specs.declared.limits.TheConstants.{LEAF_ROWS}
use Rattle.be_base.specs.declared.names.AttrNo.{AttrNo}
use Rattle.be_model.specs.declared.changes.Row.{Row}
use Rattle.be_model.specs.declared.paths.Hop.{Hop}
use Rattle.be_model.specs.declared.paths.Hop.TheVariants.{Part, Low, High}
use Rattle.be_model.specs.Forms.{attrs_rise}
use Rattle.be_model.specs.Schemas.{Attributes}
use Rattle.be_model.proofs.EventItems.{attrs_rise-tail}
use Rattle.be_shape.specs.Plain.{Plain, node, Parts, no_part, part, Half, no_half, half, rows_below, leaf_of, parts_under}
use Rattle.be_shape.specs.Shape.{NodeRange, Known, known, is_some, is_stuck, spans_inside, may_stand, attrs_of, is_pruned_at}
use Rattle.be_shape.specs.Children.{roots_of, root_of, children, known_below, is_open, may_pass}
use Rattle.be_shape.specs.Right.{is_right_at, IsRight}
use Rattle.be_shape.specs.Less.{is_bare, kept, IsRightBelow, IsLess}
use Rattle.be_shape.proofs.Children.{Each-append, Each-parts, Each-from_test, test_from_Each, levels, rows_of, rows_are}
use Rattle.be_shape.proofs.Placed.{is_placed_from}
use Rattle.be_shape.proofs.Levels.{holds_rows, pruned_is, passes_one, drawn_is}
use Rattle.be_shape.proofs.Lists.{all_permuted}
use Rattle.be_shape.proofs.OneLevel.{Each-at, right_here, right_from}
use Rattle.be_shape.proofs.NodeSteps.{IsBelow, placed_by, settled_is}
use Rattle.be_shape.proofs.Among.{placed_at, child_right}

-- a bare node has no rows, and another node that is pruned has some
pub bare_rows : (n : Plain) → is_bare n ≡ true → rows_below n ≡ []
bare_rows (node [] no_part no_half no_half) h = refl
bare_rows (node [] no_part no_half (half n)) h = absurd (cc)
bare_rows (node [] no_part (half n) high) h = absurd (cc)
bare_rows (node [] (part a root more) low high) h = absurd (cc)
bare_rows (node (row ∷ rows) parts low high) h = absurd (cc)

some_first : (xs ys : List Row) → is_some xs ≡ true → is_some (xs ++ ys) ≡ true
some_first [] ys h = absurd (cc)
some_first (x ∷ xs) ys h = refl

some_last : (xs ys : List Row) → is_some ys ≡ true → is_some (xs ++ ys) ≡ true
some_last [] ys h = h
some_last (x ∷ xs) ys h = refl

held : (leaf : List Row) (xs : List (Hop × Plain)) (x : Hop × Plain) → AllByRecursion (λ y. holds_rows y ≡ true) (x ∷ xs) → is_some (leaf ++ flat_map rows_of (x ∷ xs)) ≡ true
held leaf xs x h = some_last leaf (flat_map rows_of (x ∷ xs)) (some_first (rows_below x.1) (flat_map rows_of xs) h.0)

pub some_below : (k : Known) (n : Plain) → is_pruned_at k n ≡ true → is_bare n ≡ false → is_some (rows_below n) ≡ true
some_below k n p h =
    ap is_some (rows_are n) ∙ by_form n h (Each-from_test holds_rows (children n) (sym (pruned_is k n) ∙ p))
  where
    by_form : (m : Plain) → is_bare m ≡ false → AllByRecursion (λ y. holds_rows y ≡ true) (children m) → is_some (leaf_of m ++ flat_map rows_of (children m)) ≡ true
    by_form (node (row ∷ rows) parts low high) e each = refl
    by_form (node [] (part a root more) low high) e each =
        held [] (roots_of more ++ root_of Low low ++ root_of High high) (Part a, root) each
    by_form (node [] no_part (half m) high) e each = held [] (root_of High high) (Low, m) each
    by_form (node [] no_part no_half (half m)) e each = held [] [] (High, m) each
    by_form (node [] no_part no_half no_half) e each = absurd (cc)

-- the rows of a child that may not be kept
kept_rows : (hop : Hop) (o : Plain) → flat_map rows_of (kept hop o) ≡ rows_below o
kept_rows hop o = by_test (is_bare o) refl
  where
    by_test : (b : Bool) → is_bare o ≡ b → flat_map rows_of (cond b [] ((hop, o) ∷ [])) ≡ rows_below o
    by_test true e = sym (bare_rows o e)
    by_test false e = append-nil (rows_below o)

between : (p m o q : List Row) (x : Row) → IsPermutation m (x ∷ o) → IsPermutation (p ++ m ++ q) (x ∷ (p ++ o ++ q))
between p m o q x h =
    IsPermutation-append_left q (p ++ m) (x ∷ (p ++ o)) (IsPermutation-trans (p ++ m) (p ++ x ∷ o) (x ∷ (p ++ o)) (IsPermutation-append_right p m (x ∷ o) h) (IsPermutation-middle p x o))

rows_round : (leaf : List Row) (before mid after : List (Hop × Plain)) → leaf ++ flat_map rows_of (before ++ mid ++ after) ≡ (leaf ++ flat_map rows_of before) ++ flat_map rows_of mid ++ flat_map rows_of after
rows_round leaf before mid after =
    let b = flat_map rows_of before in
    let m = flat_map rows_of mid in
    let a = flat_map rows_of after in
    ap (λ l. leaf ++ l) (flat_map-append rows_of (before ++ mid) after ∙ ap (λ l. l ++ a) (flat_map-append rows_of before mid))
    ∙ sym (append_assoc leaf (b ++ m) a) ∙ ap (λ l. l ++ a) (sym (append_assoc leaf b m))

one_between : {X : Type 0} (before after : List X) (x : X) → before ++ (x ∷ []) ++ after ≡ before ++ x ∷ after
one_between before after x = append_assoc before (x ∷ []) after

-- the rows below the node: this one less
pub less_rows : (s : Attributes) (r : NodeRange) (row : Row) (n w : Plain) → IsLess s r row (children n) (children w) → leaf_of w ≡ leaf_of n → IsPermutation (rows_below n) (row ∷ rows_below w)
less_rows s r row n w l leaf =
    let p = leaf_of n ++ flat_map rows_of l.before in
    let q = flat_map rows_of l.after in
    let old : rows_below n ≡ p ++ rows_below l.old ++ q =
    rows_are n ∙ ap (λ c. leaf_of n ++ flat_map rows_of c) (l.was ∙ sym (one_between l.before l.after (l.hop, l.old))) ∙ rows_round (leaf_of n) l.before ((l.hop, l.old) ∷ []) l.after ∙ ap (λ m. p ++ m ++ q) (append-nil (rows_below l.old)) in
    let new : rows_below w ≡ p ++ rows_below l.new ++ q =
    rows_are w ∙ ap (λ f. f ++ flat_map rows_of (children w)) leaf ∙ ap (λ c. leaf_of n ++ flat_map rows_of c) l.is ∙ rows_round (leaf_of n) l.before (kept l.hop l.new) l.after ∙ ap (λ m. p ++ m ++ q) (kept_rows l.hop l.new) in
    subst (λ u. IsPermutation u (row ∷ rows_below w)) (sym old) (subst (λ u. IsPermutation (p ++ rows_below l.old ++ q) (row ∷ u)) (sym new) (between p (rows_below l.old) (rows_below l.new) q row l.gone))

-- what holds of each child
Each-kept : (P : Hop × Plain → Type 0) (before after : List (Hop × Plain)) (hop : Hop) (m o : Plain) → AllByRecursion P (before ++ (hop, m) ∷ after) → (is_bare o ≡ false → P (hop, o)) → AllByRecursion P (before ++ kept hop o ++ after)
Each-kept P before after hop m o each new =
    let q = Each-parts P before ((hop, m) ∷ after) each in
    Each-append P (before ++ kept hop o) after (Each-append P before (kept hop o) q.0 (by_test (is_bare o) refl)) q.1.1
  where
    by_test : (b : Bool) → is_bare o ≡ b → AllByRecursion P (cond b [] ((hop, o) ∷ []))
    by_test true e = tt
    by_test false e = (new e, tt)

-- the attributes of the parts among the children
abbrev attrs_among : List (Hop × Plain) → List AttrNo
attrs_among [] = []
attrs_among ((Part a, n) ∷ xs) = a ∷ attrs_among xs
attrs_among ((Low, n) ∷ xs) = attrs_among xs
attrs_among ((High, n) ∷ xs) = attrs_among xs

attrs_joined : (xs ys : List (Hop × Plain)) → attrs_among (xs ++ ys) ≡ attrs_among xs ++ attrs_among ys
attrs_joined [] ys = refl
attrs_joined ((Part a, n) ∷ xs) ys = ap (λ l. a ∷ l) (attrs_joined xs ys)
attrs_joined ((Low, n) ∷ xs) ys = attrs_joined xs ys
attrs_joined ((High, n) ∷ xs) ys = attrs_joined xs ys

attrs_of_roots : (parts : Parts) → attrs_among (roots_of parts) ≡ attrs_of parts
attrs_of_roots no_part = refl
attrs_of_roots (part a root more) = ap (λ l. a ∷ l) (attrs_of_roots more)

attrs_of_low : (h : Half) → attrs_among (root_of Low h) ≡ []
attrs_of_low no_half = refl
attrs_of_low (half n) = refl

attrs_of_high : (h : Half) → attrs_among (root_of High h) ≡ []
attrs_of_high no_half = refl
attrs_of_high (half n) = refl

attrs_are : (n : Plain) → attrs_among (children n) ≡ attrs_of (parts_under n)
attrs_are (node rows parts low high) =
    attrs_joined (roots_of parts ++ root_of Low low) (root_of High high) ∙ ap (λ l. attrs_among (roots_of parts ++ root_of Low low) ++ l) (attrs_of_high high) ∙ append-nil (attrs_among (roots_of parts ++ root_of Low low))
    ∙ attrs_joined (roots_of parts) (root_of Low low) ∙ ap (λ l. attrs_among (roots_of parts) ++ l) (attrs_of_low low) ∙ append-nil (attrs_among (roots_of parts)) ∙ attrs_of_roots parts

-- attributes that rise still do without one
skip_one : (a b : AttrNo) (ys : List AttrNo) → attrs_rise (a ∷ b ∷ ys) ≡ true → attrs_rise (a ∷ ys) ≡ true
skip_one a b [] h = refl
skip_one a b (c ∷ ys) h =
    let p = and_parts (ltb a.0 b.0) (attrs_rise (b ∷ c ∷ ys)) h in
    let q = and_parts (ltb b.0 c.0) (attrs_rise (c ∷ ys)) p.1 in
    let x = ltb-true a.0 b.0 p.0 in
    let y = ltb-true b.0 c.0 q.0 in
    let z : a.0 < c.0 = omega arith in and_from (ltb a.0 c.0) (attrs_rise (c ∷ ys)) (lt-ltb a.0 c.0 z) q.1

rise_without : (xs ys : List AttrNo) (a : AttrNo) → attrs_rise (xs ++ a ∷ ys) ≡ true → attrs_rise (xs ++ ys) ≡ true
rise_without [] ys a h = attrs_rise-tail a ys h
rise_without (b ∷ []) ys a h = skip_one b a ys h
rise_without (b ∷ c ∷ xs) ys a h =
    let p = and_parts (ltb b.0 c.0) (attrs_rise (c ∷ xs ++ a ∷ ys)) h in
    and_from (ltb b.0 c.0) (attrs_rise (c ∷ xs ++ ys)) p.0 (rise_without (c ∷ xs) ys a p.1)

dropped : (before after : List (Hop × Plain)) (hop : Hop) (m : Plain) → attrs_rise (attrs_among (before ++ (hop, m) ∷ after)) ≡ true → attrs_rise (attrs_among (before ++ after)) ≡ true
dropped before after (Part a) m h =
    ap attrs_rise (attrs_joined before after) ∙ rise_without (attrs_among before) (attrs_among after) a (ap attrs_rise (sym (attrs_joined before ((Part a, m) ∷ after))) ∙ h)
dropped before after Low m h =
    ap attrs_rise (attrs_joined before after ∙ sym (attrs_joined before ((Low, m) ∷ after))) ∙ h
dropped before after High m h =
    ap attrs_rise (attrs_joined before after ∙ sym (attrs_joined before ((High, m) ∷ after))) ∙ h

same_attrs : (before after : List (Hop × Plain)) (hop : Hop) (m o : Plain) → attrs_among (before ++ (hop, o) ∷ after) ≡ attrs_among (before ++ (hop, m) ∷ after)
same_attrs before after (Part a) m o = attrs_joined before ((Part a, o) ∷ after) ∙ sym (attrs_joined before ((Part a, m) ∷ after))
same_attrs before after Low m o = attrs_joined before ((Low, o) ∷ after) ∙ sym (attrs_joined before ((Low, m) ∷ after))
same_attrs before after High m o = attrs_joined before ((High, o) ∷ after) ∙ sym (attrs_joined before ((High, m) ∷ after))

less_rise : (before after : List (Hop × Plain)) (hop : Hop) (m o : Plain) → attrs_rise (attrs_among (before ++ (hop, m) ∷ after)) ≡ true → attrs_rise (attrs_among (before ++ kept hop o ++ after)) ≡ true
less_rise before after hop m o h = by_test (is_bare o)
  where
    by_test : (b : Bool) → attrs_rise (attrs_among (before ++ cond b [] ((hop, o) ∷ []) ++ after)) ≡ true
    by_test true =
        ap (λ l. attrs_rise (attrs_among (l ++ after))) (append-nil before) ∙ dropped before after hop m h
    by_test false =
        ap (λ l. attrs_rise (attrs_among l)) (one_between before after (hop, o)) ∙ ap attrs_rise (same_attrs before after hop m o) ∙ h

-- a row that may pass to none may still pass to none
less_passes : (s : Attributes) (k : Known) (before after : List (Hop × Plain)) (hop : Hop) (m o : Plain) (row : Row) → passes_one s k (before ++ (hop, m) ∷ after) row ≡ false → passes_one s k (before ++ kept hop o ++ after) row ≡ false
less_passes s k before after hop m o row h =
    let f = λ (y : Hop × Plain). may_pass s y.0 k.range row in
    let q = or_parts (list_any f before) (may_pass s hop k.range row || list_any f after) (sym (list_any-append f before ((hop, m) ∷ after)) ∙ h) in
    let z = or_parts (may_pass s hop k.range row) (list_any f after) q.1 in
    list_any-append f (before ++ kept hop o) after ∙ or_from (list_any f (before ++ kept hop o)) (list_any f after) (list_any-append f before (kept hop o) ∙ or_from (list_any f before) (list_any f (kept hop o)) q.0 (by_test (is_bare o) z.0)) z.1
  where
    by_test : (b : Bool) → may_pass s hop k.range row ≡ false → list_any (λ (y : Hop × Plain). may_pass s y.0 k.range row) (cond b [] ((hop, o) ∷ [])) ≡ false
    by_test true e = refl
    by_test false e = or_from (may_pass s hop k.range row) false e refl

less_drawn : (s : Attributes) (k : Known) (before after : List (Hop × Plain)) (hop : Hop) (m o : Plain) (rows : List Row) → list_all (λ row. not (passes_one s k (before ++ (hop, m) ∷ after) row)) rows ≡ true → list_all (λ row. not (passes_one s k (before ++ kept hop o ++ after) row)) rows ≡ true
less_drawn s k before after hop m o [] h = refl
less_drawn s k before after hop m o (row ∷ rows) h =
    let a = and_parts (not (passes_one s k (before ++ (hop, m) ∷ after) row)) (list_all (λ z. not (passes_one s k (before ++ (hop, m) ∷ after) z)) rows) h in
    and_from (not (passes_one s k (before ++ kept hop o ++ after) row)) (list_all (λ z. not (passes_one s k (before ++ kept hop o ++ after) z)) rows)
    (not_from_false (passes_one s k (before ++ kept hop o ++ after) row) (less_passes s k before after hop m o row (not-true (passes_one s k (before ++ (hop, m) ∷ after) row) a.0)))
    (less_drawn s k before after hop m o rows a.1)

-- the node is still right
pub less_right : (s : Attributes) (r : NodeRange) (used : List AttrNo) (row : Row) (n w : Plain) → IsLess s r row (children n) (children w) → leaf_of w ≡ leaf_of n → IsRight s (known r used) n → IsRight s (known r used) w
less_right s r used row n w l leaf t =
    let k = known r used in
    let v = levels (is_right_at s) s k n t.right in
    let here = right_here s k n v.here in
    let pl = placed_by s k n here.0 v.children in
    let rows = less_rows s r row n w l leaf in
    let stay = λ (q : Row → Bool) (u : list_all q (rows_below n) ≡ true). (and_parts (q row) (list_all q (rows_below w)) (all_permuted q (rows_below n) (row ∷ rows_below w) rows u)).1 in
    let new_right = l.right used (child_right s k n l.old l.hop t (record { before = l.before; after = l.after; is = l.was })) in
    let each = λ (P : Hop × Plain → Type 0) (old : AllByRecursion P (children n)) (new : is_bare l.new ≡ false → P (l.hop, l.new)). subst (AllByRecursion P) (sym l.is) (Each-kept P l.before l.after l.hop l.old l.new (subst (AllByRecursion P) l.was old) new) in
    let at_old = λ (P : Hop × Plain → Type 0) (old : AllByRecursion P (children n)). Each-at P l.before l.after (l.hop, l.old) (subst (AllByRecursion P) l.was old) in
    let passing = (and_parts (may_pass s l.hop r row) (list_all (may_pass s l.hop r) (rows_below l.new)) (all_permuted (may_pass s l.hop r) (rows_below l.old) (row ∷ rows_below l.new) l.gone (at_old (λ (x : Hop × Plain). list_all (may_pass s x.0 k.range) (rows_below x.1) ≡ true) pl.pass))).1 in
    record {
      right = right_from s k w
          (is_placed_from s k w (record {
            rise = ap attrs_rise (sym (attrs_are w) ∙ ap attrs_among l.is) ∙ less_rise l.before l.after l.hop l.old l.new (ap attrs_rise (sym (ap attrs_among l.was) ∙ attrs_are n) ∙ pl.rise);
            inside = stay (spans_inside s r) pl.inside;
            open_steps = each (λ (x : Hop × Plain). is_open x.0 k ≡ true) pl.open_steps (λ _. at_old (λ (x : Hop × Plain). is_open x.0 k ≡ true) pl.open_steps);
            pass = each (λ (x : Hop × Plain). list_all (may_pass s x.0 k.range) (rows_below x.1) ≡ true) pl.pass (λ _. passing);
          }))
          (drawn_is s k w ∙ ap (λ c. list_all (λ z. not (passes_one s k c z)) (leaf_of w)) l.is ∙ ap (λ q. list_all (λ z. not (passes_one s k (l.before ++ kept l.hop l.new ++ l.after) z)) q) leaf
          ∙ less_drawn s k l.before l.after l.hop l.old l.new (leaf_of n) (ap (λ c. list_all (λ z. not (passes_one s k c z)) (leaf_of n)) (sym l.was) ∙ sym (drawn_is s k n) ∙ here.1))
          (pruned_is k w ∙ test_from_Each holds_rows (children w) (each (λ (x : Hop × Plain). holds_rows x ≡ true) (Each-from_test holds_rows (children n) (sym (pruned_is k n) ∙ here.2)) (λ b. some_below (known_below s l.hop k) l.new (right_here s (known_below s l.hop k) l.new (levels (is_right_at s) s (known_below s l.hop k) l.new new_right.right).here).2 b)))
          (settled_is s k w ∙ ap (λ q. leb (length q) LEAF_ROWS || list_all (is_stuck s k) q) leaf ∙ sym (settled_is s k n) ∙ here.3)
          (each (IsBelow s k) v.children (λ _. new_right.right));
      may = stay (may_stand s) t.may;
    }

-- each child of a right node stands right below it
pub right_below : (s : Attributes) (r : NodeRange) (used : List AttrNo) (n : Plain) → IsRight s (known r used) n → AllByRecursion (IsRightBelow s r) (children n)
right_below s r used n t =
    let k = known r used in
    let pl = placed_at s k n t in joined (children n) (λ before after x e. child_right s k n x.1 x.0 t (record { before = before; after = after; is = e })) [] refl pl.open_steps pl.pass
  where
    joined : (xs : List (Hop × Plain)) → ((before after : List (Hop × Plain)) (x : Hop × Plain) → children n ≡ before ++ x ∷ after → IsRight s (known_below s x.0 (known r used)) x.1) → (before : List (Hop × Plain)) → children n ≡ before ++ xs
        → AllByRecursion (λ (x : Hop × Plain). is_open x.0 (known r used) ≡ true) xs → AllByRecursion (λ (x : Hop × Plain). list_all (may_pass s x.0 r) (rows_below x.1) ≡ true) xs → AllByRecursion (IsRightBelow s r) xs
    joined [] f before e o p = tt
    joined (x ∷ xs) f before e o p =
        (record { used = used; is_open = o.0; right = f before xs x e; pass = p.0 }, joined xs f (before ++ x ∷ []) (e ∙ sym (append_assoc before (x ∷ []) xs)) o.1 p.1)

-- one of some children is one of these and others
pub less_among : (s : Attributes) (r : NodeRange) (row : Row) (p xs ys q : List (Hop × Plain)) → IsLess s r row xs ys → IsLess s r row (p ++ xs ++ q) (p ++ ys ++ q)
less_among s r row p xs ys q l =
    record {
      hop = l.hop;
      old = l.old;
      new = l.new;
      before = p ++ l.before;
      after = l.after ++ q;
      was = ap (λ c. p ++ c ++ q) l.was ∙ ap (λ c. c ++ q) (sym (append_assoc p l.before ((l.hop, l.old) ∷ l.after))) ∙ append_assoc (p ++ l.before) ((l.hop, l.old) ∷ l.after) q;
      is = ap (λ c. p ++ c ++ q) l.is ∙ ap (λ c. c ++ q) (sym (append_assoc p (l.before ++ kept l.hop l.new) l.after) ∙ ap (λ c. c ++ l.after) (sym (append_assoc p l.before (kept l.hop l.new)))) ∙ append_assoc ((p ++ l.before) ++ kept l.hop l.new) l.after q;
      gone = l.gone;
      right = l.right;
    }
