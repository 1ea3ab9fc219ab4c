-- A path has no more steps than a row below its end allows: each step takes one of those that are left.
use Rattle.std.proofs.Common.{◌≡◌, ℕ, ◌+◌, ◌*◌, ◌≤◌, leb, ltb, eqb, Bool, true, false, true≢false, cond, ◌&&◌, ◌||◌, List, [], ◌∷◌, length, Option, Some, None, refl, sym, ap, ◌∙◌, arith}
use Rattle.std.specs.Prelude.{option_and_then, slice_index_or}
use Rattle.std.specs.List.{list_all, list_any, flat_map, sum_by, AllByRecursion}
use Rattle.std.proofs.lemmas.Bool.{eqb-true, leb-true, le-leb, and_parts, and_from, not-true}
use Rattle.std.proofs.lemmas.Bool.Decides.{nat_tests}
use Rattle.std.proofs.lemmas.List.Sums.{sum_by-cons, sum_by-le, sum_by-le-sum_by}
use Rattle.be_base.specs.declared.limits.TheConstants.{LOG_CHANGES, PREDICATES}
use Rattle.be_base.specs.declared.names.AttrNo.{AttrNo}
use Rattle.be_model.specs.declared.changes.Row.{Row}
use Rattle.be_model.specs.declared.paths.Hop.{Hop}
use Rattle.be_model.specs.declared.paths.Hop.TheVariants.{Part, Low, High}
use Rattle.be_model.specs.declared.preds.Pred.{Pred}
use Rattle.be_model.specs.Bounds.{bits_at}
use Rattle.be_model.specs.Forms.{is_conj}
use Rattle.be_model.specs.Hulls.{is_on}
use Rattle.be_model.specs.Lies.{row_lies}
use Rattle.be_model.specs.Rows.{id_of}
use Rattle.be_model.specs.Schemas.{Attributes, IsSchema, numbered}
use Rattle.be_model.proofs.FormTests.{IsConj-from_is_conj}
use Rattle.be_model.proofs.RangeBits.{bits_few}
use Rattle.be_shape.specs.Children.{children, known_below, is_open, may_pass}
use Rattle.be_shape.specs.Depth.{most_steps}
use Rattle.be_shape.specs.Paths.{child, walk}
use Rattle.be_shape.specs.Plain.{Plain, rows_below, leaf_of}
use Rattle.be_shape.specs.Shape.{Known, nothing, everywhere, is_placed_at, is_pruned_at, is_some, is_used, may_stand}
use Rattle.be_shape.proofs.BitsLeft.{bits_left, whole_bits, low_left, high_left}
use Rattle.be_shape.proofs.Children.{Each-from_test, below, levels, rows_of, rows_are}
use Rattle.be_shape.proofs.Levels.{holds_rows, pruned_is}
use Rattle.be_shape.proofs.Lists.{all_front, all_back}
use Rattle.be_shape.proofs.Placed.{at_child, placed}

turned : (n m : ℕ) → eqb n m ≡ true → eqb m n ≡ true
turned n m h = grind (arith, nat_tests)

module _ (s : Attributes) where
  -- the ranges of a predicate's attribute, where that isn't used yet
  abbrev unused : List AttrNo → Pred → ℕ
  unused used p = cond (is_used used p.attr) 0 (1 + bits_at s p.attr)

  -- what is left of a row's ranges at a node
  abbrev left : Known → Row → ℕ
  left k row = bits_left k.range + sum_by (unused k.used) row.conj

  less_unused : (a : AttrNo) (used : List AttrNo) (p : Pred) → unused (a ∷ used) p ≤ unused used p
  less_unused a used p = by_tests (eqb a.0 p.attr.0) (is_used used p.attr) (1 + bits_at s p.attr)
    where
      by_tests : (x y : Bool) (n : ℕ) → cond (x || y) 0 n ≤ cond y 0 n
      by_tests true true n = omega arith
      by_tests true false n = omega arith
      by_tests false y n = omega arith

  -- the attribute that a step uses is left before it, and not behind it
  used_now : (a : AttrNo) (used : List AttrNo) (p : Pred) → is_used used a ≡ false → eqb p.attr.0 a.0 ≡ true → unused (a ∷ used) p + (1 + bits_at s a) ≡ unused used p
  used_now a used p u e =
      let before = ap (λ n. cond (is_used used (numbered n)) 0 (1 + bits_at s (numbered n))) (eqb-true p.attr.0 a.0 e) ∙ ap (λ b. cond b 0 (1 + bits_at s a)) u in
      let behind = ap (λ b. cond (b || is_used used p.attr) 0 (1 + bits_at s p.attr)) (turned p.attr.0 a.0 e) in omega (arith, before, behind)

  part_takes : (a : AttrNo) (used : List AttrNo) (conj : List Pred) → is_used used a ≡ false → list_any (is_on a) conj ≡ true → sum_by (unused (a ∷ used)) conj + (1 + bits_at s a) ≤ sum_by (unused used) conj
  part_takes a used [] u h = absurd (true≢false (sym h))
  part_takes a used (p ∷ conj) u h = by_test (eqb p.attr.0 a.0) refl h (λ g. part_takes a used conj u g)
    where
      by_test : (b : Bool) → eqb p.attr.0 a.0 ≡ b → (b || list_any (is_on a) conj) ≡ true → (list_any (is_on a) conj ≡ true → sum_by (unused (a ∷ used)) conj + (1 + bits_at s a) ≤ sum_by (unused used) conj)
          → sum_by (unused (a ∷ used)) (p ∷ conj) + (1 + bits_at s a) ≤ sum_by (unused used) (p ∷ conj)
      by_test true e g more =
          omega (arith, sum_by-cons (unused (a ∷ used)) p conj, sum_by-cons (unused used) p conj, used_now a used p u e, sum_by-le-sum_by (unused (a ∷ used)) (unused used) conj (less_unused a used))
      by_test false e g more =
          omega (arith, sum_by-cons (unused (a ∷ used)) p conj, sum_by-cons (unused used) p conj, less_unused a used p, more g)

  -- a step takes one of them at least
  step_takes : (hop : Hop) (k : Known) (row : Row) → is_open hop k ≡ true → may_pass s hop k.range row ≡ true → 1 + left (known_below s hop k) row ≤ left k row
  step_takes (Part a) k row o h = omega (arith, whole_bits s a, part_takes a k.used row.conj (not-true (is_used k.used a) o) h)
  step_takes Low k row o h = omega (arith, low_left k.range o)
  step_takes High k row o h = omega (arith, high_left k.range o)

all_both : (p q r : Row → Bool) → ((row : Row) → p row ≡ true → q row ≡ true → r row ≡ true) → (rows : List Row) → list_all p rows ≡ true → list_all q rows ≡ true → list_all r rows ≡ true
all_both p q r f [] g h = refl
all_both p q r f (row ∷ rows) g h =
    let a = and_parts (p row) (list_all p rows) g in
    let b = and_parts (q row) (list_all q rows) h in and_from (r row) (list_all r rows) (f row a.0 b.0) (all_both p q r f rows a.1 b.1)

-- what holds of all rows below a node holds of those below a child, and of those at the end of a path
each_all : (q : Row → Bool) (xs : List (Hop × Plain)) → list_all q (flat_map rows_of xs) ≡ true → AllByRecursion (λ (x : Hop × Plain). list_all q (rows_below x.1) ≡ true) xs
each_all q [] h = tt
each_all q (x ∷ xs) h = (all_front q (rows_of x) (flat_map rows_of xs) h, each_all q xs (all_back q (rows_of x) (flat_map rows_of xs) h))

down : (q : Row → Bool) (hop : Hop) (n m : Plain) → child hop n ≡ Some m → list_all q (rows_below n) ≡ true → list_all q (rows_below m) ≡ true
down q hop n m e h =
    at_child (λ (x : Hop × Plain). list_all q (rows_below x.1) ≡ true) hop n m e (each_all q (children n) (all_back q (leaf_of n) (flat_map rows_of (children n)) (sym (ap (list_all q) (rows_are n)) ∙ h)))

all_down : (q : Row → Bool) (path : List Hop) (n m : Plain) → walk path n ≡ Some m → list_all q (rows_below n) ≡ true → list_all q (rows_below m) ≡ true
all_down q [] n m e h = let same : n ≡ m = cc in sym (ap (λ x. list_all q (rows_below x)) same) ∙ h
all_down q (hop ∷ path) n m e h = by_child (child hop n) refl e (λ c w i. all_down q path c m w i)
  where
    by_child : (o : Option Plain) → child hop n ≡ o → option_and_then (walk path) o ≡ Some m → ((c : Plain) → walk path c ≡ Some m → list_all q (rows_below c) ≡ true → list_all q (rows_below m) ≡ true) → list_all q (rows_below m) ≡ true
    by_child None f w on = absurd (cc)
    by_child (Some c) f w on = on c w (down q hop n c f h)

module _ (s : Attributes) where
  abbrev fits : ℕ → Known → Row → Bool
  fits steps k row = leb steps (left s k row)

  no_steps : (k : Known) (rows : List Row) → list_all (fits 0 k) rows ≡ true
  no_steps k [] = refl
  no_steps k (row ∷ rows) = and_from (fits 0 k row) (list_all (fits 0 k) rows) (le-leb 0 (left s k row) (omega arith)) (no_steps k rows)

  -- a path from a node takes no more than is left there of the rows below its end
  path_takes : (path : List Hop) (k : Known) (n m : Plain) → everywhere (is_placed_at s) s k n ≡ true → walk path n ≡ Some m → list_all (fits (length path) k) (rows_below m) ≡ true
  path_takes [] k n m h e = no_steps k (rows_below m)
  path_takes (hop ∷ path) k n m h e = by_child (child hop n) refl e (λ c i w. path_takes path (known_below s hop k) c m i w)
    where
      by_child : (o : Option Plain) → child hop n ≡ o → option_and_then (walk path) o ≡ Some m
          → ((c : Plain) → everywhere (is_placed_at s) s (known_below s hop k) c ≡ true → walk path c ≡ Some m → list_all (fits (length path) (known_below s hop k)) (rows_below m) ≡ true)
          → list_all (fits (length (hop ∷ path)) k) (rows_below m) ≡ true
      by_child None f w on = absurd (cc)
      by_child (Some c) f w on =
          let l = levels (is_placed_at s) s k n h in
          let p = placed s k n l in
          let passes = may_pass s hop k.range in
          let may = at_child (λ (x : Hop × Plain). is_open x.0 k ≡ true) hop n c f p.open_steps in
          let pass = all_down passes path c m w (at_child (λ (x : Hop × Plain). list_all (may_pass s x.0 k.range) (rows_below x.1) ≡ true) hop n c f p.pass) in
          let rest = on c (at_child (λ (x : Hop × Plain). below (is_placed_at s) s k x ≡ true) hop n c f l.children) w in
          all_both passes (fits (length path) (known_below s hop k)) (fits (length (hop ∷ path)) k)
          (λ row a b. let t = step_takes s hop k row may a in
          let u = leb-true (length path) (left s (known_below s hop k) row) b in le-leb (length (hop ∷ path)) (left s k row) (omega (arith, t, u)))
          (rows_below m) pass rest

  -- at the root all of them are left
  at_root : (row : Row) → sum_by (unused s []) row.conj ≡ most_steps s row
  at_root row = refl

  pub steps_are_bounded : (n : Plain) → everywhere (is_placed_at s) s nothing n ≡ true → (path : List Hop) (m : Plain) → walk path n ≡ Some m → list_all (λ row. leb (length path) (most_steps s row)) (rows_below m) ≡ true
  steps_are_bounded n h path m e =
      let bounded : Row → Bool = λ row. leb (length path) (most_steps s row) in
      let all = path_takes path nothing n m h e in
      all_both (fits (length path) nothing) (fits (length path) nothing) bounded (λ row a b. le-leb (length path) (most_steps s row) (omega (arith, at_root row, leb-true (length path) (left s nothing row) a))) (rows_below m) all all

-- a row is below each node but the root
child_holds : (s : Attributes) (hop : Hop) (k : Known) (n c : Plain) → everywhere is_pruned_at s k n ≡ true → child hop n ≡ Some c → is_some (rows_below c) ≡ true
child_holds s hop k n c h f =
    at_child (λ (x : Hop × Plain). holds_rows x ≡ true) hop n c f (Each-from_test holds_rows (children n) (sym (pruned_is k n) ∙ (levels is_pruned_at s k n h).here))

child_pruned : (s : Attributes) (hop : Hop) (k : Known) (n c : Plain) → everywhere is_pruned_at s k n ≡ true → child hop n ≡ Some c → everywhere is_pruned_at s (known_below s hop k) c ≡ true
child_pruned s hop k n c h f =
    at_child (λ (x : Hop × Plain). below is_pruned_at s k x ≡ true) hop n c f (levels is_pruned_at s k n h).children

some_below : (s : Attributes) (hop : Hop) (path : List Hop) (k : Known) (n m : Plain) → everywhere is_pruned_at s k n ≡ true → walk (hop ∷ path) n ≡ Some m → is_some (rows_below m) ≡ true
some_below s hop [] k n m h e = by_child (child hop n) refl e
  where
    by_child : (o : Option Plain) → child hop n ≡ o → option_and_then (walk []) o ≡ Some m → is_some (rows_below m) ≡ true
    by_child None f w = absurd (cc)
    by_child (Some c) f w = let same : c ≡ m = cc in ap (λ x. is_some (rows_below x)) (sym same) ∙ child_holds s hop k n c h f
some_below s hop (next ∷ path) k n m h e = by_child (child hop n) refl e (λ c i w. some_below s next path (known_below s hop k) c m i w)
  where
    by_child : (o : Option Plain) → child hop n ≡ o → option_and_then (walk (next ∷ path)) o ≡ Some m
        → ((c : Plain) → everywhere is_pruned_at s (known_below s hop k) c ≡ true → walk (next ∷ path) c ≡ Some m → is_some (rows_below m) ≡ true) → is_some (rows_below m) ≡ true
    by_child None f w on = absurd (cc)
    by_child (Some c) f w on = on c (child_pruned s hop k n c h f) w

-- a row has at most 32 attributes of 33 ranges
few_ranges : (s : Attributes) (row : Row) → IsSchema s → may_stand s row ≡ true → most_steps s row ≤ 1056
few_ranges s row f h =
    let conj = IsConj-from_is_conj row.conj (and_parts (is_conj row.conj) (row_lies s row && ltb (id_of row) LOG_CHANGES) h).0 in
    let sum = sum_by-le (λ (p : Pred). 1 + bits_at s p.attr) 33 row.conj (λ i d l. let b = bits_few s (slice_index_or row.conj i d).attr f in omega (arith, b)) in
    omega (arith, sum, conj.few)

pub depth_is_bounded : (s : Attributes) (n : Plain) → IsSchema s → everywhere (is_placed_at s) s nothing n ≡ true → everywhere is_pruned_at s nothing n ≡ true → list_all (may_stand s) (rows_below n) ≡ true
    → (path : List Hop) (m : Plain) → walk path n ≡ Some m → 1 + length path ≤ 1 + PREDICATES * 33
depth_is_bounded s n f placed_all pruned may [] m e = omega arith
depth_is_bounded s n f placed_all pruned may (hop ∷ path) m e =
    by_rows (rows_below m) (some_below s hop path nothing n m pruned e) (steps_are_bounded s n placed_all (hop ∷ path) m e) (all_down (may_stand s) (hop ∷ path) n m e may)
  where
    steps : ℕ
    steps = length (hop ∷ path)

    by_rows : (rows : List Row) → is_some rows ≡ true → list_all (λ row. leb steps (most_steps s row)) rows ≡ true → list_all (may_stand s) rows ≡ true → 1 + steps ≤ 1 + PREDICATES * 33
    by_rows [] some short stand = absurd (true≢false (sym some))
    by_rows (row ∷ rows) some short stand =
        let a = leb-true steps (most_steps s row) (and_parts (leb steps (most_steps s row)) (list_all (λ r. leb steps (most_steps s r)) rows) short).0 in
        let b = few_ranges s row f (and_parts (may_stand s row) (list_all (may_stand s) rows) stand).0 in omega (arith, a, b)
