-- A shift: where it stands, and what it leaves.
use Rattle.std.proofs.Common.{◌≡◌, ◌≢◌, ◌≤◌, ℕ, zero, suc, Bool, true, false, not, cond, eqb, ◌&&◌, List, [], ◌∷◌, ◌++◌, length, Option, None, Some, MatchOption, option_map, option_and_then, refl, sym, ap, ◌∙◌, subst, arith}
use Rattle.std.specs.Prelude.{IsPermutation}
use Rattle.std.specs.List.{list_all, list_any, Contains}
use Rattle.std.proofs.lemmas.Bool.{and_parts, and_from, not-true, not_from_false, eqb-true, eq-eqb, ne_eqb}
use Rattle.std.proofs.lemmas.List.{append-nil}
use Rattle.std.proofs.lemmas.List.Sorted.{IsPermutation-append_comm, IsPermutation-trans}
use Rattle.be_base.specs.declared.names.AttrNo.{AttrNo}
use Rattle.be_model.specs.declared.changes.Row.{Row}
use Rattle.be_model.specs.declared.paths.Hop.{Hop}
use Rattle.be_model.specs.declared.paths.Hop.TheVariants.{Part, Low, High}
use Rattle.be_model.specs.ByIds.{ids_differ}
use Rattle.be_model.specs.Rows.{id_of, has}
use Rattle.be_model.specs.Schemas.{Attributes, IsSchema, numbered}
use Rattle.be_shape.specs.Plain.{Plain, node, Parts, no_part, part, rows_below, leaf_of}
use Rattle.be_shape.specs.Shape.{Known, spans_inside, may_stand}
use Rattle.be_shape.specs.Children.{known_below, is_open}
use Rattle.be_shape.specs.Paths.{part_on, child, walk}
use Rattle.be_shape.specs.Right.{IsRight}
use Rattle.be_shape.specs.Steps.{is_node, rows_at, rows_of_node, other_part, other_child, can_shift, IsShifted}
use Rattle.be_shape.proofs.OneLevel.{others, child_last}
use Rattle.be_shape.proofs.Among.{Among, placed_at, is_open_at, child_right, row_inside}
use Rattle.be_shape.proofs.Contents.{still_differ}
use Rattle.be_shape.proofs.Replacements.{one_other, child_set}
use Rattle.be_insert.proofs.Steps.{Leaves, deeper}
use Rattle.be_adjust.specs.Finds.{may_shift, first_of}
use Rattle.be_adjust.specs.Shifts.{MayShift, MayShiftAt, PlacedBelow, TakesRow, PartTakes}
use Rattle.be_adjust.proofs.Finding.{found_one, found_any, found_none}
use Rattle.be_adjust.proofs.Merged.{child_may}
use Rattle.be_adjust.proofs.Cancelled.{cancelled, back_differ}

-- what the search below the first part says
pub shift_found : {A : Type 0} (value : A → Row) (from to : AttrNo) (id : ℕ) (n below other : Plain) (o : Option A) → eqb from.0 to.0 ≡ false → child (Part from) n ≡ Some below → child (Part to) n ≡ Some other → option_map value o ≡ first_of (may_shift to id) (rows_below below)
    → MatchOption o (can_shift from to id n ≡ false) (λ r. MayShift from to id n (value r))
shift_found value from to id n below other None d f t h =
    let p = may_shift to id in
    ap (λ x. (not (eqb from.0 to.0) && is_node (child (Part from) n) && is_node (child (Part to) n)) && list_any p (rows_of_node x)) f ∙ last _ (list_any p (rows_below below)) (found_none p (rows_below below) (sym h))
  where
    last : (a b : Bool) → b ≡ false → (a && b) ≡ false
    last true b e = e
    last false b e = refl
shift_found value from to id n below other (Some r) d f t h =
    let p = may_shift to id in
    let z = found_one p (rows_below below) (value r) (sym h) in
    let a = not (eqb from.0 to.0) in
    let b = is_node (child (Part from) n) in
    let c = is_node (child (Part to) n) in
    let is : rows_at (Part from) n ≡ rows_below below = ap rows_of_node f in
    record {
      stands = and_from (a && b && c) (list_any p (rows_at (Part from) n)) (and_from (a && b) c (and_from a b (not_from_false (eqb from.0 to.0) d) (ap is_node f)) (ap is_node t)) (ap (list_any p) is ∙ found_any p (rows_below below) (value r) (sym h));
      there = subst (λ l. Contains l (value r)) (sym is) z.0;
      passes = z.1;
    }

-- what it says that a shift stands
pub record ShiftStands (from to : AttrNo) (n : Plain) : Type 0 where
  pub differ : eqb from.0 to.0 ≡ false
  pub first : Plain
  pub from_there : child (Part from) n ≡ Some first
  pub second : Plain
  pub to_there : child (Part to) n ≡ Some second

some_node : (o : Option Plain) → is_node o ≡ true → (m : Plain) × (o ≡ Some m)
some_node None h = absurd (cc)
some_node (Some m) h = (m, refl)

pub shift_stands : (from to : AttrNo) (id : ℕ) (n : Plain) → can_shift from to id n ≡ true → ShiftStands from to n
shift_stands from to id n h =
    let a = not (eqb from.0 to.0) in
    let b = is_node (child (Part from) n) in
    let c = is_node (child (Part to) n) in
    let x = and_parts (a && b && c) (list_any (may_shift to id) (rows_at (Part from) n)) h in
    let y = and_parts (a && b) c x.0 in
    let z = and_parts a b y.0 in
    let f = some_node (child (Part from) n) z.1 in
    let t = some_node (child (Part to) n) y.1 in
    record { differ = not-true (eqb from.0 to.0) z.0; first = f.0; from_there = f.1; second = t.0; to_there = t.1 }

pub parts_differ : (a b : AttrNo) → eqb a.0 b.0 ≡ false → Part a ≢ Part b
parts_differ a b h e = absurd (by_hop (Part a) (Part b) e h)
  where
    number : Hop → ℕ
    number (Part c) = c.0
    number Low = 0
    number High = 0

    by_hop : (g k : Hop) → g ≡ k → eqb (number g) (number k) ≡ false → ⊥
    by_hop g k same f = let t = eq-eqb (number g) (number k) (ap number same) in absurd (cc)

-- another child is as before
part_else : (parts : Parts) (a b : AttrNo) (o : Plain) → eqb a.0 b.0 ≡ false → part_on a (other_part b o parts) ≡ part_on a parts
part_else no_part a b o d = refl
part_else (part c root more) a b o d = by_test (eqb c.0 b.0) refl (part_else more a b o d)
  where
    apart : eqb c.0 b.0 ≡ true → eqb c.0 a.0 ≡ false
    apart e = ne_eqb c.0 a.0 (λ k. let f = eq-eqb a.0 b.0 (sym k ∙ eqb-true c.0 b.0 e) in absurd (cc))

    by_test : (t : Bool) → eqb c.0 b.0 ≡ t → part_on a (other_part b o more) ≡ part_on a more → part_on a (other_part b o (part c root more)) ≡ part_on a (part c root more)
    by_test true e f =
        ap (λ z. part_on a (cond z (part c o more) (part c root (other_part b o more)))) e ∙ ap (λ z. cond z (Some o) (part_on a more)) (apart e) ∙ sym (ap (λ z. cond z (Some root) (part_on a more)) (apart e))
    by_test false e f =
        ap (λ z. part_on a (cond z (part c o more) (part c root (other_part b o more)))) e ∙ ap (λ z. cond (eqb c.0 a.0) (Some root) z) f

-- a child other than the part of an attribute
pub child_else : (hop : Hop) (b : AttrNo) (n o : Plain) → hop ≢ Part b → child hop (other_child (Part b) o n) ≡ child hop n
child_else (Part a) b (node rows parts low high) o d = part_else parts a b o (ne_eqb a.0 b.0 (λ e. d (ap (λ i. Part (numbered i)) e)))
child_else Low b (node rows parts low high) o d = refl
child_else High b (node rows parts low high) o d = refl

-- a test of a list holds of a row in it
pub all_of : (q : Row → Bool) (rows : List Row) (x : Row) → list_all q rows ≡ true → Contains rows x → q x ≡ true
all_of q [] x h c = absurd (let l = c.1 in omega arith)
all_of q (y ∷ rows) x h (zero, l, e) = ap q (sym e) ∙ (and_parts (q y) (list_all q rows) h).0
all_of q (y ∷ rows) x h (suc i, l, e) = all_of q rows x (and_parts (q y) (list_all q rows) h).1 (i, omega arith, e)

-- the row may stand in the tree, inside the range of the node, and may pass to the second part
pub record MayGo (s : Attributes) (k : Known) (to : AttrNo) (row : Row) : Type 0 where
  pub may : may_stand s row ≡ true
  pub inside : spans_inside s k.range row ≡ true
  pub passes : has to row ≡ true
  pub below : spans_inside s (known_below s (Part to) k).range row ≡ true

pub may_go : (s : Attributes) (k : Known) (from to : AttrNo) (id : ℕ) (n : Plain) (row : Row) → IsSchema s → IsRight s k n → MayShift from to id n row → MayGo s k to row
may_go s k from to id n row form r v =
    let z = shift_stands from to id n v.stands in
    let there : Contains (rows_below z.first) row = subst (λ l. Contains l row) (ap rows_of_node z.from_there) v.there in
    let may = all_of (may_stand s) (rows_below z.first) row (child_may (may_stand s) (Part from) n z.first z.from_there r.may) there in
    let inside = all_of (spans_inside s k.range) (rows_below z.first) row (child_may (spans_inside s k.range) (Part from) n z.first z.from_there (placed_at s k n r).inside) there in
    let passes = (and_parts (eqb (id_of row) id) (has to row) v.passes).1 in
    record { may = may; inside = inside; passes = passes; below = row_inside s (Part to) k row form may passes }

among : (n m : Plain) (hop : Hop) → child hop n ≡ Some m → Among n m hop
among n m hop h = let x = one_other hop n m m h in record { before = x.before; after = x.after; is = x.was }

pub open_there : (s : Attributes) (k : Known) (n m : Plain) (hop : Hop) → IsRight s k n → child hop n ≡ Some m → is_open hop k ≡ true
open_there s k n m hop r h = is_open_at s k n m hop r (among n m hop h)

pub right_there : (s : Attributes) (k : Known) (n m : Plain) (hop : Hop) → IsRight s k n → child hop n ≡ Some m → IsRight s (known_below s hop k) m
right_there s k n m hop r h = child_right s k n m hop r (among n m hop h)

pub part_takes : (s : Attributes) (k j : Known) (from to : AttrNo) (id : ℕ) (n : Plain) (row : Row) → IsSchema s → IsRight s k n → j ≡ known_below s (Part to) k → MayShift from to id n row → PartTakes s j row (child (Part to) n)
part_takes s k j from to id n row form r at v =
    let z = shift_stands from to id n v.stands in
    let g = may_go s k from to id n row form r v in
    subst (PartTakes s j row) (sym z.to_there) (subst (λ i. TakesRow s i row z.second) (sym at) (record { right = right_there s k n z.second (Part to) r z.to_there; may = g.may; inside = g.below }))

-- where a child takes rows
pub takes_there : (s : Attributes) (j : Known) (row : Row) (o : Option Plain) → PartTakes s j row o → (m : Plain) × (o ≡ Some m) × TakesRow s j row m
takes_there s j row None h = absurd h
takes_there s j row (Some m) h = (m, refl, h)

-- what is left where the row has gone below the second part too, but for what was handed back
pub placed_below : (s : Attributes) (k j : Known) (from to : AttrNo) (id : ℕ) (n w : Plain) (row : Row) (back : List Row) → length back ≤ 1 → IsSchema s → IsRight s k n → j ≡ known_below s (Part to) k → MayShift from to id n row → PlacedBelow s j (Part to) row n w back
    → Leaves s k (rows_below n ++ row ∷ []) w back
placed_below s k j from to id n w row back few form r at v p =
    let g = may_go s k from to id n row form r v in
    let x = one_other (Part to) n p.was p.now p.there in
    subst (λ m. Leaves s k (rows_below n ++ row ∷ []) m back) (sym p.is)
    (deeper s k n (other_child (Part to) p.now n) p.was p.now (Part to) x.before x.after row back r x.was x.is x.leaf x.attrs g.passes g.inside g.may few (record { right = subst (λ i. IsRight s i p.now) at p.right; same = p.rows }))

-- the row was handed back: the rows are as before
pub rows_back : (n w : Plain) (row : Row) → ids_differ (rows_below n) ≡ true → IsPermutation (rows_below n ++ row ∷ []) (rows_below w ++ row ∷ []) → IsPermutation (rows_below n) (rows_below w)
rows_back n w row d h = cancelled (rows_below n) (rows_below w) row h d

-- the row was taken out after it was placed: the rows are as before
pub rows_same : (n w v : Plain) (row : Row) → ids_differ (rows_below n) ≡ true → IsPermutation (rows_below n ++ row ∷ []) (rows_below w ++ []) → IsPermutation (rows_below w) (row ∷ rows_below v) → IsPermutation (rows_below n) (rows_below v)
rows_same n w v row d h t =
    cancelled (rows_below n) (rows_below v) row
    (IsPermutation-trans (rows_below n ++ row ∷ []) (rows_below w) (rows_below v ++ row ∷ []) (subst (IsPermutation (rows_below n ++ row ∷ [])) (append-nil (rows_below w)) h)
    (IsPermutation-trans (rows_below w) (row ∷ rows_below v) (rows_below v ++ row ∷ []) t (IsPermutation-append_comm (row ∷ []) (rows_below v)))) d

-- the first part is as before when the row was placed below the second
pub first_same : (s : Attributes) (j : Known) (from to : AttrNo) (id : ℕ) (n w : Plain) (row : Row) (back : List Row) → MayShift from to id n row → PlacedBelow s j (Part to) row n w back → child (Part from) w ≡ child (Part from) n
first_same s j from to id n w row back v p =
    let z = shift_stands from to id n v.stands in
    ap (child (Part from)) p.is ∙ child_else (Part from) to n p.now (parts_differ from to z.differ)

-- and so the row is shifted
pub is_shifted : (s : Attributes) (j : Known) (from to : AttrNo) (n w v : Plain) (row : Row) → MayShift from to (id_of row) n row → PlacedBelow s j (Part to) row n w [] → ((hop : Hop) → hop ≢ Part from → child hop v ≡ child hop w) → leaf_of v ≡ leaf_of w
    → IsPermutation (rows_at (Part from) w) (row ∷ rows_at (Part from) v) → IsShifted from to (id_of row) n v
is_shifted s j from to n w v row m p others leaf taken =
    let z = shift_stands from to (id_of row) n m.stands in
    let x = one_other (Part to) n p.was p.now p.there in
    let same = first_same s j from to (id_of row) n w row [] m p in
    let apart : Part to ≢ Part from = λ e. parts_differ from to z.differ (sym e) in
    let now : child (Part to) v ≡ Some p.now = others (Part to) apart ∙ ap (child (Part to)) p.is ∙ child_set (Part to) n p.was p.now p.there in
    record {
      row = row;
      is = refl;
      leaf = leaf ∙ ap leaf_of p.is ∙ x.leaf;
      others = λ hop f t. others hop f ∙ ap (child hop) p.is ∙ child_else hop to n p.now t;
      gone = subst (λ l. IsPermutation l (row ∷ rows_at (Part from) v)) (ap rows_of_node same) taken;
      come = subst (λ l. IsPermutation (row ∷ rows_of_node l) (rows_at (Part to) v)) (sym p.there) (subst (λ l. IsPermutation (row ∷ rows_below p.was) (rows_of_node l)) (sym now)
          (IsPermutation-trans (row ∷ rows_below p.was) (rows_below p.was ++ row ∷ []) (rows_below p.now) (IsPermutation-append_comm (row ∷ []) (rows_below p.was)) (subst (IsPermutation (rows_below p.was ++ row ∷ [])) (append-nil (rows_below p.now)) p.rows)));
    }

-- ids differ below a node at the end of a path
pub differ_along : (hops : List Hop) (n m : Plain) → walk hops n ≡ Some m → ids_differ (rows_below n) ≡ true → ids_differ (rows_below m) ≡ true
differ_along [] n m h d = let e : n ≡ m = cc in subst (λ x. ids_differ (rows_below x) ≡ true) e d
differ_along (hop ∷ hops) n m h d = by_child (child hop n) refl h (λ x. differ_along hops x m)
  where
    by_child : (o : Option Plain) → child hop n ≡ o → option_and_then (walk hops) o ≡ Some m → ((x : Plain) → walk hops x ≡ Some m → ids_differ (rows_below x) ≡ true → ids_differ (rows_below m) ≡ true) → ids_differ (rows_below m) ≡ true
    by_child None e k f = absurd (cc)
    by_child (Some x) e k f =
        let a = among n x hop e in
        let c = others (leaf_of n) a.before a.after in
        f x k (back_differ c (rows_below x) (still_differ (rows_below n) (c ++ rows_below x) (child_last n a.before a.after (hop, x) a.is) d))

-- where a shift stands at the end of a path, the node is there
pub shift_there : (from to : AttrNo) (id : ℕ) (o : Option Plain) (row : Row) → MayShiftAt from to id o row → (m : Plain) × (o ≡ Some m) × MayShift from to id m row
shift_there from to id None row h = absurd h
shift_there from to id (Some m) row h = (m, refl, h)
