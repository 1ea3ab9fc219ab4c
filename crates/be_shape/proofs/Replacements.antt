-- A tree with another node at the end of a path: it is right where the other node is right there and has the same rows.
use Rattle.std.proofs.Common.{◌≡◌, ◌<◌, Bool, true, false, not, cond, eqb, leb, ◌&&◌, ◌||◌, List, [], ◌∷◌, ◌++◌, length, Option, Some, None, option_and_then, refl, sym, ap, ◌∙◌, subst, arith}
use Rattle.std.specs.Prelude.{IsPermutation}
use Rattle.std.specs.List.{list_all, AllByRecursion}
use Rattle.std.proofs.lemmas.Bool.{eqb-true, and_from}
use Rattle.std.proofs.lemmas.List.Folds.{list_any-append}
use Rattle.std.proofs.lemmas.List.{append_assoc}
use Rattle.std.proofs.lemmas.List.Sorted.{IsPermutation-append_right, IsPermutation-trans, IsPermutation-sym, length_permutation}
use Rattle.be_base.specs.declared.limits.TheConstants.{LEAF_ROWS}
use Rattle.be_base.specs.declared.names.AttrNo.{AttrNo}
use Rattle.be_model.specs.declared.changes.Row.{Row}
use Rattle.be_model.specs.declared.paths.Hop.{Hop}
use Rattle.be_model.specs.declared.paths.Hop.TheVariants.{Part, Low, High}
use Rattle.be_model.specs.Forms.{attrs_rise}
use Rattle.be_model.specs.Schemas.{Attributes, numbered}
use Rattle.be_shape.specs.Plain.{Plain, node, Parts, no_part, part, no_half, half, rows_below, leaf_of, parts_under}
use Rattle.be_shape.specs.Shape.{Known, is_used, is_stuck, spans_inside, may_stand, attrs_of}
use Rattle.be_shape.specs.Children.{roots_of, root_of, children, known_below, is_open, may_pass}
use Rattle.be_shape.specs.Paths.{part_on, child, walk, range_below, range_along, is_used_on}
use Rattle.be_shape.specs.Right.{is_right_at, IsRight}
use Rattle.be_shape.specs.NodeList.{known_along, are_open}
use Rattle.be_shape.specs.Steps.{other_part, other_child, change_child, replaced}
use Rattle.be_shape.proofs.Children.{Each-from_test, test_from_Each, levels}
use Rattle.be_shape.proofs.Placed.{is_placed_from}
use Rattle.be_shape.proofs.Levels.{holds_rows, pruned_is, passes_one, drawn_is}
use Rattle.be_shape.proofs.Lists.{all_permuted}
use Rattle.be_shape.proofs.OneLevel.{Each-middle, Each-without, Each-at, others, child_last, right_here, right_from}
use Rattle.be_shape.proofs.NodeSteps.{IsBelow, placed_by, settled_is, some_rows, some_length}
use Rattle.be_shape.proofs.Among.{Among, is_open_at, child_right, behind_parts}

-- a node whose children are those of another but for one
pub record OneOther (n w m o : Plain) (hop : Hop) : Type 0 where
  pub before : List (Hop × Plain)
  pub after : List (Hop × Plain)
  pub was : children n ≡ before ++ (hop, m) ∷ after
  pub is : children w ≡ before ++ (hop, o) ∷ after
  pub leaf : leaf_of w ≡ leaf_of n
  pub attrs : attrs_of (parts_under w) ≡ attrs_of (parts_under n)

record PartOther (parts : Parts) (a : AttrNo) (m o : Plain) : Type 0 where
  before : List (Hop × Plain)
  after : List (Hop × Plain)
  was : roots_of parts ≡ before ++ (Part a, m) ∷ after
  is : roots_of (other_part a o parts) ≡ before ++ (Part a, o) ∷ after
  same : attrs_of (other_part a o parts) ≡ attrs_of parts

part_other : (parts : Parts) (a : AttrNo) (m o : Plain) → part_on a parts ≡ Some m → PartOther parts a m o
part_other no_part a m o h = absurd (cc)
part_other (part b root more) a m o h = by_test (eqb b.0 a.0) refl h (λ e. part_other more a m o e)
  where
    by_test : (t : Bool) → eqb b.0 a.0 ≡ t → cond t (Some root) (part_on a more) ≡ Some m → (part_on a more ≡ Some m → PartOther more a m o) → PartOther (part b root more) a m o
    by_test true e k f =
        let is_root : root ≡ m = cc in
        let is_attr : b ≡ a = ap (λ i. numbered i) (eqb-true b.0 a.0 e) in
        let now : other_part a o (part b root more) ≡ part b o more = ap (λ c. cond c (part b o more) (part b root (other_part a o more))) e in
        record {
          before = [];
          after = roots_of more;
          was = ap (λ x. (Part b, x) ∷ roots_of more) is_root ∙ ap (λ c. (Part c, m) ∷ roots_of more) is_attr;
          is = ap roots_of now ∙ ap (λ c. (Part c, o) ∷ roots_of more) is_attr;
          same = ap attrs_of now;
        }
    by_test false e k f =
        let r = f k in
        let now : other_part a o (part b root more) ≡ part b root (other_part a o more) = ap (λ c. cond c (part b o more) (part b root (other_part a o more))) e in
        record {
          before = (Part b, root) ∷ r.before;
          after = r.after;
          was = ap (λ l. (Part b, root) ∷ l) r.was;
          is = ap roots_of now ∙ ap (λ l. (Part b, root) ∷ l) r.is;
          same = ap attrs_of now ∙ ap (λ l. b ∷ l) r.same;
        }

pub one_other : (hop : Hop) (n m o : Plain) → child hop n ≡ Some m → OneOther n (other_child hop o n) m o hop
one_other (Part a) (node rows parts low high) m o h =
    let r = part_other parts a m o h in
    let l = root_of Low low in
    let u = root_of High high in
    record {
      before = r.before;
      after = r.after ++ l ++ u;
      was = behind_parts (roots_of parts) r.before r.after (Part a, m) l u r.was;
      is = behind_parts (roots_of (other_part a o parts)) r.before r.after (Part a, o) l u r.is;
      leaf = refl;
      attrs = r.same;
    }
one_other Low (node rows parts no_half high) m o h = absurd (cc)
one_other Low (node rows parts (half x) high) m o h =
    let e : x ≡ m = cc in
    record {
      before = roots_of parts;
      after = root_of High high;
      was = append_assoc (roots_of parts) ((Low, x) ∷ []) (root_of High high) ∙ ap (λ y. roots_of parts ++ (Low, y) ∷ root_of High high) e;
      is = append_assoc (roots_of parts) ((Low, o) ∷ []) (root_of High high);
      leaf = refl;
      attrs = refl;
    }
one_other High (node rows parts low no_half) m o h = absurd (cc)
one_other High (node rows parts low (half x)) m o h =
    let e : x ≡ m = cc in
    record {
      before = roots_of parts ++ root_of Low low;
      after = [];
      was = ap (λ y. (roots_of parts ++ root_of Low low) ++ (High, y) ∷ []) e;
      is = refl;
      leaf = refl;
      attrs = refl;
    }

-- what is left where a node has the same rows in another shape
pub record Reshaped (s : Attributes) (k : Known) (n w : Plain) : Type 0 where
  pub right : IsRight s k w
  pub same : IsPermutation (rows_below n) (rows_below w)

-- a child is reshaped
pub child_reshaped : (s : Attributes) (k : Known) (n w m o : Plain) (hop : Hop) → IsRight s k n → OneOther n w m o hop → Reshaped s (known_below s hop k) m o → Reshaped s k n w
child_reshaped s k n w m o hop r x d =
    let l = levels (is_right_at s) s k n r.right in
    let here = right_here s k n l.here in
    let pl = placed_by s k n here.0 l.children in
    let leaf = leaf_of n in
    let c = others leaf x.before x.after in
    let third : IsPermutation (c ++ rows_below o) (rows_below w) =
    IsPermutation-sym (rows_below w) (c ++ rows_below o) (subst (λ q. IsPermutation (rows_below w) (others q x.before x.after ++ rows_below o)) x.leaf (child_last w x.before x.after (hop, o) x.is)) in
    let all : IsPermutation (rows_below n) (rows_below w) =
    IsPermutation-trans (rows_below n) (c ++ rows_below m) (rows_below w) (child_last n x.before x.after (hop, m) x.was)
    (IsPermutation-trans (c ++ rows_below m) (c ++ rows_below o) (rows_below w) (IsPermutation-append_right c (rows_below m) (rows_below o) d.same) third) in
    let held = λ (q : Row → Bool) (t : list_all q (rows_below n) ≡ true). all_permuted q (rows_below n) (rows_below w) all t in
    let passed = Each-at (λ (y : Hop × Plain). list_all (may_pass s y.0 k.range) (rows_below y.1) ≡ true) x.before x.after (hop, m) (subst (AllByRecursion (λ (y : Hop × Plain). list_all (may_pass s y.0 k.range) (rows_below y.1) ≡ true)) x.was pl.pass) in
    let passing = all_permuted (may_pass s hop k.range) (rows_below m) (rows_below o) d.same passed in
    let had = Each-at (λ (y : Hop × Plain). holds_rows y ≡ true) x.before x.after (hop, m) (subst (AllByRecursion (λ (y : Hop × Plain). holds_rows y ≡ true)) x.was (Each-from_test holds_rows (children n) (sym (pruned_is k n) ∙ here.2))) in
    let some : 0 < length (rows_below o) =
    omega (arith, length_permutation (rows_below m) (rows_below o) d.same, some_length (rows_below m) had) in
    record {
      right = record {
        right = right_from s k w
            (is_placed_from s k w (record {
              rise = ap attrs_rise x.attrs ∙ pl.rise;
              inside = held (spans_inside s k.range) pl.inside;
              open_steps = exchanged (λ (y : Hop × Plain). is_open y.0 k ≡ true) pl.open_steps (Each-at (λ (y : Hop × Plain). is_open y.0 k ≡ true) x.before x.after (hop, m) (subst (AllByRecursion (λ (y : Hop × Plain). is_open y.0 k ≡ true)) x.was pl.open_steps));
              pass = exchanged (λ (y : Hop × Plain). list_all (may_pass s y.0 k.range) (rows_below y.1) ≡ true) pl.pass passing;
            }))
            (drawn_is s k w ∙ ap (λ q. list_all (λ z. not (passes_one s k (children w) z)) q) x.leaf ∙ same_drawn leaf ∙ sym (drawn_is s k n) ∙ here.1)
            (pruned_is k w ∙ test_from_Each holds_rows (children w) (exchanged (λ (y : Hop × Plain). holds_rows y ≡ true) (Each-from_test holds_rows (children n) (sym (pruned_is k n) ∙ here.2)) (some_rows (rows_below o) some)))
            (settled_is s k w ∙ ap (λ q. leb (length q) LEAF_ROWS || list_all (is_stuck s k) q) x.leaf ∙ sym (settled_is s k n) ∙ here.3)
            (exchanged (IsBelow s k) l.children d.right.right);
        may = held (may_stand s) r.may;
      };
      same = all;
    }
  where
    exchanged : (P : Hop × Plain → Type 0) → AllByRecursion P (children n) → P (hop, o) → AllByRecursion P (children w)
    exchanged P each new =
        subst (AllByRecursion P) (sym x.is) (Each-middle P x.before x.after (hop, o) (Each-without P x.before x.after (hop, m) (subst (AllByRecursion P) x.was each)) new)

    same_passes : (z : Row) → passes_one s k (x.before ++ (hop, o) ∷ x.after) z ≡ passes_one s k (x.before ++ (hop, m) ∷ x.after) z
    same_passes z =
        let f = λ (y : Hop × Plain). may_pass s y.0 k.range z in list_any-append f x.before ((hop, o) ∷ x.after) ∙ sym (list_any-append f x.before ((hop, m) ∷ x.after))

    same_drawn : (rows : List Row) → list_all (λ z. not (passes_one s k (children w) z)) rows ≡ list_all (λ z. not (passes_one s k (children n) z)) rows
    same_drawn [] = refl
    same_drawn (z ∷ rows) =
        ap (λ b. not b && list_all (λ y. not (passes_one s k (children w) y)) rows) (ap (λ q. passes_one s k q z) x.is ∙ same_passes z ∙ ap (λ q. passes_one s k q z) (sym x.was)) ∙ ap (λ b. not (passes_one s k (children n) z) && b) (same_drawn rows)

-- a path of a step more
stepped : (hops : List Hop) (c : Option Plain) (m : Plain) → option_and_then (walk hops) c ≡ Some m → (x : Plain) × (c ≡ Some x) × (walk hops x ≡ Some m)
stepped hops None m h = absurd (cc)
stepped hops (Some x) m h = (x, refl, h)

among_of : (n w m o : Plain) (hop : Hop) → OneOther n w m o hop → Among n m hop
among_of n w m o hop x = record { before = x.before; after = x.after; is = x.was }

-- a node at the end of a path is right
pub right_along : (s : Attributes) (hops : List Hop) (k : Known) (n m : Plain) → IsRight s k n → walk hops n ≡ Some m → IsRight s (known_along s hops k) m
right_along s [] k n m r h = let e : n ≡ m = cc in subst (IsRight s k) e r
right_along s (hop ∷ hops) k n m r h =
    let z = stepped hops (child hop n) m h in
    right_along s hops (known_below s hop k) z.0 m (child_right s k n z.0 hop r (among_of n (other_child hop z.0 n) z.0 z.0 hop (one_other hop n z.0 z.0 z.1))) z.2

-- and where it is reshaped, so is the tree
pub replaced_right : (s : Attributes) (hops : List Hop) (k : Known) (n m o : Plain) → IsRight s k n → walk hops n ≡ Some m → Reshaped s (known_along s hops k) m o → Reshaped s k n (replaced hops o n)
replaced_right s [] k n m o r h d = let e : m ≡ n = cc in subst (λ x. Reshaped s k x o) e d
replaced_right s (hop ∷ hops) k n m o r h d =
    let z = stepped hops (child hop n) m h in
    let x = one_other hop n z.0 (replaced hops o z.0) z.1 in
    subst (Reshaped s k n) (sym (ap (λ c. change_child hop (replaced hops o) c n) z.1))
    (child_reshaped s k n (other_child hop (replaced hops o z.0) n) z.0 (replaced hops o z.0) hop r x (replaced_right s hops (known_below s hop k) z.0 m o (child_right s k n z.0 hop r (among_of n (other_child hop (replaced hops o z.0) n) z.0 (replaced hops o z.0) hop x)) z.2 d))

-- a child put in the place of one that is there
set_part : (parts : Parts) (a : AttrNo) (m o : Plain) → part_on a parts ≡ Some m → part_on a (other_part a o parts) ≡ Some o
set_part no_part a m o h = absurd (cc)
set_part (part b root more) a m o h = by_test (eqb b.0 a.0) refl h (set_part more a m o)
  where
    by_test : (t : Bool) → eqb b.0 a.0 ≡ t → cond t (Some root) (part_on a more) ≡ Some m → (part_on a more ≡ Some m → part_on a (other_part a o more) ≡ Some o) → part_on a (other_part a o (part b root more)) ≡ Some o
    by_test true e k f =
        ap (λ c. part_on a (cond c (part b o more) (part b root (other_part a o more)))) e ∙ ap (λ c. cond c (Some o) (part_on a more)) e
    by_test false e k f =
        ap (λ c. part_on a (cond c (part b o more) (part b root (other_part a o more)))) e ∙ ap (λ c. cond c (Some root) (part_on a (other_part a o more))) e ∙ f k

part_again : (parts : Parts) (a : AttrNo) (b o : Plain) → other_part a o (other_part a b parts) ≡ other_part a o parts
part_again no_part a b o = refl
part_again (part c root more) a b o = by_test (eqb c.0 a.0) refl (part_again more a b o)
  where
    by_test : (t : Bool) → eqb c.0 a.0 ≡ t → other_part a o (other_part a b more) ≡ other_part a o more → other_part a o (other_part a b (part c root more)) ≡ other_part a o (part c root more)
    by_test true e f =
        ap (λ z. other_part a o (cond z (part c b more) (part c root (other_part a b more)))) e ∙ ap (λ z. cond z (part c o more) (part c b (other_part a o more))) e ∙ sym (ap (λ z. cond z (part c o more) (part c root (other_part a o more))) e)
    by_test false e f =
        ap (λ z. other_part a o (cond z (part c b more) (part c root (other_part a b more)))) e ∙ ap (λ z. cond z (part c o (other_part a b more)) (part c root (other_part a o (other_part a b more)))) e ∙ ap (part c root) f
        ∙ sym (ap (λ z. cond z (part c o more) (part c root (other_part a o more))) e)

part_own : (parts : Parts) (a : AttrNo) (m : Plain) → part_on a parts ≡ Some m → other_part a m parts ≡ parts
part_own no_part a m h = refl
part_own (part b root more) a m h = by_test (eqb b.0 a.0) h (part_own more a m)
  where
    by_test : (t : Bool) → cond t (Some root) (part_on a more) ≡ Some m → (part_on a more ≡ Some m → other_part a m more ≡ more) → cond t (part b m more) (part b root (other_part a m more)) ≡ part b root more
    by_test true k f = let e : root ≡ m = cc in ap (λ x. part b x more) (sym e)
    by_test false k f = ap (part b root) (f k)

pub child_set : (hop : Hop) (n m o : Plain) → child hop n ≡ Some m → child hop (other_child hop o n) ≡ Some o
child_set (Part a) (node rows parts low high) m o h = set_part parts a m o h
child_set Low (node rows parts no_half high) m o h = absurd (cc)
child_set Low (node rows parts (half x) high) m o h = refl
child_set High (node rows parts low no_half) m o h = absurd (cc)
child_set High (node rows parts low (half x)) m o h = refl

pub child_again : (hop : Hop) (n b o : Plain) → other_child hop o (other_child hop b n) ≡ other_child hop o n
child_again (Part a) (node rows parts low high) b o = ap (λ ps. node rows ps low high) (part_again parts a b o)
child_again Low (node rows parts no_half high) b o = refl
child_again Low (node rows parts (half x) high) b o = refl
child_again High (node rows parts low no_half) b o = refl
child_again High (node rows parts low (half x)) b o = refl

pub child_own : (hop : Hop) (n m : Plain) → child hop n ≡ Some m → other_child hop m n ≡ n
child_own (Part a) (node rows parts low high) m h = ap (λ ps. node rows ps low high) (part_own parts a m h)
child_own Low (node rows parts no_half high) m h = absurd (cc)
child_own Low (node rows parts (half x) high) m h = let e : x ≡ m = cc in ap (λ y. node rows parts (half y) high) (sym e)
child_own High (node rows parts low no_half) m h = absurd (cc)
child_own High (node rows parts low (half x)) m h = let e : x ≡ m = cc in ap (λ y. node rows parts low (half y)) (sym e)

-- what is at the end of a path in a tree whose node there is another, and that tree with yet another, or with its own again
pub record Swapped (hops : List Hop) (n m b : Plain) : Type 0 where
  pub there : walk hops (replaced hops b n) ≡ Some b
  pub again : (o : Plain) → replaced hops o (replaced hops b n) ≡ replaced hops o n
  pub own : replaced hops m n ≡ n

pub swapped : (hops : List Hop) (n m b : Plain) → walk hops n ≡ Some m → Swapped hops n m b
swapped [] n m b h = let e : n ≡ m = cc in record { there = refl; again = λ o. refl; own = sym e }
swapped (hop ∷ hops) n m b h =
    let z = stepped hops (child hop n) m h in
    let x = z.0 in
    let w = swapped hops x m b z.2 in
    let y = replaced hops b x in
    let put = λ (o : Plain). ap (λ c. change_child hop (replaced hops o) c n) z.1 in
    let set : child hop (replaced (hop ∷ hops) b n) ≡ Some y = ap (child hop) (put b) ∙ child_set hop n x y z.1 in
    record {
      there = ap (option_and_then (walk hops)) set ∙ w.there;
      again = λ o. ap (λ c. change_child hop (replaced hops o) c (replaced (hop ∷ hops) b n)) set ∙ ap (λ v. other_child hop v (replaced (hop ∷ hops) b n)) (w.again o) ∙ ap (other_child hop (replaced hops o x)) (put b) ∙ child_again hop n y (replaced hops o x) ∙ sym (put o);
      own = put m ∙ ap (λ v. other_child hop v n) w.own ∙ child_own hop n x z.1;
    }

-- what is known at the end of a path
pub range_known : (s : Attributes) (hops : List Hop) (k : Known) → (known_along s hops k).range ≡ range_along s hops k.range
range_known s [] k = refl
range_known s (hop ∷ hops) k = range_known s hops (known_below s hop k) ∙ ap (range_along s hops) (one hop)
  where
    one : (h : Hop) → (known_below s h k).range ≡ range_below s h k.range
    one (Part a) = refl
    one Low = refl
    one High = refl

pub used_known : (s : Attributes) (hops : List Hop) (k : Known) (a : AttrNo) → is_used (known_along s hops k).used a ≡ (is_used_on hops a || is_used k.used a)
used_known s [] k a = refl
used_known s (hop ∷ hops) k a = used_known s hops (known_below s hop k) a ∙ one hop
  where
    last : (x y z : Bool) → (x || (y || z)) ≡ ((y || x) || z)
    last true true z = refl
    last true false z = refl
    last false true z = refl
    last false false z = refl

    one : (h : Hop) → (is_used_on hops a || is_used (known_below s h k).used a) ≡ (is_used_on (h ∷ hops) a || is_used k.used a)
    one (Part b) = last (is_used_on hops a) (eqb b.0 a.0) (is_used k.used a)
    one Low = refl
    one High = refl

-- each step of a path that is there may be made
pub open_on : (s : Attributes) (hops : List Hop) (k : Known) (n m : Plain) → IsRight s k n → walk hops n ≡ Some m → are_open s hops k ≡ true
open_on s [] k n m r h = refl
open_on s (hop ∷ hops) k n m r h =
    let z = stepped hops (child hop n) m h in
    let a = among_of n (other_child hop z.0 n) z.0 z.0 hop (one_other hop n z.0 z.0 z.1) in
    and_from (is_open hop k) (are_open s hops (known_below s hop k)) (is_open_at s k n z.0 hop r a) (open_on s hops (known_below s hop k) z.0 m (child_right s k n z.0 hop r a) z.2)
