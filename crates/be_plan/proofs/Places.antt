-- Where a node stands in its tree: at the root, and one step further.
use Rattle.std.proofs.Common.{◌≡◌, ℕ, zero, suc, ◌-◌, ◌<◌, Bool, true, false, not, eqb, ltb, leb, length, get_or, ◌&&◌, ◌||◌, List, [], ◌∷◌, ◌++◌, Option, Some, None, option_and_then, refl, sym, ap, ◌∙◌, subst, arith}
use Rattle.std.specs.List.{list_all, list_any, flat_map, AllByRecursion}
use Rattle.std.proofs.lemmas.Bool.{and_parts, and_from}
use Rattle.be_model.specs.declared.changes.Row.{Row}
use Rattle.be_model.specs.declared.paths.Hop.{Hop}
use Rattle.be_model.specs.declared.paths.Hop.TheVariants.{Part}
use Rattle.be_shape.specs.declared.nodes.Part.{Part as PartOf}
use Rattle.be_model.specs.Schemas.{Attributes}
use Rattle.be_model.specs.Rows.{id_of}
use Rattle.be_model.specs.ByIds.{ids_differ}
use Rattle.be_shape.specs.Plain.{Plain, node, rows_below, leaf_of, parts_under, part_as, parts_as}
use Rattle.be_base.specs.declared.limits.TheConstants.{LEAF_ROWS, LOG_CHANGES}
use Rattle.be_model.specs.Lies.{row_lies}
use Rattle.be_model.specs.Forms.{is_conj}
use Rattle.be_shape.specs.Shape.{Known, nothing, everywhere, is_placed_at, may_stand, attrs_of, is_used, parts_fit, spans_inside, can_split, is_here, is_stuck}
use Rattle.be_model.specs.Forms.{attrs_rise}
use Rattle.be_shape.specs.Paths.{child, walk}
use Rattle.be_shape.specs.Children.{roots_of, children, known_below, is_open}
use Rattle.be_shape.specs.NodeList.{known_along}
use Rattle.be_shape.specs.Right.{is_right_at, IsRight}
use Rattle.be_shape.proofs.OneLevel.{right_here}
use Rattle.be_shape.proofs.NodeSteps.{settled_is}
use Rattle.be_shape.proofs.Children.{Each-weaker, levels, rows_of, rows_are}
use Rattle.be_shape.proofs.Placed.{at_child}
use Rattle.be_shape.proofs.Among.{Among, is_open_at, child_right}
use Rattle.be_shape.proofs.RootPut.{IsRoot}
use Rattle.be_shape.proofs.Roots.{root_right}
use Rattle.be_shape.proofs.Lists.{all_front}
use Rattle.be_plan.specs.Best.{IsAt}

pub walk_on : (path : List Hop) (hop : Hop) (n : Plain) → walk (path ++ hop ∷ []) n ≡ option_and_then (child hop) (walk path n)
walk_on [] hop n = by_child (child hop n)
  where
    by_child : (o : Option Plain) → option_and_then (walk []) o ≡ o
    by_child None = refl
    by_child (Some m) = refl
walk_on (first ∷ path) hop n = by_child (child first n) (λ m. walk_on path hop m)
  where
    by_child : (o : Option Plain) → ((m : Plain) → walk (path ++ hop ∷ []) m ≡ option_and_then (child hop) (walk path m)) → option_and_then (walk (path ++ hop ∷ [])) o ≡ option_and_then (child hop) (option_and_then (walk path) o)
    by_child None on = refl
    by_child (Some m) on = on m

pub known_on : (s : Attributes) (path : List Hop) (hop : Hop) (k : Known) → known_along s (path ++ hop ∷ []) k ≡ known_below s hop (known_along s path k)
known_on s [] hop k = refl
known_on s (first ∷ path) hop k = known_on s path hop (known_below s first k)

-- a child stands among the children
abbrev Stands : List (Hop × Plain) → Hop × Plain → Type 0
Stands xs x = (before : List (Hop × Plain)) × (after : List (Hop × Plain)) × (xs ≡ before ++ x ∷ after)

each_stands : (xs : List (Hop × Plain)) → AllByRecursion (Stands xs) xs
each_stands [] = tt
each_stands (x ∷ xs) = (
  ([], xs, refl),
  Each-weaker (Stands xs) (Stands (x ∷ xs)) (λ y h. (x ∷ h.0, h.1, ap (λ l. x ∷ l) h.2)) xs (each_stands xs),
)

pub among : (n m : Plain) (hop : Hop) → child hop n ≡ Some m → Among n m hop
among n m hop e =
    let h = at_child (Stands (children n)) hop n m e (each_stands (children n)) in record { before = h.0; after = h.1; is = h.2 }

pub open_below : (s : Attributes) (k : Known) (n m : Plain) (hop : Hop) → IsRight s k n → child hop n ≡ Some m → is_open hop k ≡ true
open_below s k n m hop r e = is_open_at s k n m hop r (among n m hop e)

-- ids differ among the rows of a child
not_among : (id : ℕ) (xs ys : List Row) → not (list_any (λ row. eqb (id_of row) id) (xs ++ ys)) ≡ true → not (list_any (λ row. eqb (id_of row) id) xs) ≡ true
not_among id [] ys h = refl
not_among id (x ∷ xs) ys h = by_test (eqb (id_of x) id) h (not_among id xs ys)
  where
    by_test : (b : Bool) → not (b || list_any (λ row. eqb (id_of row) id) (xs ++ ys)) ≡ true → (not (list_any (λ row. eqb (id_of row) id) (xs ++ ys)) ≡ true → not (list_any (λ row. eqb (id_of row) id) xs) ≡ true)
        → not (b || list_any (λ row. eqb (id_of row) id) xs) ≡ true
    by_test true h on = h
    by_test false h on = on h

differ_front : (xs ys : List Row) → ids_differ (xs ++ ys) ≡ true → ids_differ xs ≡ true
differ_front [] ys h = refl
differ_front (x ∷ xs) ys h =
    let k = and_parts (not (list_any (λ row. eqb (id_of row) (id_of x)) (xs ++ ys))) (ids_differ (xs ++ ys)) h in
    and_from (not (list_any (λ row. eqb (id_of row) (id_of x)) xs)) (ids_differ xs) (not_among (id_of x) xs ys k.0) (differ_front xs ys k.1)

differ_back : (xs ys : List Row) → ids_differ (xs ++ ys) ≡ true → ids_differ ys ≡ true
differ_back [] ys h = h
differ_back (x ∷ xs) ys h =
    differ_back xs ys (and_parts (not (list_any (λ row. eqb (id_of row) (id_of x)) (xs ++ ys))) (ids_differ (xs ++ ys)) h).1

each_differ : (xs : List (Hop × Plain)) → ids_differ (flat_map rows_of xs) ≡ true → AllByRecursion (λ (x : Hop × Plain). ids_differ (rows_below x.1) ≡ true) xs
each_differ [] h = tt
each_differ (x ∷ xs) h =
    (differ_front (rows_of x) (flat_map rows_of xs) h, each_differ xs (differ_back (rows_of x) (flat_map rows_of xs) h))

pub child_differ : (hop : Hop) (n m : Plain) → child hop n ≡ Some m → ids_differ (rows_below n) ≡ true → ids_differ (rows_below m) ≡ true
child_differ hop n m e h =
    at_child (λ (x : Hop × Plain). ids_differ (rows_below x.1) ≡ true) hop n m e (each_differ (children n) (differ_back (leaf_of n) (flat_map rows_of (children n)) (sym (ap ids_differ (rows_are n)) ∙ h)))

-- the root, and a child
pub at_root : (s : Attributes) (n : Plain) → IsRoot s n → IsAt s n [] nothing n
at_root s n r =
    record {
      there = refl;
      knows = refl;
      right = root_right s n r;
      differ = (and_parts (everywhere (is_placed_at s) s nothing n) (ids_differ (rows_below n)) r.placed).1;
    }

pub at_below : (s : Attributes) (root : Plain) (path : List Hop) (k : Known) (n m : Plain) (hop : Hop) → IsAt s root path k n → child hop n ≡ Some m → IsAt s root (path ++ hop ∷ []) (known_below s hop k) m
at_below s root path k n m hop a e =
    record {
      there = walk_on path hop root ∙ ap (option_and_then (child hop)) a.there ∙ e;
      knows = known_on s path hop nothing ∙ ap (known_below s hop) a.knows;
      right = child_right s k n m hop a.right (among n m hop e);
      differ = child_differ hop n m e a.differ;
    }

-- the rows of a right node lie in the schema
all_lie : (s : Attributes) (rows : List Row) → list_all (may_stand s) rows ≡ true → list_all (row_lies s) rows ≡ true
all_lie s [] h = refl
all_lie s (row ∷ rows) h =
    let k = and_parts (may_stand s row) (list_all (may_stand s) rows) h in
    let m = and_parts (is_conj row.conj) (row_lies s row && ltb (id_of row) LOG_CHANGES) k.0 in
    and_from (row_lies s row) (list_all (row_lies s) rows) (and_parts (row_lies s row) (ltb (id_of row) LOG_CHANGES) m.1).0 (all_lie s rows k.1)

pub rows_lie : (s : Attributes) (k : Known) (n : Plain) → IsRight s k n → list_all (row_lies s) (rows_below n) ≡ true
rows_lie s k n r = all_lie s (rows_below n) r.may

pub leaf_lies : (s : Attributes) (k : Known) (n : Plain) → IsRight s k n → list_all (row_lies s) (leaf_of n) ≡ true
leaf_lies s k n r =
    all_front (row_lies s) (leaf_of n) (flat_map rows_of (children n)) (sym (ap (list_all (row_lies s)) (rows_are n)) ∙ rows_lie s k n r)

-- no attribute of a part is used above
unused_here : (s : Attributes) (k : Known) (n : Plain) → is_placed_at s k n ≡ true → list_all (λ a. not (is_used k.used a)) (attrs_of (parts_under n)) ≡ true
unused_here s k (node rows parts low high) h =
    let a = attrs_rise (attrs_of parts) in
    let b = list_all (λ c. not (is_used k.used c)) (attrs_of parts) in
    let c = parts_fit parts in
    let d = list_all (spans_inside s k.range) (rows_below (node rows parts low high)) in
    let e = can_split k.range || not (is_here low || is_here high) in
    let x = and_parts (a && b && c && d) e h in
    let y = and_parts (a && b && c) d x.0 in
    let z = and_parts (a && b) c y.0 in (and_parts a b z.0).1

pub attrs_unused : (s : Attributes) (k : Known) (n : Plain) → IsRight s k n → list_all (λ a. not (is_used k.used a)) (attrs_of (parts_under n)) ≡ true
attrs_unused s k n r = unused_here s k n (right_here s k n (levels (is_right_at s) s k n r.right).here).0

pub settles_here : (s : Attributes) (k : Known) (n : Plain) → IsRight s k n → (leb (length (leaf_of n)) LEAF_ROWS || list_all (is_stuck s k) (leaf_of n)) ≡ true
settles_here s k n r = sym (settled_is s k n) ∙ (right_here s k n (levels (is_right_at s) s k n r.right).here).3

pub at_moved : (s : Attributes) (root : Plain) (p q : List Hop) (j k : Known) (n : Plain) → IsAt s root p j n → q ≡ p → k ≡ j → IsAt s root q k n
at_moved s root p q j k n a e f = subst (λ x. IsAt s root x k n) (sym e) (subst (λ x. IsAt s root p x n) (sym f) a)

pub part_there : (n : Plain) (ps : List PartOf) (i : ℕ) (p : PartOf) → i < length ps → p ≡ get_or ps i p → AllByRecursion (λ (x : Hop × Plain). child x.0 n ≡ Some x.1) (roots_of (parts_as ps)) → child (Part (part_as p).0) n ≡ Some (part_as p).1
part_there n [] i p l is h = absurd (omega arith)
part_there n (r ∷ ps) zero p l is h = subst (λ (q : PartOf). child (Part (part_as q).0) n ≡ Some (part_as q).1) (sym is) h.0
part_there n (r ∷ ps) (suc i) p l is h = part_there n ps i p (omega arith) is h.1
