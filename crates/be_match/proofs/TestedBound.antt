-- A search tests at most 16 rows at each node, and rows whose every attribute is assigned.
use Rattle.std.proofs.Common.{◌≡◌, ℕ, ◌+◌, ◌*◌, ◌≤◌, Bool, true, false, cond, eqb, leb, ◌||◌, List, [], ◌∷◌, ◌++◌, length, None, refl, ap, ◌∙◌, sym, subst, arith, length-append}
use Rattle.std.specs.List.{count_by, list_all, flat_map, AllByRecursion}
use Rattle.std.proofs.lemmas.Bool.{eqb-true}
use Rattle.std.proofs.lemmas.Bool.Decides.{nat_tests}
use Rattle.std.proofs.lemmas.List.Sums.{sum_by-cons, sum_by-append}
use Rattle.be_base.specs.declared.names.AttrNo.{AttrNo}
use Rattle.be_model.specs.declared.preds.Pred.{Pred}
use Rattle.be_model.specs.declared.changes.Row.{Row}
use Rattle.be_model.specs.Schemas.{Attributes, numbered}
use Rattle.be_model.specs.Matching.{Assignments, is_assigned}
use Rattle.be_model.specs.Bounds.{is_covered, tested_bound}
use Rattle.be_model.proofs.Attributes.{and_left, and_right, and_both}
use Rattle.be_shape.specs.Plain.{Plain, node, rows_below, leaf_of}
use Rattle.be_shape.specs.Shape.{NodeRange, Known, nothing, everywhere, is_used, is_settled_at, is_stuck, is_between}
use Rattle.be_shape.specs.Search.{visited, visits, tested, all_of}
use Rattle.std.proofs.lemmas.Bool.{and_from}
use Rattle.be_model.specs.declared.paths.Hop.{Hop}
use Rattle.be_model.specs.declared.paths.Hop.TheVariants.{Part, Low, High}
use Rattle.be_shape.specs.Children.{children, known_below}
use Rattle.be_shape.specs.Paths.{range_below}
use Rattle.be_shape.proofs.Children.{in_trees, where_known, rows_of, rows_are}
use Rattle.be_shape.proofs.Visited.{enters, visited_of, visited_is}
use Rattle.be_match.proofs.Exact.{range_known}
use Rattle.be_match.proofs.Sizes.{rows_append}

-- a used attribute is assigned
used_given : (e : Assignments) (used : List AttrNo) (a : AttrNo) → list_all (is_assigned e) used ≡ true → is_used used a ≡ true → is_assigned e a ≡ true
used_given e [] a h u = absurd (cc)
used_given e (b ∷ used) a h u =
    by_test (eqb b.0 a.0) refl u (λ v. used_given e used a (and_right (is_assigned e b) (list_all (is_assigned e) used) h) v)
  where
    by_test : (t : Bool) → eqb b.0 a.0 ≡ t → (t || is_used used a) ≡ true → (is_used used a ≡ true → is_assigned e a ≡ true) → is_assigned e a ≡ true
    by_test true same v more =
        ap (λ i. is_assigned e (numbered i)) (sym (eqb-true b.0 a.0 same)) ∙ and_left (is_assigned e b) (list_all (is_assigned e) used) h
    by_test false same v more = more v

-- so each stuck row of a visited leaf has only assigned attributes
covered : (e : Assignments) (used : List AttrNo) (conj : List Pred) → list_all (is_assigned e) used ≡ true → list_all (λ (p : Pred). is_used used p.attr) conj ≡ true → list_all (λ (p : Pred). is_assigned e p.attr) conj ≡ true
covered e used [] given h = refl
covered e used (p ∷ ps) given h =
    and_both (is_assigned e p.attr) (list_all (λ (q : Pred). is_assigned e q.attr) ps) (used_given e used p.attr given (and_left (is_used used p.attr) (list_all (λ (q : Pred). is_used used q.attr) ps) h))
    (covered e used ps given (and_right (is_used used p.attr) (list_all (λ (q : Pred). is_used used q.attr) ps) h))

counted : (e : Assignments) (row : Row) (rows : List Row) → is_covered e row ≡ true → length rows ≤ count_by (is_covered e) rows → length (row ∷ rows) ≤ count_by (is_covered e) (row ∷ rows)
counted e row rows h k =
    omega (arith, sum_by-cons (λ x. cond (is_covered e x) 1 0) row rows, ap {B = ℕ} (λ b. cond b 1 0) h, k)

stuck_covered : (s : Attributes) (e : Assignments) (k : Known) (rows : List Row) → list_all (is_assigned e) k.used ≡ true → list_all (is_stuck s k) rows ≡ true → length rows ≤ count_by (is_covered e) rows
stuck_covered s e k [] given h = omega arith
stuck_covered s e k (row ∷ rows) given h =
    counted e row rows (covered e k.used row.conj given (and_left (list_all (λ (p : Pred). is_used k.used p.attr) row.conj) (is_between s k row) (and_left (is_stuck s k row) (list_all (is_stuck s k) rows) h)))
    (stuck_covered s e k rows given (and_right (is_stuck s k row) (list_all (is_stuck s k) rows) h))

leaf_within : (s : Attributes) (e : Assignments) (k : Known) (rows : List Row) → list_all (is_assigned e) k.used ≡ true → (leb (length rows) 16 || list_all (is_stuck s k) rows) ≡ true → length rows ≤ 16 + count_by (is_covered e) rows
leaf_within s e k rows given h =
    by_test (leb (length rows) 16) refl h
  where
    at_most : (n : ℕ) → leb n 16 ≡ true → n ≤ 16
    at_most n t = grind (arith, nat_tests)

    by_test : (b : Bool) → leb (length rows) 16 ≡ b → (b || list_all (is_stuck s k) rows) ≡ true → length rows ≤ 16 + count_by (is_covered e) rows
    by_test true t z = omega (arith, at_most (length rows) t)
    by_test false t z = omega (arith, stuck_covered s e k rows given z)

-- the leaves of a child are visited, or none
either : (b : Bool) (v : List (List Row)) (n : ℕ) → (b ≡ true → length (all_of v) ≤ 16 * length v + n) → length (all_of (cond b v [])) ≤ 16 * length (cond b v []) + n
either true v n h = h refl
either false v n h = omega arith

abbrev IsTested : Attributes → Assignments → Known → Plain → Type 0
IsTested s e k n = list_all (is_assigned e) k.used ≡ true → length (all_of (visited s e k.range n)) ≤ 16 * length (visited s e k.range n) + count_by (is_covered e) (rows_below n)

-- where a step is entered, the attributes that are used below it are assigned
given_below : (s : Attributes) (e : Assignments) (hop : Hop) (k : Known) → list_all (is_assigned e) k.used ≡ true → enters s e k.range hop ≡ true → list_all (is_assigned e) (known_below s hop k).used ≡ true
given_below s e (Part a) k given h = and_from (is_assigned e a) (list_all (is_assigned e) k.used) h given
given_below s e Low k given h = given
given_below s e High k given h = given

in_children : (s : Attributes) (e : Assignments) (k : Known) (xs : List (Hop × Plain)) → list_all (is_assigned e) k.used ≡ true → AllByRecursion (λ (x : Hop × Plain). IsTested s e (known_below s x.0 k) x.1) xs
    → length (all_of (flat_map (visited_of s e k.range) xs)) ≤ 16 * length (flat_map (visited_of s e k.range) xs) + count_by (is_covered e) (flat_map rows_of xs)
in_children s e k [] given claims = omega arith
in_children s e k (x ∷ xs) given claims =
    let f : Row → ℕ = λ y. cond (is_covered e y) 1 0 in
    let v = visited_of s e k.range x in
    let w = flat_map (visited_of s e k.range) xs in
    let first = either (enters s e k.range x.0) (visited s e (range_below s x.0 k.range) x.1) (count_by (is_covered e) (rows_below x.1)) (λ h. subst (λ r. length (all_of (visited s e r x.1)) ≤ 16 * length (visited s e r x.1) + count_by (is_covered e) (rows_below x.1)) (range_known s x.0 k) (claims.0 (given_below s e x.0 k given h))) in
    omega (arith, first, in_children s e k xs given claims.1, length-append v w, rows_append v w, sum_by-append f (rows_below x.1) (flat_map rows_of xs))

settled_here : (s : Attributes) (e : Assignments) (k : Known) (n : Plain) → is_settled_at s k n ≡ true → list_all (is_assigned e) k.used ≡ true → length (leaf_of n) ≤ 16 + count_by (is_covered e) (leaf_of n)
settled_here s e k (node rows parts low high) h given = leaf_within s e k rows given h

within : (s : Attributes) (e : Assignments) (k : Known) (n : Plain) → everywhere (is_settled_at s) s k n ≡ true → IsTested s e k n
within s e =
    where_known (is_settled_at s) s (IsTested s e)
    (λ k n l claims given. let f : Row → ℕ = λ y. cond (is_covered e y) 1 0 in
    let w = flat_map (visited_of s e k.range) (children n) in
    subst (λ v. length (all_of v) ≤ 16 * length v + count_by (is_covered e) (rows_below n)) (sym (visited_is s e k.range n))
    (subst (λ rows. length (leaf_of n ++ all_of w) ≤ 16 * length (leaf_of n ∷ w) + count_by (is_covered e) rows) (sym (rows_are n))
    (omega (arith, settled_here s e k n l.here given, in_children s e k (children n) given claims, length-append (leaf_of n) (all_of w), sum_by-append f (leaf_of n) (flat_map rows_of (children n))))))

pub tested_within : (s : Attributes) (e : Assignments) (n : Plain) → everywhere (is_settled_at s) s nothing n ≡ true → tested s e n ≤ tested_bound e (visits s e n) (rows_below n)
tested_within s e n settled = within s e nothing n settled refl

-- nor more rows than there are
none_or_all : (b : Bool) (v : List (List Row)) (n : ℕ) → length (all_of v) ≤ n → length (all_of (cond b v [])) ≤ n
none_or_all true v n h = h
none_or_all false v n h = omega arith

few_in_children : (s : Attributes) (e : Assignments) (r : NodeRange) (xs : List (Hop × Plain)) → AllByRecursion (λ (x : Hop × Plain). (q : NodeRange) → length (all_of (visited s e q x.1)) ≤ length (rows_below x.1)) xs
    → length (all_of (flat_map (visited_of s e r) xs)) ≤ length (flat_map rows_of xs)
few_in_children s e r [] claims = omega arith
few_in_children s e r (x ∷ xs) claims =
    omega (arith, none_or_all (enters s e r x.0) (visited s e (range_below s x.0 r) x.1) (length (rows_below x.1)) (claims.0 (range_below s x.0 r)), few_in_children s e r xs claims.1, rows_append (visited_of s e r x) (flat_map (visited_of s e r) xs), length-append (rows_below x.1) (flat_map rows_of xs))

few_tested : (s : Attributes) (e : Assignments) (n : Plain) (r : NodeRange) → length (all_of (visited s e r n)) ≤ length (rows_below n)
few_tested s e =
    in_trees (λ n. (r : NodeRange) → length (all_of (visited s e r n)) ≤ length (rows_below n))
    (λ n claims r. let w = flat_map (visited_of s e r) (children n) in
    omega (arith, ap (λ v. length (all_of v)) (visited_is s e r n), ap length (rows_are n), few_in_children s e r (children n) claims, length-append (leaf_of n) (all_of w), length-append (leaf_of n) (flat_map rows_of (children n))))

pub tested_below : (s : Attributes) (e : Assignments) (n : Plain) → tested s e n ≤ length (rows_below n)
tested_below s e n = few_tested s e n None
