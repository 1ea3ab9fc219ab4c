-- Where a node is placed: by its children, from what is placed at it and below, and back.
use Rattle.std.proofs.Common.{◌≡◌, Bool, true, false, not, cond, eqb, ◌&&◌, ◌||◌, List, ◌∷◌, ◌++◌, Some, refl, ap, subst}
use Rattle.std.specs.List.{list_all, AllByRecursion}
use Rattle.std.proofs.lemmas.Bool.{eqb-true, and_parts, and_from}
use Rattle.be_base.specs.declared.names.AttrNo.{AttrNo}
use Rattle.be_model.specs.declared.changes.Row.{Row}
use Rattle.be_model.specs.declared.paths.Hop.{Hop}
use Rattle.be_model.specs.declared.paths.Hop.TheVariants.{Part, Low, High}
use Rattle.be_model.specs.Schemas.{Attributes, numbered}
use Rattle.be_model.specs.Rows.{has}
use Rattle.be_model.specs.Forms.{attrs_rise}
use Rattle.be_shape.specs.Plain.{Plain, node, Parts, no_part, part, Half, no_half, half, rows_below, parts_under}
use Rattle.be_shape.specs.Shape.{NodeRange, Known, known, in_low, in_high, everywhere, spans_inside, is_used, attrs_of, parts_fit, can_split, is_here, is_placed_at}
use Rattle.be_shape.specs.Children.{roots_of, root_of, children, known_below, is_open, may_pass}
use Rattle.be_shape.specs.Paths.{part_on, in_half, child, range_below}
use Rattle.be_shape.specs.Ranges.{may_step, StandsIn}
use Rattle.be_shape.proofs.Children.{Each-append, Each-parts, Levels, below, levels}

abbrev Open : Known → Hop × Plain → Type 0
Open k x = is_open x.0 k ≡ true

abbrev Passes : Attributes → Known → Hop × Plain → Type 0
Passes s k x = list_all (may_pass s x.0 k.range) (rows_below x.1) ≡ true

-- where a node is placed, by its children: their steps may be made, and the rows below them may pass
pub record Placed (s : Attributes) (k : Known) (n : Plain) : Type 0 where
  pub rise : attrs_rise (attrs_of (parts_under n)) ≡ true
  pub inside : list_all (spans_inside s k.range) (rows_below n) ≡ true
  pub open_steps : AllByRecursion (λ (x : Hop × Plain). is_open x.0 k ≡ true) (children n)
  pub pass : AllByRecursion (λ (x : Hop × Plain). list_all (may_pass s x.0 k.range) (rows_below x.1) ≡ true) (children n)

halves_split : (b l h : Bool) → (b || not (l || h)) ≡ true → (l ≡ true → b ≡ true) × (h ≡ true → b ≡ true)
halves_split true l h t = (λ _. refl, λ _. refl)
halves_split false true h t = absurd (cc)
halves_split false false true t = absurd (cc)
halves_split false false false t = (λ k. absurd (cc), λ k. absurd (cc))

open_roots : (k : Known) (parts : Parts) → list_all (λ a. not (is_used k.used a)) (attrs_of parts) ≡ true → AllByRecursion (Open k) (roots_of parts)
open_roots k no_part h = tt
open_roots k (part a root more) h =
    let q = and_parts (not (is_used k.used a)) (list_all (λ b. not (is_used k.used b)) (attrs_of more)) h in (q.0, open_roots k more q.1)

pass_roots : (s : Attributes) (k : Known) (parts : Parts) → parts_fit parts ≡ true → AllByRecursion (Passes s k) (roots_of parts)
pass_roots s k no_part h = tt
pass_roots s k (part a root more) h =
    let q = and_parts (list_all (has a) (rows_below root)) (parts_fit more) h in (q.0, pass_roots s k more q.1)

five : (a b c d e : Bool) → (a && b && c && d && e) ≡ true → (a ≡ true) × (b ≡ true) × (c ≡ true) × (d ≡ true) × (e ≡ true)
five true true true true true h = (refl, refl, refl, refl, refl)
five a b c d e h = absurd (cc)

-- the tests at one node
record Tests (s : Attributes) (k : Known) (rows : List Row) (parts : Parts) (low high : Half) : Type 0 where
  rise : attrs_rise (attrs_of parts) ≡ true
  unused : list_all (λ a. not (is_used k.used a)) (attrs_of parts) ≡ true
  fit : parts_fit parts ≡ true
  inside : list_all (spans_inside s k.range) (rows_below (node rows parts low high)) ≡ true
  low_splits : is_here low ≡ true → can_split k.range ≡ true
  high_splits : is_here high ≡ true → can_split k.range ≡ true

tests : (s : Attributes) (k : Known) (rows : List Row) (parts : Parts) (low high : Half) → is_placed_at s k (node rows parts low high) ≡ true → Tests s k rows parts low high
tests s k rows parts low high h =
    let p = five (attrs_rise (attrs_of parts)) (list_all (λ a. not (is_used k.used a)) (attrs_of parts)) (parts_fit parts) (list_all (spans_inside s k.range) (rows_below (node rows parts low high))) (can_split k.range || not (is_here low || is_here high)) h in
    let g = halves_split (can_split k.range) (is_here low) (is_here high) p.4 in
    record { rise = p.0; unused = p.1; fit = p.2; inside = p.3; low_splits = g.0; high_splits = g.1 }

inside_here : (s : Attributes) (k : Known) (n : Plain) → is_placed_at s k n ≡ true → list_all (spans_inside s k.range) (rows_below n) ≡ true
inside_here s k (node rows parts low high) h = (tests s k rows parts low high h).inside

open_low : (k : Known) (h : Half) → (is_here h ≡ true → can_split k.range ≡ true) → AllByRecursion (Open k) (root_of Low h)
open_low k no_half f = tt
open_low k (half n) f = (f refl, tt)

open_high : (k : Known) (h : Half) → (is_here h ≡ true → can_split k.range ≡ true) → AllByRecursion (Open k) (root_of High h)
open_high k no_half f = tt
open_high k (half n) f = (f refl, tt)

pass_low : (s : Attributes) (k : Known) (h : Half) → AllByRecursion (λ (x : Hop × Plain). below (is_placed_at s) s k x ≡ true) (root_of Low h) → AllByRecursion (Passes s k) (root_of Low h)
pass_low s k no_half t = tt
pass_low s k (half n) t = (inside_here s (in_low k) n (levels (is_placed_at s) s (in_low k) n t.0).here, tt)

pass_high : (s : Attributes) (k : Known) (h : Half) → AllByRecursion (λ (x : Hop × Plain). below (is_placed_at s) s k x ≡ true) (root_of High h) → AllByRecursion (Passes s k) (root_of High h)
pass_high s k no_half t = tt
pass_high s k (half n) t = (inside_here s (in_high k) n (levels (is_placed_at s) s (in_high k) n t.0).here, tt)

pub placed : (s : Attributes) (k : Known) (n : Plain) → Levels (is_placed_at s) s k n → Placed s k n
placed s k (node rows parts low high) l =
    let t = tests s k rows parts low high l.here in
    let z = Each-parts (λ (x : Hop × Plain). below (is_placed_at s) s k x ≡ true) (roots_of parts ++ root_of Low low) (root_of High high) l.children in
    let y = Each-parts (λ (x : Hop × Plain). below (is_placed_at s) s k x ≡ true) (roots_of parts) (root_of Low low) z.0 in
    record {
      rise = t.rise;
      inside = t.inside;
      open_steps = Each-append (Open k) (roots_of parts ++ root_of Low low) (root_of High high) (Each-append (Open k) (roots_of parts) (root_of Low low) (open_roots k parts t.unused) (open_low k low t.low_splits)) (open_high k high t.high_splits);
      pass = Each-append (Passes s k) (roots_of parts ++ root_of Low low) (root_of High high) (Each-append (Passes s k) (roots_of parts) (root_of Low low) (pass_roots s k parts t.fit) (pass_low s k low y.1)) (pass_high s k high z.1);
    }

-- and back
unused_from : (k : Known) (parts : Parts) → AllByRecursion (Open k) (roots_of parts) → list_all (λ a. not (is_used k.used a)) (attrs_of parts) ≡ true
unused_from k no_part h = refl
unused_from k (part a root more) h =
    and_from (not (is_used k.used a)) (list_all (λ b. not (is_used k.used b)) (attrs_of more)) h.0 (unused_from k more h.1)

fit_from : (s : Attributes) (k : Known) (parts : Parts) → AllByRecursion (Passes s k) (roots_of parts) → parts_fit parts ≡ true
fit_from s k no_part h = refl
fit_from s k (part a root more) h =
    and_from (list_all (has a) (rows_below root)) (parts_fit more) h.0 (fit_from s k more h.1)

split_from : (k : Known) (low high : Half) → AllByRecursion (Open k) (root_of Low low) → AllByRecursion (Open k) (root_of High high) → (can_split k.range || not (is_here low || is_here high)) ≡ true
split_from k no_half no_half a b = or_true (can_split k.range)
  where
    or_true : (t : Bool) → (t || true) ≡ true
    or_true true = refl
    or_true false = refl
split_from k (half n) high a b = ap (λ t. t || not (true || is_here high)) a.0
split_from k no_half (half n) a b = ap (λ t. t || not (false || true)) b.0

pub is_placed_from : (s : Attributes) (k : Known) (n : Plain) → Placed s k n → is_placed_at s k n ≡ true
is_placed_from s k (node rows parts low high) p =
    let o = Each-parts (Open k) (roots_of parts ++ root_of Low low) (root_of High high) p.open_steps in
    let u = Each-parts (Open k) (roots_of parts) (root_of Low low) o.0 in
    let q = Each-parts (Passes s k) (roots_of parts ++ root_of Low low) (root_of High high) p.pass in
    let r = Each-parts (Passes s k) (roots_of parts) (root_of Low low) q.0 in
    let a = attrs_rise (attrs_of parts) in
    let b = list_all (λ c. not (is_used k.used c)) (attrs_of parts) in
    let c = parts_fit parts in
    let d = list_all (spans_inside s k.range) (rows_below (node rows parts low high)) in
    let e = can_split k.range || not (is_here low || is_here high) in
    and_from (a && b && c && d) e (and_from (a && b && c) d (and_from (a && b) c (and_from a b p.rise (unused_from k parts u.0)) (fit_from s k parts r.0)) p.inside)
    (split_from k low high u.1 o.1)

-- what holds of each child holds at the end of a step
on_part : (P : Hop × Plain → Type 0) (a : AttrNo) (parts : Parts) (m : Plain) → part_on a parts ≡ Some m → AllByRecursion P (roots_of parts) → P (Part a, m)
on_part P a no_part m e h = absurd (cc)
on_part P a (part b root more) m e h =
    by_test (eqb b.0 a.0) refl e (λ found. on_part P a more m found h.1)
  where
    by_test : (t : Bool) → eqb b.0 a.0 ≡ t → cond t (Some root) (part_on a more) ≡ Some m → (part_on a more ≡ Some m → P (Part a, m)) → P (Part a, m)
    by_test true same found on =
        let is : root ≡ m = cc in subst (λ n. P (Part a, n)) is (subst (λ i. P (Part (numbered i), root)) (eqb-true b.0 a.0 same) h.0)
    by_test false same found on = on found

on_half : (P : Hop × Plain → Type 0) (hop : Hop) (h : Half) (m : Plain) → in_half h ≡ Some m → AllByRecursion P (root_of hop h) → P (hop, m)
on_half P hop no_half m e h = absurd (cc)
on_half P hop (half n) m e h = let is : n ≡ m = cc in subst (λ x. P (hop, x)) is h.0

pub at_child : (P : Hop × Plain → Type 0) (hop : Hop) (n m : Plain) → child hop n ≡ Some m → AllByRecursion P (children n) → P (hop, m)
at_child P (Part a) (node rows parts low high) m e h =
    on_part P a parts m e (Each-parts P (roots_of parts) (root_of Low low) (Each-parts P (roots_of parts ++ root_of Low low) (root_of High high) h).0).0
at_child P Low (node rows parts low high) m e h =
    on_half P Low low m e (Each-parts P (roots_of parts) (root_of Low low) (Each-parts P (roots_of parts ++ root_of Low low) (root_of High high) h).0).1
at_child P High (node rows parts low high) m e h =
    on_half P High high m e (Each-parts P (roots_of parts ++ root_of Low low) (root_of High high) h).1

-- a step down leads to a node that stands in the range of the step
pub record StepsTo (s : Attributes) (hop : Hop) (r : NodeRange) (m : Plain) : Type 0 where
  pub may : may_step hop r ≡ true
  pub used : List AttrNo
  pub placed : everywhere (is_placed_at s) s (known (range_below s hop r) used) m ≡ true

steps_to : (s : Attributes) (hop : Hop) (k : Known) (m : Plain) → is_open hop k ≡ true → everywhere (is_placed_at s) s (known_below s hop k) m ≡ true → StepsTo s hop k.range m
steps_to s (Part a) k m may h = record { may = refl; used = a ∷ k.used; placed = h }
steps_to s Low k m may h = record { may = may; used = k.used; placed = h }
steps_to s High k m may h = record { may = may; used = k.used; placed = h }

pub steps : (s : Attributes) (hop : Hop) (r : NodeRange) (n m : Plain) → StandsIn s r n → child hop n ≡ Some m → StepsTo s hop r m
steps s hop r n m st e =
    let k = known r st.used in
    let l = levels (is_placed_at s) s k n st.placed in
    steps_to s hop k m (at_child (Open k) hop n m e (placed s k n l).open_steps) (at_child (λ (x : Hop × Plain). below (is_placed_at s) s k x ≡ true) hop n m e l.children)
