-- The part of an attribute among parts that rise, where its rows are fewer or it is dropped.
use Rattle.std.proofs.Common.{◌≡◌, ◌≢◌, ◌<◌, ℕ, zero, suc, ◌+◌, Bool, true, false, not, cond, eqb, ltb, List, [], ◌∷◌, length, get_or, drop, None, Some, refl, sym, ap, ◌∙◌, arith, add-one}
use Rattle.std.specs.List.{slice_set}
use Rattle.std.proofs.lemmas.Bool.{and_parts, and_from, not-true, not_from_false, eq-eqb, ne_eqb, ltb-true, lt-ltb}
use Rattle.be_base.specs.declared.names.AttrNo.{AttrNo}
use Rattle.be_model.specs.declared.changes.Row.{Row}
use Rattle.be_model.specs.declared.paths.Hop.TheVariants.{Part}
use Rattle.be_model.specs.Forms.{attrs_rise}
use Rattle.be_model.proofs.EventItems.{attrs_rise-tail}
use Rattle.be_model.proofs.InSchema.{same_attribute}
use Rattle.be_shape.specs.declared.nodes.Part.{Part as PartOf}
use Rattle.be_shape.specs.Plain.{Plain, node, Parts, no_part, part, Half, part_as, parts_as, rows_below}
use Rattle.be_shape.specs.Shape.{attrs_of}
use Rattle.be_shape.specs.Paths.{part_on}
use Rattle.be_shape.specs.Steps.{rows_of_node, without_part}
use Rattle.be_shape.specs.Less.{is_bare}
use Rattle.be_shape.proofs.OneLess.{bare_rows}
use Rattle.be_remove.specs.Taken.{kept_part, is_first, rows_on, is_bare_child, without_bare}

-- the first part of the attribute, in memory
pub first_within : (a : AttrNo) (ps : List PartOf) (i : ℕ) → is_first a i (parts_as ps) ≡ true → i < length ps
first_within a [] i h = absurd (cc)
first_within a (p ∷ ps) zero h = omega arith
first_within a (p ∷ ps) (suc i) h =
    let l = first_within a ps i (and_parts (not (eqb (part_as p).0.0 a.0)) (is_first a i (parts_as ps)) h).1 in omega arith

pub first_attr : (a : AttrNo) (ps : List PartOf) (i : ℕ) (q : PartOf) → is_first a i (parts_as ps) ≡ true → q ≡ get_or ps i q → (part_as q).0 ≡ a
first_attr a [] i q h e = absurd (cc)
first_attr a (p ∷ ps) zero q h e = same_attribute (part_as q).0 a (ap (λ z. eqb (part_as z).0.0 a.0) e ∙ h)
first_attr a (p ∷ ps) (suc i) q h e = first_attr a ps i q (and_parts (not (eqb (part_as p).0.0 a.0)) (is_first a i (parts_as ps)) h).1 e

pub first_on : (a : AttrNo) (ps : List PartOf) (i : ℕ) (q : PartOf) → is_first a i (parts_as ps) ≡ true → q ≡ get_or ps i q → part_on a (parts_as ps) ≡ Some (part_as q).1
first_on a [] i q h e = absurd (cc)
first_on a (p ∷ ps) zero q h e =
    ap (λ b. cond b (Some (part_as p).1) (part_on a (parts_as ps))) h ∙ ap (λ z. Some (part_as z).1) (sym e)
first_on a (p ∷ ps) (suc i) q h e =
    let k = and_parts (not (eqb (part_as p).0.0 a.0)) (is_first a i (parts_as ps)) h in
    ap (λ b. cond b (Some (part_as p).1) (part_on a (parts_as ps))) (not-true (eqb (part_as p).0.0 a.0) k.0) ∙ first_on a ps i q k.1 e

-- parts that rise above an attribute aren't of it
none_above : (a : AttrNo) (parts : Parts) → attrs_rise (a ∷ attrs_of parts) ≡ true → part_on a parts ≡ None
none_above a no_part h = refl
none_above a (part b root more) h =
    let k = and_parts (ltb a.0 b.0) (attrs_rise (b ∷ attrs_of more)) h in
    let l = ltb-true a.0 b.0 k.0 in
    ap (λ t. cond t (Some root) (part_on a more)) (ne_eqb b.0 a.0 (λ e. omega arith)) ∙ none_above a more (skipped more k.1 l)
  where
    skipped : (rest : Parts) → attrs_rise (b ∷ attrs_of rest) ≡ true → a.0 < b.0 → attrs_rise (a ∷ attrs_of rest) ≡ true
    skipped no_part r l = refl
    skipped (part c m rest) r l =
        let q = and_parts (ltb b.0 c.0) (attrs_rise (c ∷ attrs_of rest)) r in
        let x = ltb-true b.0 c.0 q.0 in
        let y : a.0 < c.0 = omega arith in and_from (ltb a.0 c.0) (attrs_rise (c ∷ attrs_of rest)) (lt-ltb a.0 c.0 y) q.1

kept_rows : (a b : AttrNo) (o : Plain) (more : Parts) → eqb b.0 a.0 ≡ true → part_on a more ≡ None → rows_on a (cond (is_bare o) more (part b o more)) ≡ rows_below o
kept_rows a b o more h none = by_test (is_bare o) refl
  where
    by_test : (t : Bool) → is_bare o ≡ t → rows_on a (cond t more (part b o more)) ≡ rows_below o
    by_test true e = ap rows_of_node none ∙ sym (bare_rows o e)
    by_test false e = ap (λ t. rows_of_node (cond t (Some o) (part_on a more))) h

-- what is left below the part
pub left_on : (a : AttrNo) (ps : List PartOf) (i : ℕ) (p : PartOf) (o : Plain) → attrs_rise (attrs_of (parts_as ps)) ≡ true → is_first a i (parts_as ps) ≡ true → part_as p ≡ (a, o) → rows_on a (kept_part i (parts_as (slice_set ps i p))) ≡ rows_below o
left_on a [] i p o r h v = absurd (cc)
left_on a (x ∷ ps) zero p o r h v =
    let same : (part_as x).0 ≡ a = same_attribute (part_as x).0 a h in
    let rise : attrs_rise (a ∷ attrs_of (parts_as ps)) ≡ true = ap (λ b. attrs_rise (b ∷ attrs_of (parts_as ps))) (sym same) ∙ r in
    ap (λ z. rows_on a (cond (is_bare z.1) (parts_as ps) (part z.0 z.1 (parts_as ps)))) v ∙ kept_rows a a o (parts_as ps) (eq-eqb a.0 a.0 refl) (none_above a (parts_as ps) rise)
left_on a (x ∷ ps) (suc i) p o r h v =
    let k = and_parts (not (eqb (part_as x).0.0 a.0)) (is_first a i (parts_as ps)) h in
    ap (λ t. rows_of_node (cond t (Some (part_as x).1) (part_on a (kept_part i (parts_as (slice_set ps i p)))))) (not-true (eqb (part_as x).0.0 a.0) k.0) ∙ left_on a ps i p o (attrs_rise-tail (part_as x).0 (attrs_of (parts_as ps)) r) k.1 v

-- and the others are as before
pub others_on : (a b : AttrNo) (ps : List PartOf) (i : ℕ) (p : PartOf) (o : Plain) → b ≢ a → is_first a i (parts_as ps) ≡ true → part_as p ≡ (a, o) → part_on b (kept_part i (parts_as (slice_set ps i p))) ≡ part_on b (parts_as ps)
others_on a b [] i p o d h v = absurd (cc)
others_on a b (x ∷ ps) zero p o d h v =
    let same : (part_as x).0 ≡ a = same_attribute (part_as x).0 a h in
    let other : eqb a.0 b.0 ≡ false = ne_eqb a.0 b.0 (λ e. d (sym (same_attribute a b (eq-eqb a.0 b.0 e)))) in
    ap (λ z. part_on b (cond (is_bare z.1) (parts_as ps) (part z.0 z.1 (parts_as ps)))) v ∙ by_test (is_bare o) other
    ∙ sym (ap (λ t. cond t (Some (part_as x).1) (part_on b (parts_as ps))) (ap (λ c. eqb c.0 b.0) same ∙ other))
  where
    by_test : (t : Bool) → eqb a.0 b.0 ≡ false → part_on b (cond t (parts_as ps) (part a o (parts_as ps))) ≡ part_on b (parts_as ps)
    by_test true e = refl
    by_test false e = ap (λ q. cond q (Some o) (part_on b (parts_as ps))) e
others_on a b (x ∷ ps) (suc i) p o d h v =
    ap (λ z. cond (eqb (part_as x).0.0 b.0) (Some (part_as x).1) z) (others_on a b ps i p o d (and_parts (not (eqb (part_as x).0.0 a.0)) (is_first a i (parts_as ps)) h).1 v)

-- the part of a place, and those from a place on
pub found_here : (a : AttrNo) (ps : List PartOf) (i : ℕ) (q : PartOf) → i < length ps → q ≡ get_or ps i q → eqb (part_as q).0.0 a.0 ≡ true → is_first a zero (parts_as (drop i ps)) ≡ true
found_here a [] i q l e h = absurd (omega arith)
found_here a (p ∷ ps) zero q l e h = ap (λ z. eqb (part_as z).0.0 a.0) (sym e) ∙ h
found_here a (p ∷ ps) (suc i) q l e h = found_here a ps i q (omega arith) e h

pub one_later : (a : AttrNo) (ps : List PartOf) (i j : ℕ) (q : PartOf) → i < length ps → q ≡ get_or ps i q → eqb (part_as q).0.0 a.0 ≡ false → is_first a j (parts_as (drop (suc i) ps)) ≡ true → is_first a (suc j) (parts_as (drop i ps)) ≡ true
one_later a [] i j q l e h f = absurd (omega arith)
one_later a (p ∷ ps) zero j q l e h f =
    and_from (not (eqb (part_as p).0.0 a.0)) (is_first a j (parts_as ps)) (not_from_false (eqb (part_as p).0.0 a.0) (ap (λ z. eqb (part_as z).0.0 a.0) (sym e) ∙ h)) f
one_later a (p ∷ ps) (suc i) j q l e h f = one_later a ps i j q (omega arith) e h f

pub on_later : (a : AttrNo) (ps : List PartOf) (i : ℕ) (q : PartOf) → i < length ps → q ≡ get_or ps i q → eqb (part_as q).0.0 a.0 ≡ false → part_on a (parts_as (drop (i + 1) ps)) ≡ part_on a (parts_as (drop i ps))
on_later a ps i q l e h = ap (λ n. part_on a (parts_as (drop n ps))) (add-one i) ∙ by_list ps i l e
  where
    by_list : (xs : List PartOf) (j : ℕ) → j < length xs → q ≡ get_or xs j q → part_on a (parts_as (drop (suc j) xs)) ≡ part_on a (parts_as (drop j xs))
    by_list [] j l e = absurd (omega arith)
    by_list (p ∷ xs) zero l e =
        sym (ap (λ b. cond b (Some (part_as p).1) (part_on a (parts_as xs))) (ap (λ z. eqb (part_as z).0.0 a.0) (sym e) ∙ h))
    by_list (p ∷ xs) (suc j) l e = by_list xs j (omega arith) e

-- the first part of the attribute is kept, or the parts are without it
pub first_kept : (a : AttrNo) (parts : Parts) (i : ℕ) → is_first a i parts ≡ true → kept_part i parts ≡ cond (is_bare_child (part_on a parts)) (without_part a parts) parts
first_kept a no_part i h = absurd (cc)
first_kept a (part b root more) zero h =
    ap (λ t. cond (is_bare root) t (part b root more)) (sym (ap (λ t. cond t more (part b root (without_part a more))) h)) ∙ ap (λ t. cond (is_bare_child (cond t (Some root) (part_on a more))) (cond (eqb b.0 a.0) more (part b root (without_part a more))) (part b root more)) (sym h)
first_kept a (part b root more) (suc i) h =
    let k = and_parts (not (eqb b.0 a.0)) (is_first a i more) h in
    let no = not-true (eqb b.0 a.0) k.0 in
    ap (λ z. part b root z) (first_kept a more i k.1) ∙ by_test (is_bare_child (part_on a more))
    ∙ ap (λ t. cond (is_bare_child (part_on a more)) (cond t more (part b root (without_part a more))) (part b root more)) (sym no) ∙ ap (λ t. cond (is_bare_child (cond t (Some root) (part_on a more))) (cond (eqb b.0 a.0) more (part b root (without_part a more))) (part b root more)) (sym no)
  where
    by_test : (t : Bool) → part b root (cond t (without_part a more) more) ≡ cond t (part b root (without_part a more)) (part b root more)
    by_test true = refl
    by_test false = refl

-- the same of a node
pub part_without : (a : AttrNo) (rows : List Row) (parts : Parts) (low high : Half) (i : ℕ) → is_first a i parts ≡ true → node rows (kept_part i parts) low high ≡ without_bare (Part a) (node rows parts low high)
part_without a rows parts low high i h =
    ap (λ z. node rows z low high) (first_kept a parts i h) ∙ by_test (is_bare_child (part_on a parts))
  where
    by_test : (t : Bool) → node rows (cond t (without_part a parts) parts) low high ≡ cond t (node rows (without_part a parts) low high) (node rows parts low high)
    by_test true = refl
    by_test false = refl
