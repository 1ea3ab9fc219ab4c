-- A tree whose root has a row more in its leaf, and nothing else.
use Rattle.std.proofs.Common.{◌≡◌, ℕ, ◌<◌, ◌≤◌, Bool, true, false, not, eqb, leb, ltb, ◌&&◌, ◌||◌, List, [], ◌∷◌, ◌++◌, length, None, refl, sym, ap, ◌∙◌, subst, arith, length-append}
use Rattle.std.specs.List.{list_any, list_all}
use Rattle.std.proofs.lemmas.Bool.Decides.{nat_tests}
use Rattle.std.proofs.lemmas.List.{append-nil}
use Rattle.be_model.specs.declared.changes.Row.{Row}
use Rattle.be_model.specs.Forms.{IsConj, is_conj}
use Rattle.be_model.specs.Schemas.{Attributes}
use Rattle.be_model.specs.Lies.{row_lies}
use Rattle.be_model.specs.Rows.{id_of}
use Rattle.be_model.specs.ByIds.{put_by_id, by_ids, has_id, ids_differ}
use Rattle.be_base.specs.declared.limits.TheConstants.{LEAF_ROWS, LOG_CHANGES}
use Rattle.be_model.proofs.FormTests.{is_conj-from_IsConj}
use Rattle.be_model.proofs.RowsByIds.{put_last, has_by_ids}
use Rattle.be_model.proofs.Attributes.{and_left, and_right, and_both}
use Rattle.be_shape.specs.Plain.{Plain, node, no_part, part, no_half, half, rows_below, leaf_of, parts_under, with_row, contents}
use Rattle.be_shape.specs.Shape.{nothing, everywhere, in_a_half, in_low, in_high, is_placed_at, is_stuck, spans_inside, is_placed, is_drawn, is_pruned, is_settled, may_stand, rows_lie}

is_at_most : (n m : ℕ) → n ≤ m → leb n m ≡ true
is_at_most n m h = grind (arith, nat_tests)

is_less : (n m : ℕ) → n < m → ltb n m ≡ true
is_less n m h = grind (arith, nat_tests)

-- a test of a list with one more row
all_put : (p : Row → Bool) (rows : List Row) (x : Row) → list_all p rows ≡ true → p x ≡ true → list_all p (rows ++ x ∷ []) ≡ true
all_put p [] x h k = and_both (p x) true k refl
all_put p (row ∷ rows) x h k =
    and_both (p row) (list_all p (rows ++ x ∷ [])) (and_left (p row) (list_all p rows) h) (all_put p rows x (and_right (p row) (list_all p rows) h) k)

all_true : (rows : List Row) → list_all (λ _. true) rows ≡ true
all_true [] = refl
all_true (row ∷ rows) = all_true rows

or_false : (a b : Bool) → (a || b) ≡ false → (a ≡ false) × (b ≡ false)
or_false true b h = absurd (cc)
or_false false b h = (refl, h)

eqb_turned : (n m : ℕ) → eqb n m ≡ false → eqb m n ≡ false
eqb_turned n m h = grind (arith, nat_tests)

any_put : (p : Row → Bool) (rows : List Row) (x : Row) → list_any p rows ≡ false → p x ≡ false → list_any p (rows ++ x ∷ []) ≡ false
any_put p [] x h k = ap (λ b. b || false) k
any_put p (row ∷ rows) x h k =
    let z = or_false (p row) (list_any p rows) h in ap (λ b. b || list_any p (rows ++ x ∷ [])) z.0 ∙ any_put p rows x z.1 k

not_true : (b : Bool) → not b ≡ true → b ≡ false
not_true true h = absurd (cc)
not_true false h = refl

pub differ_put : (rows : List Row) (x : Row) → ids_differ rows ≡ true → list_any (λ other. eqb (id_of other) (id_of x)) rows ≡ false → ids_differ (rows ++ x ∷ []) ≡ true
differ_put [] x h k = refl
differ_put (row ∷ rows) x h k =
    let z = or_false (eqb (id_of row) (id_of x)) (list_any (λ other. eqb (id_of other) (id_of x)) rows) k in
    let f = not_true (list_any (λ other. eqb (id_of other) (id_of row)) rows) (and_left (not (list_any (λ other. eqb (id_of other) (id_of row)) rows)) (ids_differ rows) h) in
    and_both (not (list_any (λ other. eqb (id_of other) (id_of row)) (rows ++ x ∷ []))) (ids_differ (rows ++ x ∷ []))
    (ap not (any_put (λ other. eqb (id_of other) (id_of row)) rows x f (eqb_turned (id_of row) (id_of x) z.0)))
    (differ_put rows x (and_right (not (list_any (λ other. eqb (id_of other) (id_of row)) rows)) (ids_differ rows) h) z.1)

-- what the type of a tree keeps of its root
pub record IsRoot (s : Attributes) (n : Plain) : Type 0 where
  pub lie : rows_lie s n ≡ true
  pub placed : is_placed s n ≡ true
  pub drawn : is_drawn s n ≡ true
  pub pruned : is_pruned s n ≡ true
  pub settled : is_settled s n ≡ true

alone : (rows : List Row) → rows_below (node rows no_part no_half no_half) ≡ rows
alone rows = append-nil (rows ++ [] ++ []) ∙ append-nil (rows ++ []) ∙ append-nil rows

four_true : (b : Bool) → b ≡ true → (b && true && true && true && true) ≡ true
four_true true h = refl
four_true false h = h

three_true : (b : Bool) → b ≡ true → (b && true && true && true) ≡ true
three_true true h = refl
three_true false h = h

first_true : (a b : Bool) → a ≡ true → (a || b) ≡ true
first_true true b h = refl
first_true false b h = absurd (cc)

-- rows in one leaf alone
one_leaf : (s : Attributes) (rows : List Row) → length rows ≤ LEAF_ROWS → list_all (may_stand s) rows ≡ true → ids_differ rows ≡ true → IsRoot s (node rows no_part no_half no_half)
one_leaf s rows few may differ =
    let e = sym (alone rows) in
    record {
      lie = subst (λ r. list_all (may_stand s) r ≡ true) e may;
      placed = and_both (everywhere (is_placed_at s) s nothing (node rows no_part no_half no_half)) (ids_differ (rows_below (node rows no_part no_half no_half))) (four_true (list_all (spans_inside s None) (rows_below (node rows no_part no_half no_half))) (all_true (rows_below (node rows no_part no_half no_half)))) (subst (λ r. ids_differ r ≡ true) e differ);
      drawn = three_true (list_all (λ _. true) rows) (all_true rows);
      pruned = refl;
      settled = three_true (leb (length rows) LEAF_ROWS || list_all (is_stuck s nothing) rows) (first_true (leb (length rows) LEAF_ROWS) (list_all (is_stuck s nothing) rows) (is_at_most (length rows) LEAF_ROWS few));
    }

no_way : {A : Type 0} (d l h i : Bool) → (d && false && true && l && h && i) ≡ true → A
no_way true l h i k = absurd (cc)
no_way false l h i k = absurd (cc)

-- a root without parts may have a row more, where its leaf has fewer than LEAF_ROWS
pub put_fits : (s : Attributes) (n : Plain) (x : Row) → rows_lie s n ≡ true → is_placed s n ≡ true → parts_under n ≡ no_part → length (leaf_of n) < LEAF_ROWS
    → has_id (id_of x) (contents n) ≡ false → may_stand s x ≡ true → IsRoot s (with_row x n)
put_fits s (node rows (part a r more) low high) x lie placed np few new may = absurd (cc)
put_fits s (node rows no_part (half n) high) x lie placed np few new may =
    no_way (list_all (spans_inside s None) (rows_below (node rows no_part (half n) high))) (in_a_half (is_placed_at s) s (in_low nothing) (half n)) (in_a_half (is_placed_at s) s (in_high nothing) high) (ids_differ (rows_below (node rows no_part (half n) high))) placed
put_fits s (node rows no_part no_half (half n)) x lie placed np few new may =
    no_way (list_all (spans_inside s None) (rows_below (node rows no_part no_half (half n)))) true (in_a_half (is_placed_at s) s (in_high nothing) (half n)) (ids_differ (rows_below (node rows no_part no_half (half n)))) placed
put_fits s (node rows no_part no_half no_half) x lie placed np few new may =
    let e = alone rows in
    let l : length (rows ++ x ∷ []) ≤ LEAF_ROWS = omega (arith, length-append rows (x ∷ []), few) in
    one_leaf s (rows ++ x ∷ []) l (all_put (may_stand s) rows x (subst (λ r. list_all (may_stand s) r ≡ true) e lie) may)
    (differ_put rows x (subst (λ r. ids_differ r ≡ true) e (and_right (everywhere (is_placed_at s) s nothing (node rows no_part no_half no_half)) (ids_differ (rows_below (node rows no_part no_half no_half))) placed))
    (subst (λ r. list_any (λ other. eqb (id_of other) (id_of x)) r ≡ false) e (sym (has_by_ids (id_of x) (rows_below (node rows no_part no_half no_half))) ∙ new)))

pub may_stand_from : (s : Attributes) (x : Row) → IsConj x.conj → row_lies s x ≡ true → id_of x < LOG_CHANGES → may_stand s x ≡ true
may_stand_from s x f l h =
    and_both (is_conj x.conj) (row_lies s x && ltb (id_of x) LOG_CHANGES) (is_conj-from_IsConj x.conj f) (and_both (row_lies s x) (ltb (id_of x) LOG_CHANGES) l (is_less (id_of x) LOG_CHANGES h))

-- the same of a node that is seen so
pub root_facts : (s : Attributes) (n : Plain) (x : Row) (m : Plain) → m ≡ with_row x n → IsRoot s (with_row x n) → IsRoot s m
root_facts s n x m h r = subst (IsRoot s) (sym h) r

-- the contents grow by this row
pub put_contents : (s : Attributes) (n : Plain) (x : Row) → is_placed s n ≡ true → parts_under n ≡ no_part → has_id (id_of x) (contents n) ≡ false → contents (with_row x n) ≡ put_by_id x (contents n)
put_contents s (node rows (part a r more) low high) x placed np new = absurd (cc)
put_contents s (node rows no_part (half n) high) x placed np new =
    no_way (list_all (spans_inside s None) (rows_below (node rows no_part (half n) high))) (in_a_half (is_placed_at s) s (in_low nothing) (half n)) (in_a_half (is_placed_at s) s (in_high nothing) high) (ids_differ (rows_below (node rows no_part (half n) high))) placed
put_contents s (node rows no_part no_half (half n)) x placed np new =
    no_way (list_all (spans_inside s None) (rows_below (node rows no_part no_half (half n)))) true (in_a_half (is_placed_at s) s (in_high nothing) (half n)) (ids_differ (rows_below (node rows no_part no_half (half n)))) placed
put_contents s (node rows no_part no_half no_half) x placed np new =
    let e = alone rows in
    let k : list_any (λ other. eqb (id_of other) (id_of x)) rows ≡ false =
    subst (λ r. list_any (λ other. eqb (id_of other) (id_of x)) r ≡ false) e (sym (has_by_ids (id_of x) (rows_below (node rows no_part no_half no_half))) ∙ new) in
    ap by_ids (alone (rows ++ x ∷ [])) ∙ put_last rows x k ∙ ap (λ r. put_by_id x (by_ids r)) (sym e)

pub with_row_parts : (n : Plain) (x : Row) → parts_under (with_row x n) ≡ parts_under n
with_row_parts (node rows parts low high) x = refl

pub with_row_leaf : (n : Plain) (x : Row) → leaf_of (with_row x n) ≡ leaf_of n ++ x ∷ []
with_row_leaf (node rows parts low high) x = refl
