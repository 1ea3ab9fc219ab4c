-- What a row shares with an event at a node: the halvings of the node's range that are left, and the ranges of the
-- attributes that aren't used above. Below each step it is at least one less.
use Rattle.std.proofs.Common.{◌≡◌, ℕ, ℤ, ◌+◌, ◌≤◌, Bool, true, false, cond, eqb, ◌||◌, List, [], ◌∷◌, length, Some, refl, ap, ◌∙◌, arith}
use Rattle.std.specs.List.{sum_by, list_all}
use Rattle.std.specs.Option.{is_some}
use Rattle.std.proofs.lemmas.Bool.{eqb-true, not-true}
use Rattle.std.proofs.lemmas.Bool.Decides.{nat_tests}
use Rattle.std.proofs.lemmas.List.Sums.{sum_by-cons, sum_by-le-sum_by}
use Rattle.be_base.specs.declared.names.AttrNo.{AttrNo}
use Rattle.be_model.specs.declared.changes.Row.{Row}
use Rattle.be_model.specs.Schemas.{Attributes, numbered}
use Rattle.be_model.specs.Matching.{Assignments, values_of, is_assigned}
use Rattle.be_model.specs.Rows.{has}
use Rattle.be_model.specs.Bounds.{bits_at, ranges_to, shared}
use Rattle.be_model.proofs.Attributes.{and_left, and_right}
use Rattle.be_shape.proofs.BitsLeft.{bits_left, whole_bits, low_left, high_left}
use Rattle.be_model.specs.declared.paths.Hop.{Hop}
use Rattle.be_model.specs.declared.paths.Hop.TheVariants.{Part, Low, High}
use Rattle.be_shape.specs.Children.{known_below, is_open, may_pass}
use Rattle.be_shape.proofs.Visited.{enters}
use Rattle.be_shape.specs.Shape.{Known, nothing, in_part, in_low, in_high, is_used, can_split, is_some as some_row}

abbrev unused_ranges : Attributes → List AttrNo → Row → AttrNo × List ℤ → ℕ
unused_ranges s used row item = cond (is_used used item.0) 0 (ranges_to s row item)

abbrev unused_shared : Attributes → Assignments → List AttrNo → Row → ℕ
unused_shared s e used row = sum_by (unused_ranges s used row) e

abbrev pub share : Attributes → Assignments → Known → Row → ℕ
share s e k row = bits_left k.range + unused_shared s e k.used row

-- at the root it is what the row and the event share
pub share_at_root : (s : Attributes) (e : Assignments) (row : Row) → share s e nothing row ≤ shared s e row
share_at_root s e row = omega (arith, sum_by-le-sum_by (unused_ranges s [] row) (ranges_to s row) e (λ item. omega arith))

-- one more attribute is used
more_used : (s : Attributes) (a : AttrNo) (used : List AttrNo) (row : Row) (item : AttrNo × List ℤ) → unused_ranges s (a ∷ used) row item ≤ unused_ranges s used row item
more_used s a used row item = by_tests (eqb a.0 item.0.0) (is_used used item.0) (ranges_to s row item)
  where
    by_tests : (x y : Bool) (n : ℕ) → cond (x || y) 0 n ≤ cond y 0 n
    by_tests true true n = omega arith
    by_tests true false n = omega arith
    by_tests false y n = omega arith

turned : (n m : ℕ) → eqb n m ≡ true → eqb m n ≡ true
turned n m h = grind (arith, nat_tests)

used_now : (s : Attributes) (a : AttrNo) (used : List AttrNo) (row : Row) (item : AttrNo × List ℤ) → eqb item.0.0 a.0 ≡ true → unused_ranges s (a ∷ used) row item ≡ 0
used_now s a used row item same =
    ap (λ b. cond (b || is_used used item.0) 0 (ranges_to s row item)) (turned item.0.0 a.0 same)

unused_still : (s : Attributes) (a : AttrNo) (used : List AttrNo) (row : Row) → is_used used a ≡ false → has a row ≡ true → (v : List ℤ) → unused_ranges s used row (a, v) ≡ 1 + bits_at s a
unused_still s a used row unused has_it v =
    ap (λ b. cond b 0 (ranges_to s row (a, v))) unused ∙ ap (λ b. cond b (1 + bits_at s a) 0) has_it

on_attr : (s : Attributes) (a : AttrNo) (used : List AttrNo) (row : Row) (item : AttrNo × List ℤ) → eqb item.0.0 a.0 ≡ true → is_used used a ≡ false → has a row ≡ true → unused_ranges s used row item ≡ 1 + bits_at s a
on_attr s a used row item same unused has_it =
    ap (λ n. unused_ranges s used row (numbered n, item.1)) (eqb-true item.0.0 a.0 same) ∙ unused_still s a used row unused has_it item.1

part_takes : (s : Attributes) (e : Assignments) (a : AttrNo) (used : List AttrNo) (row : Row) → is_used used a ≡ false → has a row ≡ true → is_assigned e a ≡ true
    → unused_shared s e (a ∷ used) row + (1 + bits_at s a) ≤ unused_shared s e used row
part_takes s [] a used row unused has_it given = absurd (cc)
part_takes s (item ∷ e) a used row unused has_it given =
    by_test (eqb item.0.0 a.0) refl given (λ g. part_takes s e a used row unused has_it g)
  where
    by_test : (b : Bool) → eqb item.0.0 a.0 ≡ b → is_some (cond b (Some item.1) (values_of e a)) ≡ true
        → (is_assigned e a ≡ true → unused_shared s e (a ∷ used) row + (1 + bits_at s a) ≤ unused_shared s e used row)
        → unused_shared s (item ∷ e) (a ∷ used) row + (1 + bits_at s a) ≤ unused_shared s (item ∷ e) used row
    by_test true same g more =
        omega (arith, sum_by-cons (unused_ranges s (a ∷ used) row) item e, sum_by-cons (unused_ranges s used row) item e, used_now s a used row item same, on_attr s a used row item same unused has_it, sum_by-le-sum_by (unused_ranges s (a ∷ used) row) (unused_ranges s used row) e (more_used s a used row))
    by_test false same g more =
        omega (arith, sum_by-cons (unused_ranges s (a ∷ used) row) item e, sum_by-cons (unused_ranges s used row) item e, more_used s a used row item, more g)

-- below a part whose attribute is assigned
part_share : (s : Attributes) (e : Assignments) (k : Known) (a : AttrNo) (row : Row) → is_used k.used a ≡ false → is_assigned e a ≡ true → has a row ≡ true → share s e (in_part s a k) row + 1 ≤ share s e k row
part_share s e k a row unused given has_it =
    omega (arith, whole_bits s a, part_takes s e a k.used row unused has_it given)

-- in a half
low_share : (s : Attributes) (e : Assignments) (k : Known) (row : Row) → can_split k.range ≡ true → share s e (in_low k) row + 1 ≤ share s e k row
low_share s e k row h = omega (arith, low_left k.range h)

high_share : (s : Attributes) (e : Assignments) (k : Known) (row : Row) → can_split k.range ≡ true → share s e (in_high k) row + 1 ≤ share s e k row
high_share s e k row h = omega (arith, high_left k.range h)

-- below a step that is entered, a row that may pass has a share that is less
pub share_below : (s : Attributes) (e : Assignments) (hop : Hop) (k : Known) (row : Row) → is_open hop k ≡ true → enters s e k.range hop ≡ true → may_pass s hop k.range row ≡ true → share s e (known_below s hop k) row + 1 ≤ share s e k row
share_below s e (Part a) k row may entered passed =
    part_share s e k a row (not-true (is_used k.used a) may) entered passed
share_below s e Low k row may entered passed = low_share s e k row may
share_below s e High k row may entered passed = high_share s e k row may

-- rows that each share one less pay for a node
lesser : (f g : Row → ℕ) (p : Row → Bool) (rows : List Row) → list_all p rows ≡ true → ((row : Row) → p row ≡ true → f row + 1 ≤ g row) → sum_by f rows + length rows ≤ sum_by g rows
lesser f g p [] h less = omega arith
lesser f g p (row ∷ rows) h less =
    omega (arith, sum_by-cons f row rows, sum_by-cons g row rows, less row (and_left (p row) (list_all p rows) h), lesser f g p rows (and_right (p row) (list_all p rows) h) less)

some_length : (rows : List Row) → some_row rows ≡ true → 1 ≤ length rows
some_length [] h = absurd (cc)
some_length (row ∷ rows) h = omega arith

pub rows_pay : (f g : Row → ℕ) (p : Row → Bool) (rows : List Row) → list_all p rows ≡ true → ((row : Row) → p row ≡ true → f row + 1 ≤ g row) → some_row rows ≡ true → 1 + sum_by f rows ≤ sum_by g rows
rows_pay f g p rows h less some = omega (arith, lesser f g p rows h less, some_length rows some)
