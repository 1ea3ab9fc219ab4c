-- A row gains only on an attribute that it has.
use Rattle.std.proofs.Common.{◌≡◌, ℕ, zero, suc, ◌+◌, ◌-◌, ◌*◌, ◌/◌, ◌<◌, ◌≤◌, leb, ltb, eqb, Bool, true, false, true≢false, cond, ◌&&◌, ◌||◌, List, [], ◌∷◌, Option, Some, None, refl, sym, ap, ◌∙◌, subst, arith}
use Rattle.std.specs.Prelude.{IfSome, is_some, option_map, option_and_then}
use Rattle.std.proofs.Math.Nat.{div-lt_iff_lt-mul}
use Rattle.std.proofs.lemmas.Int.{ints}
use Rattle.std.specs.List.{find, list_any}
use Rattle.std.proofs.lemmas.Bool.{leb-true, lt-leb, and_parts, and_from, or_left, or_right, eq-eqb, eqb-true, false_from_ne_true}
use Rattle.be_base.specs.declared.names.AttrNo.{AttrNo}
use Rattle.be_base.specs.declared.limits.TheConstants.{SHIFT_GAIN, LOG_CHANGES}
use Rattle.be_model.specs.declared.changes.Row.{Row}
use Rattle.be_model.specs.declared.preds.Pred.{Pred}
use Rattle.be_model.specs.Domains.{Range, width}
use Rattle.be_model.specs.Laws.{IsPart}
use Rattle.be_model.proofs.Spans.{spans_lie}
use Rattle.be_model.specs.Hulls.{is_on, hull, span_in}
use Rattle.be_model.specs.Forms.{IsConj, is_conj}
use Rattle.be_model.specs.Lies.{row_lies}
use Rattle.be_model.specs.Schemas.{Attributes, IsSchema, range_of, numbered}
use Rattle.be_model.specs.Rows.{id_of, has}
use Rattle.be_model.proofs.FormTests.{IsConj-from_is_conj}
use Rattle.be_model.proofs.Lists.{is_some-find}
use Rattle.be_score.specs.Scores.{weight_in, weight}
use Rattle.be_shape.specs.Shape.{whole, is_used, may_stand}
use Rattle.be_plan.specs.Plan.{gains}
use Rattle.be_plan.specs.Shifts.{gains_among, any_gains, is_small, are_small, least_share}

-- what may stand in a tree has the form of a condition and lies in the schema
pub may_form : (s : Attributes) (row : Row) → may_stand s row ≡ true → IsConj row.conj
may_form s row h =
    IsConj-from_is_conj row.conj (and_parts (is_conj row.conj) (row_lies s row && ltb (id_of row) LOG_CHANGES) h).0

pub may_lies : (s : Attributes) (row : Row) → may_stand s row ≡ true → row_lies s row ≡ true
may_lies s row h =
    (and_parts (row_lies s row) (ltb (id_of row) LOG_CHANGES) (and_parts (is_conj row.conj) (row_lies s row && ltb (id_of row) LOG_CHANGES) h).1).0

pub no_weight : (s : Attributes) (a : AttrNo) (row : Row) → has a row ≡ false → weight s a row ≡ 0
no_weight s a row h = by_range (range_of s a)
  where
    by_found : (d : Range) (o : Option Pred) → is_some o ≡ false → weight_in (Some d) (option_map (λ (p : Pred). hull d p.op) o) ≡ 0
    by_found d None e = refl
    by_found d (Some p) e = absurd (true≢false e)

    by_range : (o : Option Range) → weight_in o (option_and_then (λ d. option_map (λ (p : Pred). hull d p.op) (find (is_on a) row.conj)) o) ≡ 0
    by_range None = refl
    by_range (Some d) = by_found d (find (is_on a) row.conj) (is_some-find (is_on a) row.conj ∙ h)

pub no_gain : (s : Attributes) (from to : AttrNo) (row : Row) → has to row ≡ false → gains s from row to ≡ false
no_gain s from to row h = let e = no_weight s to row h in lt-leb (weight s from row + SHIFT_GAIN) (weight s to row) (omega arith)

pub gain_has : (s : Attributes) (from to : AttrNo) (row : Row) → gains s from row to ≡ true → has to row ≡ true
gain_has s from to row h = by_test (has to row) refl
  where
    by_test : (t : Bool) → has to row ≡ t → t ≡ true
    by_test true e = refl
    by_test false e = absurd (true≢false (sym h ∙ no_gain s from to row e))

-- to another attribute
pub gain_differs : (s : Attributes) (from to : AttrNo) (row : Row) → gains s from row to ≡ true → from.0 ≡ to.0 → ⊥
gain_differs s from to row h e =
    let l = leb-true (weight s from row + SHIFT_GAIN) (weight s to row) h in
    let same = ap (λ (n : ℕ). weight s (record { 0 = n }) row) e in omega arith

pub none_on_own : (s : Attributes) (attrs : List AttrNo) (from : AttrNo) (row : Row) (to : AttrNo) → to.0 ≡ from.0 → gains_among s attrs from row to ≡ false
none_on_own s attrs from row to e =
    false_from_ne_true (gains_among s attrs from row to) (λ g. gain_differs s from to row (and_parts (is_used attrs to) (gains s from row to) g).1 (sym e))

pub no_self : (s : Attributes) (a : AttrNo) (row : Row) → gains s a row a ≡ false
no_self s a row = lt-leb (weight s a row + SHIFT_GAIN) (weight s a row) (omega arith)

pub weight_most : (s : Attributes) (a : AttrNo) (row : Row) → weight s a row ≤ 1000
weight_most s a row = by_parts (range_of s a) (span_in s a row.conj)
  where
    by_parts : (d r : Option Range) → weight_in d r ≤ 1000
    by_parts None r = omega arith
    by_parts (Some d) None = omega arith
    by_parts (Some d) (Some r) = omega arith

-- a row that weighs more than 500 gains nowhere
over_half : (s : Attributes) (from : AttrNo) (row : Row) (attrs : List AttrNo) → 1000 < weight s from row + SHIFT_GAIN → find (gains s from row) attrs ≡ None
over_half s from row [] l = refl
over_half s from row (to ∷ attrs) l =
    let m = weight_most s to row in
    ap (λ b. cond b (Some to) (find (gains s from row) attrs)) (lt-leb (weight s from row + SHIFT_GAIN) (weight s to row) (omega arith)) ∙ over_half s from row attrs l

-- of a domain of at most 1000 values a span takes a thousandth
one_share : (w d : ℕ) → 0 < w → 0 < d → d ≤ 1000 → 1000 - 1000 * w / d ≤ 999
one_share w d some there few = by_share (1000 * w / d) refl
  where
    by_share : (q : ℕ) → 1000 * w / d ≡ q → 1000 - q ≤ 999
    by_share zero e = let l = (div-lt_iff_lt-mul {k = d} {x = 1000 * w} {y = 1} there).0 (omega (arith, e)) in absurd (omega (arith, l, some, few))
    by_share (suc q) e = omega arith

small_weight : (s : Attributes) (a : AttrNo) (row : Row) → IsSchema s → may_stand s row ≡ true → is_small (whole s a) ≡ true → weight s a row ≤ 999
small_weight s a row f may h = by_range (range_of s a) refl h
  where
    by_span : (d : Range) (o : Option Range) → range_of s a ≡ Some d → span_in s a row.conj ≡ o → leb (width d) 1000 ≡ true → weight_in (Some d) o ≤ 999
    by_span d None e g l = omega arith
    by_span d (Some x) e g l =
        let part = subst (λ o. IfSome o (IsPart d)) g (spans_lie s a row.conj d f (may_form s row may) (may_lies s row may) e) in
        let low = part.low in
        let rising = part.rising in
        let high = part.high in
        one_share (width x) (width d) (omega (arith, ints, rising)) (omega (arith, ints, low, rising, high)) (leb-true (width d) 1000 l)

    by_range : (o : Option Range) → range_of s a ≡ o → is_small (option_map (λ d. (a, d)) o) ≡ true → weight s a row ≤ 999
    by_range None e l = let z = ap (λ o. weight_in o (span_in s a row.conj)) e in omega (arith, z)
    by_range (Some d) e l = subst (λ o. weight_in o (span_in s a row.conj) ≤ 999) (sym e) (by_span d (span_in s a row.conj) e refl l)

at_half : (s : Attributes) (from : AttrNo) (row : Row) (attrs : List AttrNo) → IsSchema s → may_stand s row ≡ true → are_small s attrs ≡ true → 1000 < weight s from row + (SHIFT_GAIN + 1) → find (gains s from row) attrs ≡ None
at_half s from row [] f may h l = refl
at_half s from row (to ∷ attrs) f may h l =
    let k = and_parts (is_small (whole s to)) (are_small s attrs) h in
    let m = small_weight s to row f may k.0 in
    ap (λ b. cond b (Some to) (find (gains s from row) attrs)) (lt-leb (weight s from row + SHIFT_GAIN) (weight s to row) (omega (arith, l, m))) ∙ at_half s from row attrs f may k.1 l

-- a row that takes little of its part's domain gains nowhere
pub heavy : (s : Attributes) (from : AttrNo) (row : Row) (attrs : List AttrNo) (small : Bool) → small ≡ are_small s attrs → IsSchema s → may_stand s row ≡ true → 1000 < weight s from row + least_share small → find (gains s from row) attrs ≡ None
heavy s from row attrs true e f may l = at_half s from row attrs f may (sym e) l
heavy s from row attrs false e f may l = over_half s from row attrs l

-- what holds of an attribute of a condition holds of some predicate's
pub some_on : (test : AttrNo → Bool) (to : AttrNo) (conj : List Pred) → test to ≡ true → list_any (is_on to) conj ≡ true → list_any (λ (p : Pred). test p.attr) conj ≡ true
some_on test to [] t o = absurd (true≢false (sym o))
some_on test to (p ∷ conj) t o = by_test (eqb p.attr.0 to.0) refl o (some_on test to conj t)
  where
    by_test : (b : Bool) → eqb p.attr.0 to.0 ≡ b → (b || list_any (is_on to) conj) ≡ true → (list_any (is_on to) conj ≡ true → list_any (λ (q : Pred). test q.attr) conj ≡ true) → (test p.attr || list_any (λ (q : Pred). test q.attr) conj) ≡ true
    by_test true e o on = or_left (test p.attr) (list_any (λ (q : Pred). test q.attr) conj) (ap (λ i. test (numbered i)) (eqb-true p.attr.0 to.0 e) ∙ t)
    by_test false e o on = or_right (test p.attr) (list_any (λ (q : Pred). test q.attr) conj) (on o)

-- a row that gains on no attribute of its own gains nowhere
pub nowhere : (s : Attributes) (attrs : List AttrNo) (from : AttrNo) (row : Row) → any_gains s attrs from row ≡ false → find (gains s from row) attrs ≡ None
nowhere s attrs from row h = by_attrs attrs (λ b u. u)
  where
    none : (to : AttrNo) → is_used attrs to ≡ true → gains s from row to ≡ true → ⊥
    none to u g =
        true≢false (sym (some_on (λ b. is_used attrs b && gains s from row b) to row.conj (and_from (is_used attrs to) (gains s from row to) u g) (gain_has s from to row g)) ∙ h)

    by_attrs : (xs : List AttrNo) → ((b : AttrNo) → is_used xs b ≡ true → is_used attrs b ≡ true) → find (gains s from row) xs ≡ None
    by_attrs [] f = refl
    by_attrs (to ∷ xs) f =
        let here : is_used (to ∷ xs) to ≡ true = or_left (eqb to.0 to.0) (is_used xs to) (eq-eqb to.0 to.0 refl) in
        ap (λ b. cond b (Some to) (find (gains s from row) xs)) (false_from_ne_true (gains s from row to) (none to (f to here)))
        ∙ by_attrs xs (λ b u. f b (or_right (eqb to.0 b.0) (is_used xs b) u))
