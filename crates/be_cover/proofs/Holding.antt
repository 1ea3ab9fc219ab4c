-- Which values the pieces of ranges hold.
use Rattle.std.proofs.Common.{◌≡◌, ℤ, pos, ◌+ℤ◌, ◌-ℤ◌, ◌≤ℤ◌, Bool, true, false, not, ◌&&◌, ◌||◌, List, [], ◌∷◌, ◌++◌, All, refl, ap, ◌∙◌, arith}
use Rattle.std.specs.Prelude.{if◌then◌else◌}
use Rattle.std.specs.Int.Signed.{le_z, lt_z}
use Rattle.std.specs.Ordering.{int_eq}
use Rattle.std.specs.Int.{int_max, int_min}
use Rattle.std.specs.List.{flat_map}
use Rattle.std.proofs.lemmas.Int.{ints}
use Rattle.std.proofs.lemmas.Bool.{and_parts}
use Rattle.std.proofs.lemmas.List.Folds.{list_any-append}
use Rattle.std.proofs.lemmas.List.Elements.{All-head, All-tail}
use Rattle.be_base.specs.declared.names.AttrNo.{AttrNo}
use Rattle.be_model.specs.declared.ops.Op.{Op}
use Rattle.be_model.specs.declared.ops.Op.TheVariants.{Lt, Le, Eq, Ne, Ge, Gt, Between, OneOf, NoneOf}
use Rattle.be_model.specs.declared.preds.Pred.{Pred}
use Rattle.be_model.specs.Domains.{Range, is_within}
use Rattle.be_model.specs.Forms.{OpForm, rises}
use Rattle.be_model.specs.Hulls.{is_on}
use Rattle.be_model.specs.Matching.{is_among, holds}
use Rattle.be_cover.specs.Ranges.{is_in}
use Rattle.be_cover.specs.Pieces.{whole, gaps, before, run_after, run_ended, runs, pieces}
use Rattle.be_cover.specs.Covering.{hold_on}

-- what the predicates on the attribute leave of ranges
abbrev pub narrowed : AttrNo → List Pred → List Range → List Range
narrowed a [] ranges = ranges
narrowed a (p ∷ ps) ranges = narrowed a ps (if is_on a p then flat_map (pieces p.op) ranges else ranges)

pub is_in-whole : (r : Range) (v : ℤ) → is_in (whole r) v ≡ is_within r v
is_in-whole r v = grind (arith, ints)

-- rising numbers have nothing that isn't above the first of them
pub none_below : (x v : ℤ) (xs : List ℤ) → rises (x ∷ xs) ≡ true → v ≤ℤ x → is_among xs v ≡ false
none_below x v [] h k = refl
none_below x v (y ∷ ys) h k =
    let parts = and_parts (lt_z x y) (rises (y ∷ ys)) h in
    let later = none_below y v ys parts.1 (omega (arith, ints)) in
    unequal x y v (is_among ys v) parts.0 k later
  where
    unequal : (x y v : ℤ) (f : Bool) → lt_z x y ≡ true → v ≤ℤ x → f ≡ false → (int_eq y v || f) ≡ false
    unequal x y v f h k l = grind (arith, ints)

pub rises-tail : (x : ℤ) (xs : List ℤ) → rises (x ∷ xs) ≡ true → rises xs ≡ true
rises-tail x [] h = refl
rises-tail x (y ∷ ys) h = (and_parts (lt_z x y) (rises (y ∷ ys)) h).1

gap_within : (r0 r1 x v : ℤ) (f : Bool) → (le_z r0 x && le_z x r1) ≡ true → (v ≤ℤ x → f ≡ false)
    → ((le_z r0 v && le_z v (x -ℤ pos 1)) || ((le_z (x +ℤ pos 1) v && le_z v r1) && not f)) ≡ ((le_z r0 v && le_z v r1) && not (int_eq x v || f))
gap_within r0 r1 x v f h above = grind (arith, ints)

gap_outside : (r0 r1 x v : ℤ) (f : Bool) → (le_z r0 x && le_z x r1) ≡ false → ((le_z r0 v && le_z v r1) && not f) ≡ ((le_z r0 v && le_z v r1) && not (int_eq x v || f))
gap_outside r0 r1 x v f h = grind (arith, ints)

and_true : (b : Bool) → b ≡ (b && true)
and_true true = refl
and_true false = refl

-- the gaps of a range hold what it holds, but for the numbers
pub is_in-gaps : (xs : List ℤ) (r : Range) (v : ℤ) → rises xs ≡ true → is_in (gaps xs r) v ≡ (is_within r v && not (is_among xs v))
is_in-gaps [] r v h = is_in-whole r v ∙ and_true (is_within r v)
is_in-gaps (x ∷ xs) r v h =
    by_test (is_within r x) refl (is_in-gaps xs (x +ℤ pos 1, r.1) v (rises-tail x xs h)) (is_in-gaps xs r v (rises-tail x xs h))
  where
    by_test : (b : Bool) → is_within r x ≡ b → is_in (gaps xs (x +ℤ pos 1, r.1)) v ≡ (is_within (x +ℤ pos 1, r.1) v && not (is_among xs v))
        → is_in (gaps xs r) v ≡ (is_within r v && not (is_among xs v))
        → is_in (if b then whole (r.0, x -ℤ pos 1) ++ gaps xs (x +ℤ pos 1, r.1) else gaps xs r) v ≡ (is_within r v && not (is_among (x ∷ xs) v))
    by_test true e cut kept =
        list_any-append (λ q. is_within q v) (whole (r.0, x -ℤ pos 1)) (gaps xs (x +ℤ pos 1, r.1))
        ∙ ap (λ b. b || is_in (gaps xs (x +ℤ pos 1, r.1)) v) (is_in-whole (r.0, x -ℤ pos 1) v)
        ∙ ap (λ b. is_within (r.0, x -ℤ pos 1) v || b) cut
        ∙ gap_within r.0 r.1 x v (is_among xs v) e (none_below x v xs h)
    by_test false e cut kept = kept ∙ gap_outside r.0 r.1 x v (is_among xs v) e

run_ends : (r0 r1 a b v : ℤ) → (le_z a v && le_z v b) ≡ ((le_z a v && le_z v b) || ((le_z r0 v && le_z v r1) && false))
run_ends r0 r1 a b v = grind (arith, ints)

run_goes_on : (r0 r1 a b x v : ℤ) (f : Bool) → (le_z r0 x && le_z x r1) ≡ true → int_eq (x -ℤ pos 1) b ≡ true → a ≤ℤ (b +ℤ pos 1)
    → ((le_z a v && le_z v x) || ((le_z r0 v && le_z v r1) && f)) ≡ ((le_z a v && le_z v b) || ((le_z r0 v && le_z v r1) && (int_eq x v || f)))
run_goes_on r0 r1 a b x v f h e k = grind (arith, ints)

run_begins : (r0 r1 a b x v : ℤ) (f : Bool) → (le_z r0 x && le_z x r1) ≡ true
    → ((le_z a v && le_z v b) || ((le_z x v && le_z v x) || ((le_z r0 v && le_z v r1) && f))) ≡ ((le_z a v && le_z v b) || ((le_z r0 v && le_z v r1) && (int_eq x v || f)))
run_begins r0 r1 a b x v f h = grind (arith, ints)

run_outside : (r0 r1 a b x v : ℤ) (f : Bool) → (le_z r0 x && le_z x r1) ≡ false
    → ((le_z a v && le_z v b) || ((le_z r0 v && le_z v r1) && f)) ≡ ((le_z a v && le_z v b) || ((le_z r0 v && le_z v r1) && (int_eq x v || f)))
run_outside r0 r1 a b x v f h = grind (arith, ints)

next_run : (a b x : ℤ) → int_eq (x -ℤ pos 1) b ≡ true → a ≤ℤ (b +ℤ pos 1) → a ≤ℤ (x +ℤ pos 1)
next_run a b x e h = grind (arith, ints)

-- the runs hold what the run so far holds, and the numbers of the range
abbrev AreRuns : List ℤ → List Range → Range → Range → ℤ → Type 0
AreRuns xs rest r run v = is_in rest v ≡ (is_within run v || (is_within r v && is_among xs v))

pub is_in-runs : (xs : List ℤ) (r run : Range) (v : ℤ) → run.0 ≤ℤ (run.1 +ℤ pos 1) → is_in (runs xs r run) v ≡ (is_within run v || (is_within r v && is_among xs v))
is_in-runs [] r run v h = is_in-whole run v ∙ run_ends r.0 r.1 run.0 run.1 v
is_in-runs (x ∷ xs) r run v h =
    by_test (is_within r x) refl (λ next k. is_in-runs xs r next v k) (is_in-runs xs r run v h)
  where
    by_next : (c : Bool) → is_within r x ≡ true → int_eq (x -ℤ pos 1) run.1 ≡ c → ((next : Range) → next.0 ≤ℤ (next.1 +ℤ pos 1) → AreRuns xs (runs xs r next) r next v)
        → AreRuns (x ∷ xs) ((if c then [] else whole run) ++ runs xs r (if c then (run.0, x) else (x, x))) r run v
    by_next true e k later =
        later (run.0, x) (next_run run.0 run.1 x k h) ∙ run_goes_on r.0 r.1 run.0 run.1 x v (is_among xs v) e k h
    by_next false e k later =
        list_any-append (λ q. is_within q v) (whole run) (runs xs r (x, x))
        ∙ ap (λ b. b || is_in (runs xs r (x, x)) v) (is_in-whole run v)
        ∙ ap (λ b. is_within run v || b) (later (x, x) (omega (arith, ints)))
        ∙ run_begins r.0 r.1 run.0 run.1 x v (is_among xs v) e

    by_test : (b : Bool) → is_within r x ≡ b → ((next : Range) → next.0 ≤ℤ (next.1 +ℤ pos 1) → AreRuns xs (runs xs r next) r next v) → AreRuns xs (runs xs r run) r run v
        → AreRuns (x ∷ xs) (if b then run_ended run x ++ runs xs r (run_after run x) else runs xs r run) r run v
    by_test true e later same = by_next (int_eq (x -ℤ pos 1) run.1) e refl later
    by_test false e later same = same ∙ run_outside r.0 r.1 run.0 run.1 x v (is_among xs v) e

below_lesser : (r0 r1 x v : ℤ) → (le_z r0 v && le_z v (int_min r1 (x -ℤ pos 1))) ≡ ((le_z r0 v && le_z v r1) && lt_z v x)
below_lesser r0 r1 x v = grind (arith, ints)

to_lesser : (r0 r1 x v : ℤ) → (le_z r0 v && le_z v (int_min r1 x)) ≡ ((le_z r0 v && le_z v r1) && le_z v x)
to_lesser r0 r1 x v = grind (arith, ints)

from_greater : (r0 r1 x v : ℤ) → (le_z (int_max r0 x) v && le_z v r1) ≡ ((le_z r0 v && le_z v r1) && le_z x v)
from_greater r0 r1 x v = grind (arith, ints)

above_greater : (r0 r1 x v : ℤ) → (le_z (int_max r0 (x +ℤ pos 1)) v && le_z v r1) ≡ ((le_z r0 v && le_z v r1) && lt_z x v)
above_greater r0 r1 x v = grind (arith, ints)

between_both : (r0 r1 x y v : ℤ) → (le_z (int_max r0 x) v && le_z v (int_min r1 y)) ≡ ((le_z r0 v && le_z v r1) && (le_z x v && le_z v y))
between_both r0 r1 x y v = grind (arith, ints)

between_same : (x v : ℤ) → (le_z x v && le_z v x) ≡ int_eq v x
between_same x v = grind (arith, ints)

one_among : (x v : ℤ) → is_among (x ∷ []) v ≡ int_eq v x
one_among x v = grind (arith, ints)

none_before : (r0 v : ℤ) → (le_z r0 v && le_z v (r0 -ℤ pos 1)) ≡ false
none_before r0 v = grind (arith, ints)

-- what a comparison leaves of a range holds those of its values of which the comparison holds
pub is_in-pieces : (op : Op) (r : Range) (v : ℤ) → OpForm op → is_in (pieces op r) v ≡ (is_within r v && holds op v)
is_in-pieces (Lt x) r v f = is_in-whole (r.0, int_min r.1 (x -ℤ pos 1)) v ∙ below_lesser r.0 r.1 x v
is_in-pieces (Le x) r v f = is_in-whole (r.0, int_min r.1 x) v ∙ to_lesser r.0 r.1 x v
is_in-pieces (Eq x) r v f =
    is_in-whole (int_max r.0 x, int_min r.1 x) v ∙ between_both r.0 r.1 x x v ∙ ap (λ b. is_within r v && b) (between_same x v)
is_in-pieces (Ne x) r v f = is_in-gaps (x ∷ []) r v refl ∙ ap (λ b. is_within r v && not b) (one_among x v)
is_in-pieces (Ge x) r v f = is_in-whole (int_max r.0 x, r.1) v ∙ from_greater r.0 r.1 x v
is_in-pieces (Gt x) r v f = is_in-whole (int_max r.0 (x +ℤ pos 1), r.1) v ∙ above_greater r.0 r.1 x v
is_in-pieces (Between x y) r v f = is_in-whole (int_max r.0 x, int_min r.1 y) v ∙ between_both r.0 r.1 x y v
is_in-pieces (OneOf xs) r v f =
    is_in-runs xs r (before r) v (omega (arith, ints)) ∙ ap (λ b. b || (is_within r v && is_among xs v)) (none_before r.0 v)
is_in-pieces (NoneOf xs) r v f = is_in-gaps xs r v f.rising

one_or_more : (a b c : Bool) → ((a && c) || (b && c)) ≡ ((a || b) && c)
one_or_more true true true = refl
one_or_more true true false = refl
one_or_more true false true = refl
one_or_more true false false = refl
one_or_more false b c = refl

-- and so for all ranges
pub is_in-all_pieces : (op : Op) (ranges : List Range) (v : ℤ) → OpForm op → is_in (flat_map (pieces op) ranges) v ≡ (is_in ranges v && holds op v)
is_in-all_pieces op [] v f = refl
is_in-all_pieces op (r ∷ more) v f =
    list_any-append (λ q. is_within q v) (pieces op r) (flat_map (pieces op) more)
    ∙ ap (λ b. b || is_in (flat_map (pieces op) more) v) (is_in-pieces op r v f)
    ∙ ap (λ b. (is_within r v && holds op v) || b) (is_in-all_pieces op more v f)
    ∙ one_or_more (is_within r v) (is_in more v) (holds op v)

and_assoc : (a b c : Bool) → ((a && b) && c) ≡ (a && (b && c))
and_assoc true b c = refl
and_assoc false b c = refl

-- what the predicates on an attribute leave of ranges holds those values of which all of them hold
pub is_in-narrowed : (a : AttrNo) (ps : List Pred) (ranges : List Range) (v : ℤ) → All (λ (p : Pred). OpForm p.op) ps → is_in (narrowed a ps ranges) v ≡ (is_in ranges v && hold_on a ps v)
is_in-narrowed a [] ranges v f = and_true (is_in ranges v)
is_in-narrowed a (p ∷ ps) ranges v f =
    let fits : Pred → Type 0 = λ q. OpForm q.op in
    let others = All-tail fits p ps f in
    by_test (is_on a p) (All-head fits p ps f) (is_in-narrowed a ps (flat_map (pieces p.op) ranges) v others) (is_in-narrowed a ps ranges v others)
  where
    by_test : (b : Bool) → OpForm p.op → is_in (narrowed a ps (flat_map (pieces p.op) ranges)) v ≡ (is_in (flat_map (pieces p.op) ranges) v && hold_on a ps v)
        → is_in (narrowed a ps ranges) v ≡ (is_in ranges v && hold_on a ps v)
        → is_in (narrowed a ps (if b then flat_map (pieces p.op) ranges else ranges)) v ≡ (is_in ranges v && ((not b || holds p.op v) && hold_on a ps v))
    by_test true g on off =
        on ∙ ap (λ b. b && hold_on a ps v) (is_in-all_pieces p.op ranges v g)
        ∙ and_assoc (is_in ranges v) (holds p.op v) (hold_on a ps v)
    by_test false g on off = off
