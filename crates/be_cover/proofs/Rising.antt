-- The pieces of ranges rise and don't touch.
use Rattle.std.proofs.Common.{◌≡◌, ℤ, pos, ◌+ℤ◌, ◌-ℤ◌, ◌≤ℤ◌, ◌<ℤ◌, Bool, true, false, ◌&&◌, ◌||◌, List, [], ◌∷◌, ◌++◌, refl, ap, ◌∙◌, arith}
use Rattle.std.specs.Prelude.{if◌then◌else◌}
use Rattle.std.specs.Int.Signed.{le_z}
use Rattle.std.specs.Ordering.{int_eq}
use Rattle.std.specs.Int.{int_max, int_min}
use Rattle.std.specs.List.{list_all, flat_map}
use Rattle.std.proofs.lemmas.Int.{ints}
use Rattle.std.proofs.lemmas.Bool.{and_parts, and_from}
use Rattle.std.proofs.lemmas.List.Folds.{list_all-append}
use Rattle.be_model.specs.declared.ops.Op.{Op}
use Rattle.be_model.specs.declared.ops.Op.TheVariants.{Lt, Le, Eq, Ne, Ge, Gt, Between, OneOf, NoneOf}
use Rattle.be_model.specs.Domains.{Range, is_within}
use Rattle.be_model.specs.Forms.{OpForm, rises}
use Rattle.be_model.specs.Matching.{is_among}
use Rattle.be_cover.specs.Ranges.{is_beyond, rise_apart}
use Rattle.be_cover.specs.Pieces.{is_near, whole, gaps, before, run_after, run_ended, runs, pieces}
use Rattle.be_cover.proofs.Holding.{none_below, rises-tail}

-- the second range is a part of the first
abbrev pub is_part : Range → Range → Bool
is_part r part = le_z r.0 part.0 && le_z part.1 r.1

-- ranges that rise and don't touch, all of them parts of one
pub record ArePieces (r : Range) (ps : List Range) : Type 0 where
  pub parts : list_all (is_part r) ps ≡ true
  pub apart : rise_apart ps ≡ true

pub all_also : {X : Type 0} (p q : X → Bool) → ((x : X) → p x ≡ true → q x ≡ true) → (xs : List X) → list_all p xs ≡ true → list_all q xs ≡ true
all_also p q also [] h = refl
all_also p q also (x ∷ xs) h =
    let k = and_parts (p x) (list_all p xs) h in
    and_from (q x) (list_all q xs) (also x k.0) (all_also p q also xs k.1)

wider : (r q x : Range) → r.0 ≤ℤ q.0 → q.1 ≤ℤ r.1 → is_part q x ≡ true → is_part r x ≡ true
wider r q x h k l = grind (arith, ints)

pub parts_of_wider : (r q : Range) (ps : List Range) → r.0 ≤ℤ q.0 → q.1 ≤ℤ r.1 → list_all (is_part q) ps ≡ true → list_all (is_part r) ps ≡ true
parts_of_wider r q ps h k = all_also (is_part q) (is_part r) (λ x. wider r q x h k) ps

beyond_part : (x q y : Range) → (x.1 +ℤ pos 1) <ℤ q.0 → is_part q y ≡ true → is_beyond x y ≡ true
beyond_part x q y h k = grind (arith, ints)

pub parts_beyond : (x q : Range) (ps : List Range) → (x.1 +ℤ pos 1) <ℤ q.0 → list_all (is_part q) ps ≡ true → list_all (is_beyond x) ps ≡ true
parts_beyond x q ps h = all_also (is_part q) (is_beyond x) (λ y. beyond_part x q y h) ps

-- one range before others that are beyond it
pub one_before : (x : Range) (ps : List Range) → list_all (is_beyond x) ps ≡ true → rise_apart ps ≡ true → rise_apart (whole x ++ ps) ≡ true
one_before x ps h k = by_test (le_z x.0 x.1) refl
  where
    by_test : (b : Bool) → le_z x.0 x.1 ≡ b → rise_apart ((if b then x ∷ [] else []) ++ ps) ≡ true
    by_test true e =
        and_from (le_z x.0 x.1) (list_all (is_beyond x) ps && rise_apart ps) e (and_from (list_all (is_beyond x) ps) (rise_apart ps) h k)
    by_test false e = k

pub whole_part : (r x : Range) → r.0 ≤ℤ x.0 → x.1 ≤ℤ r.1 → list_all (is_part r) (whole x) ≡ true
whole_part r x h k = by_test (le_z x.0 x.1) (let p : is_part r x ≡ true = grind (arith, ints) in p)
  where
    by_test : (b : Bool) → is_part r x ≡ true → list_all (is_part r) (if b then x ∷ [] else []) ≡ true
    by_test true p = and_from (is_part r x) true p refl
    by_test false p = refl

pub whole_apart : (x : Range) → rise_apart (whole x) ≡ true
whole_apart x = by_test (le_z x.0 x.1) refl
  where
    by_test : (b : Bool) → le_z x.0 x.1 ≡ b → rise_apart (if b then x ∷ [] else []) ≡ true
    by_test true e = and_from (le_z x.0 x.1) (true && true) e refl
    by_test false e = refl

pub whole_pieces : (r x : Range) → r.0 ≤ℤ x.0 → x.1 ≤ℤ r.1 → ArePieces r (whole x)
whole_pieces r x h k = record { parts = whole_part r x h k; apart = whole_apart x }

joined : (r x : Range) (ps : List Range) → r.0 ≤ℤ x.0 → x.1 ≤ℤ r.1 → list_all (is_beyond x) ps ≡ true → list_all (is_part r) ps ≡ true → rise_apart ps ≡ true → ArePieces r (whole x ++ ps)
joined r x ps h k beyond parts apart = record {
  parts = list_all-append (is_part r) (whole x) ps ∙ and_from (list_all (is_part r) (whole x)) (list_all (is_part r) ps) (whole_part r x h k) parts;
  apart = one_before x ps beyond apart;
}

inside : (r : Range) (x : ℤ) → is_within r x ≡ true → (r.0 ≤ℤ x) × (x ≤ℤ r.1)
inside r x h = (grind (arith, ints), grind (arith, ints))

pub gaps_pieces : (xs : List ℤ) (r : Range) → ArePieces r (gaps xs r)
gaps_pieces [] r = whole_pieces r r (omega (arith, ints)) (omega (arith, ints))
gaps_pieces (x ∷ xs) r = by_test (is_within r x) refl (gaps_pieces xs (x +ℤ pos 1, r.1)) (gaps_pieces xs r)
  where
    by_test : (b : Bool) → is_within r x ≡ b → ArePieces (x +ℤ pos 1, r.1) (gaps xs (x +ℤ pos 1, r.1)) → ArePieces r (gaps xs r)
        → ArePieces r (if b then whole (r.0, x -ℤ pos 1) ++ gaps xs (x +ℤ pos 1, r.1) else gaps xs r)
    by_test true e cut kept =
        let k = inside r x e in
        let low = k.0 in
        let high = k.1 in
        joined r (r.0, x -ℤ pos 1) (gaps xs (x +ℤ pos 1, r.1)) (omega (arith, ints)) (omega (arith, ints))
        (parts_beyond (r.0, x -ℤ pos 1) (x +ℤ pos 1, r.1) (gaps xs (x +ℤ pos 1, r.1)) (omega (arith, ints)) cut.parts)
        (parts_of_wider r (x +ℤ pos 1, r.1) (gaps xs (x +ℤ pos 1, r.1)) (omega (arith, ints)) (omega (arith, ints)) cut.parts)
        cut.apart
    by_test false e cut kept = kept

-- the numbers of the range are above the run so far
abbrev AreAbove : Range → Range → List ℤ → Type 0
AreAbove r run xs = (x : ℤ) → is_among xs x ≡ true → r.0 ≤ℤ x → run.1 <ℤ x

among_later : (x y : ℤ) (xs : List ℤ) → is_among xs y ≡ true → is_among (x ∷ xs) y ≡ true
among_later x y xs h = by_test (int_eq x y)
  where
    by_test : (b : Bool) → (b || is_among xs y) ≡ true
    by_test true = refl
    by_test false = h

among_first : (x : ℤ) (xs : List ℤ) → is_among (x ∷ xs) x ≡ true
among_first x xs = let e : int_eq x x ≡ true = grind (arith, ints) in ap (λ b. b || is_among xs x) e

above_first : (x y : ℤ) (xs : List ℤ) → rises (x ∷ xs) ≡ true → is_among xs y ≡ true → x <ℤ y
above_first x y xs up h = by_test (le_z y x) refl
  where
    by_test : (b : Bool) → le_z y x ≡ b → x <ℤ y
    by_test true e =
        let none = none_below x y xs up (omega (arith, ints)) in
        absurd (cc)
    by_test false e = omega (arith, ints)

beyond_run : (b x : ℤ) → b <ℤ x → int_eq (x -ℤ pos 1) b ≡ false → (b +ℤ pos 1) <ℤ x
beyond_run b x h k = grind (arith, ints)

pub runs_pieces : (xs : List ℤ) (r run : Range) → rises xs ≡ true → run.0 ≤ℤ (run.1 +ℤ pos 1) → run.1 ≤ℤ r.1 → AreAbove r run xs → ArePieces (run.0, r.1) (runs xs r run)
runs_pieces [] r run up h k above = whole_pieces (run.0, r.1) run (omega (arith, ints)) k
runs_pieces (x ∷ xs) r run up h k above =
    let later : AreAbove r (x, x) xs = λ y a low. above_first x y xs up a in
    by_test (is_within r x) refl
    (λ low high. runs_pieces xs r (run.0, x) (rises-tail x xs up) low high later)
    (λ high. runs_pieces xs r (x, x) (rises-tail x xs up) (omega (arith, ints)) high later)
    (runs_pieces xs r run (rises-tail x xs up) h k (λ y a low. above y (among_later x y xs a) low))
  where
    by_next : (c : Bool) → is_within r x ≡ true → int_eq (x -ℤ pos 1) run.1 ≡ c → (run.0 ≤ℤ (x +ℤ pos 1) → x ≤ℤ r.1 → ArePieces (run.0, r.1) (runs xs r (run.0, x))) → (x ≤ℤ r.1 → ArePieces (x, r.1) (runs xs r (x, x)))
        → ArePieces (run.0, r.1) ((if c then [] else whole run) ++ runs xs r (if c then (run.0, x) else (x, x)))
    by_next true e n on new =
        let i = inside r x e in
        let low = i.0 in
        let over = above x (among_first x xs) low in
        on (omega (arith, ints)) i.1
    by_next false e n on new =
        let i = inside r x e in
        let low = i.0 in
        let high = i.1 in
        let over = above x (among_first x xs) low in
        let gap = beyond_run run.1 x over n in
        let rest = new high in
        joined (run.0, r.1) run (runs xs r (x, x)) (omega (arith, ints)) k
        (parts_beyond run (x, r.1) (runs xs r (x, x)) gap rest.parts)
        (parts_of_wider (run.0, r.1) (x, r.1) (runs xs r (x, x)) (omega (arith, ints)) (omega (arith, ints)) rest.parts)
        rest.apart

    by_test : (b : Bool) → is_within r x ≡ b → (run.0 ≤ℤ (x +ℤ pos 1) → x ≤ℤ r.1 → ArePieces (run.0, r.1) (runs xs r (run.0, x))) → (x ≤ℤ r.1 → ArePieces (x, r.1) (runs xs r (x, x))) → ArePieces (run.0, r.1) (runs xs r run)
        → ArePieces (run.0, r.1) (if b then run_ended run x ++ runs xs r (run_after run x) else runs xs r run)
    by_test true e on new same = by_next (int_eq (x -ℤ pos 1) run.1) e refl on new
    by_test false e on new same = same

low_part : (a b : ℤ) → (a ≤ℤ int_max a b) × (int_min a b ≤ℤ a)
low_part a b = (grind (arith, ints), grind (arith, ints))

-- what a comparison leaves of a range that isn't empty
pub pieces_pieces : (op : Op) (r : Range) → OpForm op → r.0 ≤ℤ r.1 → ArePieces r (pieces op r)
pieces_pieces (Lt x) r f h = whole_pieces r (r.0, int_min r.1 (x -ℤ pos 1)) (omega (arith, ints)) (low_part r.1 (x -ℤ pos 1)).1
pieces_pieces (Le x) r f h = whole_pieces r (r.0, int_min r.1 x) (omega (arith, ints)) (low_part r.1 x).1
pieces_pieces (Eq x) r f h = whole_pieces r (int_max r.0 x, int_min r.1 x) (low_part r.0 x).0 (low_part r.1 x).1
pieces_pieces (Ne x) r f h = gaps_pieces (x ∷ []) r
pieces_pieces (Ge x) r f h = whole_pieces r (int_max r.0 x, r.1) (low_part r.0 x).0 (omega (arith, ints))
pieces_pieces (Gt x) r f h = whole_pieces r (int_max r.0 (x +ℤ pos 1), r.1) (low_part r.0 (x +ℤ pos 1)).0 (omega (arith, ints))
pieces_pieces (Between x y) r f h = whole_pieces r (int_max r.0 x, int_min r.1 y) (low_part r.0 x).0 (low_part r.1 y).1
pieces_pieces (OneOf xs) r f h =
    runs_pieces xs r (before r) f.rising (omega (arith, ints)) (omega (arith, ints)) (λ x a low. omega (arith, ints))
pieces_pieces (NoneOf xs) r f h = gaps_pieces xs r

beyond_through : (x r p : Range) → is_beyond x r ≡ true → is_part r p ≡ true → is_beyond x p ≡ true
beyond_through x r p h k = grind (arith, ints)

-- the pieces of ranges beyond a range are beyond it
all_beyond : (op : Op) (x : Range) (ranges : List Range) → OpForm op → rise_apart ranges ≡ true → list_all (is_beyond x) ranges ≡ true → list_all (is_beyond x) (flat_map (pieces op) ranges) ≡ true
all_beyond op x [] f up h = refl
all_beyond op x (r ∷ more) f up h =
    let u = and_parts (le_z r.0 r.1) (list_all (is_beyond r) more && rise_apart more) up in
    let v = and_parts (list_all (is_beyond r) more) (rise_apart more) u.1 in
    let k = and_parts (is_beyond x r) (list_all (is_beyond x) more) h in
    let full = u.0 in
    let here = pieces_pieces op r f (omega (arith, ints)) in
    list_all-append (is_beyond x) (pieces op r) (flat_map (pieces op) more)
    ∙ and_from (list_all (is_beyond x) (pieces op r)) (list_all (is_beyond x) (flat_map (pieces op) more))
    (all_also (is_part r) (is_beyond x) (λ p. beyond_through x r p k.0) (pieces op r) here.parts)
    (all_beyond op x more f v.1 k.1)

pub append_apart : (xs ys : List Range) → rise_apart xs ≡ true → rise_apart ys ≡ true → list_all (λ x. list_all (is_beyond x) ys) xs ≡ true → rise_apart (xs ++ ys) ≡ true
append_apart [] ys h k l = k
append_apart (x ∷ xs) ys h k l =
    let u = and_parts (le_z x.0 x.1) (list_all (is_beyond x) xs && rise_apart xs) h in
    let v = and_parts (list_all (is_beyond x) xs) (rise_apart xs) u.1 in
    let w = and_parts (list_all (is_beyond x) ys) (list_all (λ z. list_all (is_beyond z) ys) xs) l in
    and_from (le_z x.0 x.1) (list_all (is_beyond x) (xs ++ ys) && rise_apart (xs ++ ys)) u.0
    (and_from (list_all (is_beyond x) (xs ++ ys)) (rise_apart (xs ++ ys))
    (list_all-append (is_beyond x) xs ys ∙ and_from (list_all (is_beyond x) xs) (list_all (is_beyond x) ys) v.0 w.0)
    (append_apart xs ys v.1 k w.1))

part_beyond : (r p y : Range) → is_part r p ≡ true → is_beyond r y ≡ true → is_beyond p y ≡ true
part_beyond r p y h k = grind (arith, ints)

-- the pieces of ranges that rise and don't touch
pub all_pieces_apart : (op : Op) (ranges : List Range) → OpForm op → rise_apart ranges ≡ true → rise_apart (flat_map (pieces op) ranges) ≡ true
all_pieces_apart op [] f up = refl
all_pieces_apart op (r ∷ more) f up =
    let u = and_parts (le_z r.0 r.1) (list_all (is_beyond r) more && rise_apart more) up in
    let v = and_parts (list_all (is_beyond r) more) (rise_apart more) u.1 in
    let full = u.0 in
    let here = pieces_pieces op r f (omega (arith, ints)) in
    let rest = flat_map (pieces op) more in
    let far = all_beyond op r more f v.1 v.0 in
    append_apart (pieces op r) rest here.apart (all_pieces_apart op more f v.1)
    (all_also (is_part r) (λ p. list_all (is_beyond p) rest) (λ p k. all_also (is_beyond r) (is_beyond p) (λ y. part_beyond r p y k) rest far) (pieces op r) here.parts)

near_part : (r p : Range) → is_near r ≡ true → is_part r p ≡ true → is_near p ≡ true
near_part r p h k = grind (arith, ints)

-- the pieces of ranges that aren't empty keep the bounds of a domain
pub all_pieces_near : (op : Op) (ranges : List Range) → OpForm op → rise_apart ranges ≡ true → list_all is_near ranges ≡ true → list_all is_near (flat_map (pieces op) ranges) ≡ true
all_pieces_near op [] f up h = refl
all_pieces_near op (r ∷ more) f up h =
    let u = and_parts (le_z r.0 r.1) (list_all (is_beyond r) more && rise_apart more) up in
    let v = and_parts (list_all (is_beyond r) more) (rise_apart more) u.1 in
    let k = and_parts (is_near r) (list_all is_near more) h in
    let full = u.0 in
    let here = pieces_pieces op r f (omega (arith, ints)) in
    list_all-append is_near (pieces op r) (flat_map (pieces op) more)
    ∙ and_from (list_all is_near (pieces op r)) (list_all is_near (flat_map (pieces op) more))
    (all_also (is_part r) is_near (λ p. near_part r p k.0) (pieces op r) here.parts)
    (all_pieces_near op more f v.1 k.1)
