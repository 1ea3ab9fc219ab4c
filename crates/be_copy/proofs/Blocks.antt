-- Places by blocks of neighbours.
use Rattle.std.proofs.Common.{◌≡◌, ℕ, ◌+◌, ◌*◌, ◌/◌, ◌%◌, ◌^◌, ◌<◌, ◌≤◌, ◌==◌, ◌&&◌, ◌||◌, Bool, true, false, cond, List, [], ◌∷◌, Option, Some, None, nat_lt, refl, sym, ap, ◌∙◌, subst, arith}
use Rattle.std.specs.Prelude.{IfSome, IsSome}
use Rattle.std.specs.List.{slice_get}
use Rattle.std.specs.Map.{lookup}
use Rattle.std.specs.BTreeMap.{is_at}
use Rattle.std.specs.BTreeMap.Range.{IsLeBy, IsLtBy}
use Rattle.std.specs.Ordering.{nat_cmp, ordering_then, is_gt, is_lt}
use Rattle.std.specs.declared.cmp.Ordering.TheVariants.{Less}
use Rattle.std.proofs.lemmas.Bool.{ltb-true, ltb-false}
use Rattle.std.proofs.lemmas.Bool.Decides.{nat_tests}
use Rattle.be_copy.specs.Places.{is_pair, IsLeast}
use Rattle.be_copy.specs.Bitmaps.{is_in, is_noted}
use Rattle.be_copy.proofs.Pairs.{pair_cmp, at_pair, of_first}
use Rattle.be_copy.proofs.MarkedBits.{IsNextMark, IsLowest}

abbrev pub at : List ((ℕ × ℕ) × ℕ) → ℕ × ℕ → Option ℕ
at es q = lookup (is_at (pair_cmp q)) es

looked_up : (es : List ((ℕ × ℕ) × ℕ)) (k n : ℕ) → at es (k, n) ≡ lookup (λ (b : ℕ × ℕ). (b.0 == k) && (b.1 == n)) es
looked_up [] k n = refl
looked_up (e ∷ es) k n =
    ap (λ (b : Bool). cond b (Some e.1) (at es (k, n))) (at_pair k n e.0)
    ∙ ap (λ (o : Option ℕ). cond ((e.0.0 == k) && (e.0.1 == n)) (Some e.1) o) (looked_up es k n)

pub noted_in : (es : List ((ℕ × ℕ) × ℕ)) (k i : ℕ) → is_noted es k i ≡ is_in (at es (k, i / 32)) (i % 32)
noted_in es k i = ap (λ (o : Option ℕ). is_in o (i % 32)) (sym (looked_up es k (i / 32)))

first_same : (a b x y : ℕ) → ((x == a) && (y == b)) ≡ true → a ≡ x
first_same a b x y e = grind (arith, nat_tests)

second_same : (a b x y : ℕ) → ((x == a) && (y == b)) ≡ true → b ≡ y
second_same a b x y e = grind (arith, nat_tests)

same_place : (key place k i : ℕ) → key ≡ k → place / 32 ≡ i / 32 → (place % 32 == i % 32) ≡ is_pair key place k i
same_place key place k i e f = grind (arith, nat_tests)

other_place : (key place k i : ℕ) → ((k == key) && (i / 32 == place / 32)) ≡ false → is_pair key place k i ≡ false
other_place key place k i e = grind (arith, nat_tests)

few : (i : ℕ) → i % 32 < 32
few i = omega arith

pub or_cond : (b x : Bool) → (b || x) ≡ cond b true x
or_cond true x = refl
or_cond false x = refl

pub cond_true : (b : Bool) → b ≡ cond b true false
cond_true true = refl
cond_true false = refl

-- a block that is taken out
pub taken_out : (b : Bool) (v : ℕ) (o : Option ℕ) → cond b None (cond b (Some v) o) ≡ cond b None o
taken_out true v o = refl
taken_out false v o = refl

-- one block has other marks
pub noted_after : (es es' : List ((ℕ × ℕ) × ℕ)) (key place : ℕ) (w : Bool) (now : Option ℕ)
    → ((q : ℕ × ℕ) → at es' q ≡ cond (is_at (pair_cmp (key, place / 32)) q) now (at es q))
    → ((j : ℕ) → j < 32 → is_in now j ≡ cond (place % 32 == j) w (is_in (at es (key, place / 32)) j))
    → (k i : ℕ) → is_noted es' k i ≡ cond (is_pair key place k i) w (is_noted es k i)
noted_after es es' key place w now update marks k i =
    noted_in es' k i ∙ (ap (λ (o : Option ℕ). is_in o (i % 32)) (update (k, i / 32)) ∙ (step (is_at (pair_cmp (key, place / 32)) (k, i / 32)) refl
    ∙ ap (λ (b : Bool). cond (is_pair key place k i) w b) (sym (noted_in es k i))))
  where
    step : (b : Bool) → is_at (pair_cmp (key, place / 32)) (k, i / 32) ≡ b → is_in (cond b now (at es (k, i / 32))) (i % 32) ≡ cond (is_pair key place k i) w (is_in (at es (k, i / 32)) (i % 32))
    step true e =
        let both = sym (at_pair key (place / 32) (k, i / 32)) ∙ e in
        let own : key ≡ k = first_same key (place / 32) k (i / 32) both in
        let block : place / 32 ≡ i / 32 = second_same key (place / 32) k (i / 32) both in
        marks (i % 32) (few i) ∙ (ap (λ (b : Bool). cond b w (is_in (at es (key, place / 32)) (i % 32))) (same_place key place k i own block)
        ∙ (ap (λ (x : ℕ). cond (is_pair key place k i) w (is_in (at es (x, place / 32)) (i % 32))) own ∙ ap (λ (x : ℕ). cond (is_pair key place k i) w (is_in (at es (k, x)) (i % 32))) block))
    step false e = sym (ap (λ (b : Bool). cond b w (is_in (at es (k, i / 32)) (i % 32))) (other_place key place k i (sym (at_pair key (place / 32) (k, i / 32)) ∙ e)))

-- the next place stands in the block where it is looked for
pub next_here : (es : List ((ℕ × ℕ) × ℕ)) (key from marks j : ℕ) → at es (key, from / 32) ≡ Some marks → IsNextMark marks (from % 32) j → IsLeast (is_noted es key) from (Some (from / 32 * 32 + j))
next_here es key from marks j is next = (omega (arith, next.low), there, λ i low high. none i low high)
  where
    block : (from / 32 * 32 + j) / 32 ≡ from / 32
    block = omega (arith, next.block)

    place : (from / 32 * 32 + j) % 32 ≡ j
    place = omega (arith, next.block)

    there : is_noted es key (from / 32 * 32 + j) ≡ true
    there = noted_in es key (from / 32 * 32 + j) ∙ (ap (λ (n : ℕ). is_in (at es (key, n)) ((from / 32 * 32 + j) % 32)) block ∙ (ap (λ (n : ℕ). is_in (at es (key, from / 32)) n) place
        ∙ (ap (λ (o : Option ℕ). is_in o j) is ∙ next.marked)))

    none : (i : ℕ) → from ≤ i → i < from / 32 * 32 + j → is_noted es key i ≡ false
    none i low high =
        let same : i / 32 ≡ from / 32 = omega (arith, next.block) in
        noted_in es key i ∙ (ap (λ (n : ℕ). is_in (at es (key, n)) (i % 32)) same ∙ (ap (λ (o : Option ℕ). is_in o (i % 32)) is ∙ next.first (i % 32) (omega (arith, same)) (omega (arith, same))))

-- or no place there
pub none_here : (es : List ((ℕ × ℕ) × ℕ)) (key from : ℕ) (o : Option ℕ) → at es (key, from / 32) ≡ o → ((j : ℕ) → from % 32 ≤ j → j < 32 → is_in o j ≡ false)
    → (i : ℕ) → from ≤ i → i < (from / 32 + 1) * 32 → is_noted es key i ≡ false
none_here es key from o is none i low high =
    let same : i / 32 ≡ from / 32 = omega arith in
    noted_in es key i ∙ (ap (λ (n : ℕ). is_in (at es (key, n)) (i % 32)) same ∙ (ap (λ (p : Option ℕ). is_in p (i % 32)) is ∙ none (i % 32) (omega (arith, same)) (few i)))

-- but in a later one
pub next_later : (test : ℕ → Bool) (from later : ℕ) (r : Option ℕ) → from ≤ later → ((i : ℕ) → from ≤ i → i < later → test i ≡ false) → IsLeast test later r → IsLeast test from r
next_later test from later r up here least = both r least
  where
    each : (i : ℕ) → from ≤ i → (later ≤ i → test i ≡ false) → (b : Bool) → nat_lt i later ≡ b → test i ≡ false
    each i low high true e = here i low (ltb-true i later e)
    each i low high false e = high (ltb-false i later e)

    both : (r : Option ℕ) → IsLeast test later r → IsLeast test from r
    both None least = λ i low high. each i low (λ up. least i up high) (nat_lt i later) refl
    both (Some place) least = (omega (arith, least.0), least.1, λ i low high. each i low (λ up. least.2 i up high) (nat_lt i later) refl)

-- what lies behind a block of a key
abbrev IsBehind : (key block top : ℕ) → ℕ × ℕ → Type 0
IsBehind key block top q = IsLtBy pair_cmp (key, block) q × IsLeBy pair_cmp q (key, top)

pub behind : (key block top : ℕ) (q : ℕ × ℕ) → IsBehind key block top q → (q.0 ≡ key) × (block < q.1) × (q.1 ≤ top)
behind key block top q is = (own key block q.0 q.1 top is.0 is.1, low key block q.0 q.1 top is.0 is.1, high key block q.0 q.1 top is.0 is.1)
  where
    own : (k b x y t : ℕ) → ordering_then (nat_cmp k x) (nat_cmp b y) ≡ Less → is_gt (ordering_then (nat_cmp x k) (nat_cmp y t)) ≡ false → x ≡ k
    own k b x y t e f = grind (arith, nat_tests)

    low : (k b x y t : ℕ) → ordering_then (nat_cmp k x) (nat_cmp b y) ≡ Less → is_gt (ordering_then (nat_cmp x k) (nat_cmp y t)) ≡ false → b < y
    low k b x y t e f = grind (arith, nat_tests)

    high : (k b x y t : ℕ) → ordering_then (nat_cmp k x) (nat_cmp b y) ≡ Less → is_gt (ordering_then (nat_cmp x k) (nat_cmp y t)) ≡ false → y ≤ t
    high k b x y t e f = grind (arith, nat_tests)

lies_behind : (key block top n : ℕ) → block < n → n ≤ top → IsBehind key block top (key, n)
lies_behind key block top n low high = (first key block n low, second key n top high)
  where
    first : (k b n : ℕ) → b < n → ordering_then (nat_cmp k k) (nat_cmp b n) ≡ Less
    first k b n h = grind (arith, nat_tests)

    second : (k n t : ℕ) → n ≤ t → is_gt (ordering_then (nat_cmp k k) (nat_cmp n t)) ≡ false
    second k n t h = grind (arith, nat_tests)

le_block : (key n m : ℕ) → IsLeBy pair_cmp (key, n) (key, m) → n ≤ m
le_block key n m h = grind (arith, nat_tests)

-- the first block behind has the next place
pub after_some : (es : List ((ℕ × ℕ) × ℕ)) (key block top j : ℕ) (r t : List ((ℕ × ℕ) × ℕ)) (x : (ℕ × ℕ) × ℕ) → r ≡ x ∷ t
    → IfSome (slice_get r 0) (λ (e : (ℕ × ℕ) × ℕ). IsBehind key block top e.0 × (at es e.0 ≡ Some e.1))
    → ((q : ℕ × ℕ) → IsBehind key block top q → IsSome (at es q) → IfSome (slice_get r 0) (λ (e : (ℕ × ℕ) × ℕ). IsLeBy pair_cmp e.0 q))
    → IsLowest x.1 j → IsLeast (is_noted es key) ((block + 1) * 32) (Some (x.0.1 * 32 + j))
after_some es key block top j r t x is here least lowest = (omega (arith, in_it.1), there, λ i low high. none i low high)
  where
    first : IsBehind key block top x.0 × (at es x.0 ≡ Some x.1)
    first = of_first (λ (e : (ℕ × ℕ) × ℕ). IsBehind key block top e.0 × (at es e.0 ≡ Some e.1)) r t x is here

    in_it : (x.0.0 ≡ key) × (block < x.0.1) × (x.0.1 ≤ top)
    in_it = behind key block top x.0 first.0

    here_is : at es (key, x.0.1) ≡ Some x.1
    here_is = ap (λ (k : ℕ). at es (k, x.0.1)) (sym in_it.0) ∙ first.1

    block_is : (x.0.1 * 32 + j) / 32 ≡ x.0.1
    block_is = omega (arith, lowest.block)

    place_is : (x.0.1 * 32 + j) % 32 ≡ j
    place_is = omega (arith, lowest.block)

    there : is_noted es key (x.0.1 * 32 + j) ≡ true
    there = noted_in es key (x.0.1 * 32 + j) ∙ (ap (λ (n : ℕ). is_in (at es (key, n)) ((x.0.1 * 32 + j) % 32)) block_is ∙ (ap (λ (n : ℕ). is_in (at es (key, x.0.1)) n) place_is
        ∙ (ap (λ (o : Option ℕ). is_in o j) here_is ∙ lowest.marked)))

    by_look : (i : ℕ) → (block + 1) * 32 ≤ i → i < x.0.1 * 32 + j → (o : Option ℕ) → at es (key, i / 32) ≡ o → is_in o (i % 32) ≡ false
    by_look i low high None e = refl
    by_look i low high (Some marks) e =
        let near : i / 32 ≤ top = omega (arith, in_it.2, lowest.block) in
        let later : block < i / 32 = omega arith in
        let some : IsSome (at es (key, i / 32)) = subst (λ (o : Option ℕ). IsSome o) (sym e) refl in
        let le = of_first (λ (f : (ℕ × ℕ) × ℕ). IsLeBy pair_cmp f.0 (key, i / 32)) r t x is (least (key, i / 32) (lies_behind key block top (i / 32) later near) some) in
        let order : x.0.1 ≤ i / 32 = le_block key x.0.1 (i / 32) (subst (λ (k : ℕ). IsLeBy pair_cmp (k, x.0.1) (key, i / 32)) in_it.0 le) in
        let same : i / 32 ≡ x.0.1 = omega (arith, order, lowest.block) in
        let both : Some marks ≡ Some x.1 = sym e ∙ (ap (λ (n : ℕ). at es (key, n)) same ∙ here_is) in
        ap (λ (o : Option ℕ). is_in o (i % 32)) both ∙ lowest.first (i % 32) (omega (arith, same))

    none : (i : ℕ) → (block + 1) * 32 ≤ i → i < x.0.1 * 32 + j → is_noted es key i ≡ false
    none i low high = noted_in es key i ∙ by_look i low high (at es (key, i / 32)) refl

-- no block behind has any
pub after_none : (es : List ((ℕ × ℕ) × ℕ)) (key block top : ℕ) → 2 ^ 64 ≤ (top + 1) * 32 → ((q : ℕ × ℕ) → IsBehind key block top q → at es q ≡ None)
    → IsLeast (is_noted es key) ((block + 1) * 32) None
after_none es key block top all none i low high =
    noted_in es key i ∙ ap (λ (o : Option ℕ). is_in o (i % 32)) (none (key, i / 32) (lies_behind key block top (i / 32) (omega arith) (omega (arith, all))))

-- a place that stands there has a block
has_block : (o : Option ℕ) (j : ℕ) → is_in o j ≡ true → IsSome o
has_block None j e = absurd cc
has_block (Some marks) j e = refl

between : (key f t x y : ℕ) → is_gt (ordering_then (nat_cmp key x) (nat_cmp f y)) ≡ false → is_lt (ordering_then (nat_cmp key x) (nat_cmp t y)) ≡ false → x ≡ key
between key f t x y low high = grind (arith, nat_tests)

-- where the first block and the last one have the same key, all places stand under it
pub only_key : (es : List ((ℕ × ℕ) × ℕ)) (key f t : ℕ)
    → ((q : ℕ × ℕ) → IsSome (at es q) → is_gt (pair_cmp (key, f) q) ≡ false) → ((q : ℕ × ℕ) → IsSome (at es q) → is_lt (pair_cmp (key, t) q) ≡ false)
    → (k i : ℕ) → is_noted es k i ≡ true → k ≡ key
only_key es key f t low high k i e =
    let there = has_block (at es (k, i / 32)) (i % 32) (sym (noted_in es k i) ∙ e) in
    between key f t k (i / 32) (low (k, i / 32) there) (high (k, i / 32) there)
