-- Rows at places of a leaf.
use Rattle.std.proofs.Common.{◌≡◌, ◌<◌, ◌≤◌, ◌+◌, ◌-◌, ℕ, zero, suc, Bool, true, false, not, cond, leb, ◌&&◌, ◌||◌, List, [], ◌∷◌, ◌++◌, length, take, slice_get, Some, refl, sym, ap, ◌∙◌, arith}
use Rattle.std.specs.List.{list_all, filter, remove}
use Rattle.std.proofs.lemmas.Bool.{and_parts, and_from, not-true, or_left, or_right, le-leb, lt-leb}
use Rattle.std.proofs.lemmas.List.{append-nil}
use Rattle.be_base.specs.declared.limits.TheConstants.{LEAF_ROWS}
use Rattle.be_model.specs.declared.changes.Row.{Row}
use Rattle.be_model.specs.Schemas.{Attributes}
use Rattle.be_shape.specs.Shape.{Known, is_stuck}
use Rattle.be_insert.specs.Filled.{is_filled, settles}
use Rattle.be_shape.proofs.Lists.{filter_whole, filter_empty}

-- a test of the first rows, and of the next
pub all_next : (p : Row → Bool) (xs : List Row) (i : ℕ) (x : Row) → list_all p (take i xs) ≡ true → slice_get xs i ≡ Some x → p x ≡ true → list_all p (take (i + 1) xs) ≡ true
all_next p [] i x h e t = absurd (cc)
all_next p (y ∷ xs) zero x h e t = let k : y ≡ x = cc in and_from (p y) true (ap p k ∙ t) refl
all_next p (y ∷ xs) (suc i) x h e t =
    let k = and_parts (p y) (list_all p (take i xs)) h in
    let j : suc i + 1 ≡ suc (i + 1) = omega arith in
    ap (λ m. list_all p (take m (y ∷ xs))) j ∙ and_from (p y) (list_all p (take (i + 1) xs)) k.0 (all_next p xs i x k.1 e t)

pub all_fails : (p : Row → Bool) (xs : List Row) (i : ℕ) (x : Row) → slice_get xs i ≡ Some x → p x ≡ false → list_all p xs ≡ false
all_fails p [] i x e t = absurd (cc)
all_fails p (y ∷ xs) zero x e t = let k : y ≡ x = cc in ap (λ b. b && list_all p xs) (ap p k ∙ t)
all_fails p (y ∷ xs) (suc i) x e t =
    by_test (p y) (all_fails p xs i x e t)
  where
    by_test : (b : Bool) → list_all p xs ≡ false → (b && list_all p xs) ≡ false
    by_test true h = h
    by_test false h = refl

pub all_taken : (p : Row → Bool) (xs : List Row) (i : ℕ) → length xs ≤ i → list_all p (take i xs) ≡ true → list_all p xs ≡ true
all_taken p [] i l h = refl
all_taken p (x ∷ xs) zero l h = absurd (omega arith)
all_taken p (x ∷ xs) (suc i) l h =
    let k = and_parts (p x) (list_all p (take i xs)) h in and_from (p x) (list_all p xs) k.0 (all_taken p xs i (omega arith) k.1)

-- the rows before the first that may be loose are stuck
pub front_stuck : (s : Attributes) (k : Known) (leaf : List Row) (first : ℕ) → first ≡ cond (leb (length leaf) (LEAF_ROWS + 1)) 0 (length leaf - 1) → is_filled s k leaf ≡ true → list_all (is_stuck s k) (take first leaf) ≡ true
front_stuck s k leaf first e f = by_test (leb (length leaf) (LEAF_ROWS + 1)) refl e f
  where
    by_test : (b : Bool) → leb (length leaf) (LEAF_ROWS + 1) ≡ b → first ≡ cond b 0 (length leaf - 1) → (b || list_all (is_stuck s k) (take (length leaf - 1) leaf)) ≡ true → list_all (is_stuck s k) (take first leaf) ≡ true
    by_test true h is t = ap (λ i. list_all (is_stuck s k) (take i leaf)) is
    by_test false h is t = ap (λ i. list_all (is_stuck s k) (take i leaf)) is ∙ t

-- a leaf of at most 16 rows is settled, and so is one whose rows are all stuck
pub settled_few : (s : Attributes) (k : Known) (leaf : List Row) → length leaf ≤ LEAF_ROWS → false ≡ not (settles s k leaf)
settled_few s k leaf l = sym (ap not (or_left (leb (length leaf) LEAF_ROWS) (list_all (is_stuck s k) leaf) (le-leb (length leaf) LEAF_ROWS l)))

pub settled_stuck : (s : Attributes) (k : Known) (leaf : List Row) → list_all (is_stuck s k) leaf ≡ true → false ≡ not (settles s k leaf)
settled_stuck s k leaf h = sym (ap not (or_right (leb (length leaf) LEAF_ROWS) (list_all (is_stuck s k) leaf) h))

pub overfull : (s : Attributes) (k : Known) (leaf : List Row) → LEAF_ROWS < length leaf → list_all (is_stuck s k) leaf ≡ false → true ≡ not (settles s k leaf)
overfull s k leaf l h =
    sym (ap not (ap (λ b. b || list_all (is_stuck s k) leaf) (lt-leb (length leaf) LEAF_ROWS l) ∙ h))

-- a row that passes is taken out
pub record Taken (p : Row → Bool) (xs : List Row) (i : ℕ) (x : Row) : Type 0 where
  pub passed : filter p xs ≡ x ∷ filter p (remove xs i)
  pub left : filter (λ y. not (p y)) (remove xs i) ≡ filter (λ y. not (p y)) xs
  pub before : take i (remove xs i) ≡ take i xs
  pub size : length (remove xs i) + 1 ≡ length xs

pub taken : (p : Row → Bool) (xs : List Row) (i : ℕ) (x : Row) → slice_get xs i ≡ Some x → p x ≡ true → list_all (λ y. not (p y)) (take i xs) ≡ true → Taken p xs i x
taken p [] i x e t h = absurd (cc)
taken p (y ∷ xs) zero x e t h =
    let k : y ≡ x = cc in
    let q : p y ≡ true = ap p k ∙ t in
    record {
      passed = ap (λ b. cond b (y ∷ filter p xs) (filter p xs)) q ∙ ap (λ z. z ∷ filter p xs) k;
      left = sym (ap (λ b. cond (not b) (y ∷ filter (λ z. not (p z)) xs) (filter (λ z. not (p z)) xs)) q);
      before = refl;
      size = omega arith;
    }
taken p (y ∷ xs) (suc i) x e t h =
    let k = and_parts (not (p y)) (list_all (λ z. not (p z)) (take i xs)) h in
    let q = not-true (p y) k.0 in
    let r = taken p xs i x e t k.1 in
    record {
      passed = ap (λ b. cond b (y ∷ filter p xs) (filter p xs)) q ∙ r.passed ∙ ap (λ l. x ∷ l) (sym (ap (λ b. cond b (y ∷ filter p (remove xs i)) (filter p (remove xs i))) q));
      left = ap (λ l. cond (not (p y)) (y ∷ l) l) r.left;
      before = ap (λ l. y ∷ l) r.before;
      size = omega (arith, r.size);
    }

pub all_without : (q : Row → Bool) (xs : List Row) (i : ℕ) → list_all q xs ≡ true → list_all q (remove xs i) ≡ true
all_without q [] zero h = refl
all_without q [] (suc i) h = refl
all_without q (x ∷ xs) zero h = (and_parts (q x) (list_all q xs) h).1
all_without q (x ∷ xs) (suc i) h = let k = and_parts (q x) (list_all q xs) h in and_from (q x) (list_all q (remove xs i)) k.0 (all_without q xs i k.1)

-- what is left where all places were looked at
pub record Moved (p : Row → Bool) (was rest to : List Row) : Type 0 where
  pub left : rest ≡ filter (λ y. not (p y)) was
  pub moved : to ≡ filter p was

pub all_moved : (p : Row → Bool) (was rest to : List Row) (i : ℕ) → length rest ≤ i → list_all (λ y. not (p y)) (take i rest) ≡ true → to ++ filter p rest ≡ filter p was
    → filter (λ y. not (p y)) rest ≡ filter (λ y. not (p y)) was → Moved p was rest to
all_moved p was rest to i l h m n =
    let none = all_taken (λ y. not (p y)) rest i l h in
    record {
      left = sym (filter_whole (λ y. not (p y)) rest none) ∙ n;
      moved = sym (append-nil to) ∙ ap (λ q. to ++ q) (sym (filter_empty p rest none)) ∙ m;
    }

pub some_same : {x y : Row} → Some x ≡ Some y → x ≡ y
some_same h = cc
