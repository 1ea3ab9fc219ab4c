-- Rows that are put block by block.
use Rattle.std.proofs.Common.{◌≡◌, ℕ, ◌+◌, ◌<◌, ◌≤◌, Bool, true, List, [], ◌∷◌, ◌++◌, length, map, take, drop, get_or, slice_get, Option, Some, None, option_map, min, refl, sym, ap, subst, ◌∙◌, arith}
use Rattle.std.proofs.lemmas.List.{length-map, length-take-le, get_or-take, take-append-drop, take_min, drop_more, drop-drop, drop_all, append-nil}
use Rattle.std.proofs.lemmas.List.Elements.{All-get_or}
use Rattle.std.proofs.lemmas.Option.{slice_get-map, slice_get-get_or, slice_get_within, get_or_from_slice_get}
use Rattle.be_model.specs.declared.changes.Row.{Row}
use Rattle.be_model.specs.Matching.{Assignments, satisfies}
use Rattle.be_base.proofs.Beginnings.{BeginsWith-same}
use Rattle.be_shape.specs.declared.leaves.Choice.{Choice}
use Rattle.be_shape.specs.Chosen.{AreAt, IsRight, Covers}
use Rattle.be_index.specs.Puts.{Held, Adds, hits_of}
use Rattle.be_index.proofs.Adding.{IsUnderway, hits_append}

-- as many rows as places
many_at : (rows : List Row) (from count : ℕ) (chosen : List Choice) (found : List Row) → count ≤ length chosen → AreAt rows from (take count chosen) found → length found ≡ count
many_at rows from count chosen found l at =
    sym (length-map found Some) ∙ sym (ap length at) ∙ length-map (take count chosen) (λ (c : Choice). slice_get rows (from + c.at)) ∙ length-take-le count chosen l

pub some_same : {X : Type 0} (x y : X) → Some x ≡ Some y → x ≡ y
some_same x y h = cc

-- at each of the places stands the row that is found there
pub one_at : (rows : List Row) (from count i : ℕ) (d : Choice) (chosen : List Choice) (found : List Row) → count ≤ length chosen → i < count → AreAt rows from (take count chosen) found
    → Some (slice_get rows (from + (get_or chosen i d).at)) ≡ option_map Some (slice_get found i)
one_at rows from count i d chosen found l few at =
    let of : Choice → Option Row = λ (c : Choice). slice_get rows (from + c.at) in
    let within : i < length (take count chosen) = omega (arith, few, length-take-le count chosen l) in
    let place : slice_get (take count chosen) i ≡ Some (get_or chosen i d) = slice_get-get_or (take count chosen) i d within ∙ ap Some (get_or-take count chosen i d few) in
    sym (slice_get-map of (take count chosen) i ∙ ap (option_map of) place) ∙ ap (λ os. slice_get os i) at ∙ slice_get-map Some found i

pub missing : (xs : List Row) (j : ℕ) → j < length xs → slice_get xs j ≡ None → ⊥
missing [] j h k = absurd (omega (arith, h))
missing (x ∷ xs) j h k = absurd (let m = slice_get-get_or (x ∷ xs) j x h in cc)

pub in_range : (rows : List Row) (from count i : ℕ) (d : Choice) (chosen : List Choice) (found : List Row) → count ≤ length chosen → i < count → AreAt rows from (take count chosen) found → from + (get_or chosen i d).at < length rows
in_range rows from count i d chosen found l few at = by_row (slice_get found i) refl
  where
    there : i < length found
    there = omega (arith, few, many_at rows from count chosen found l at)

    by_row : (o : Option Row) → slice_get found i ≡ o → from + (get_or chosen i d).at < length rows
    by_row None e = absurd (missing found i there e)
    by_row (Some x) e = slice_get_within rows (from + (get_or chosen i d).at) x (some_same (slice_get rows (from + (get_or chosen i d).at)) (Some x) (one_at rows from count i d chosen found l few at ∙ ap (option_map Some) e))

-- the next row that is to be put
pub next_at : (rows : List Row) (from count i : ℕ) (d : Choice) (chosen : List Choice) (found : List Row) (x : Row) → count ≤ length chosen → i < count → AreAt rows from (take count chosen) found
    → slice_get rows (from + (get_or chosen i d).at) ≡ Some x → drop i found ≡ x ∷ drop (i + 1) found
next_at rows from count i d chosen found x l few at is =
    let e : Some (Some x) ≡ option_map Some (slice_get found i) = ap Some (sym is) ∙ one_at rows from count i d chosen found l few at in
    let k : slice_get found i ≡ Some x = by_row (slice_get found i) e in
    drop_more found i x (slice_get_within found i x k) ∙ ap (λ y. y ∷ drop (i + 1) found) (get_or_from_slice_get found i x x k)
  where
    by_row : (o : Option Row) → Some (Some x) ≡ option_map Some o → o ≡ Some x
    by_row None h = absurd cc
    by_row (Some y) h = cc

-- the event satisfies a row that is surely chosen
pub sure_at : (e : Assignments) (rows : List Row) (from count i : ℕ) (d : Choice) (chosen : List Choice) (x : Row) → count ≤ length chosen → i < count → Covers e rows from 32 (take count chosen) → slice_get rows (from + (get_or chosen i d).at) ≡ Some x
    → (get_or chosen i d).sure ≡ true → satisfies e x.conj ≡ true
sure_at e rows from count i d chosen x l few covers is sure =
    let within : i < length (take count chosen) = omega (arith, few, length-take-le count chosen l) in
    let right : IsRight e rows from (get_or chosen i d) = subst (IsRight e rows from) (get_or-take count chosen i d few) (All-get_or (IsRight e rows from) (take count chosen) i d within covers.sure) in
    some_is (ap (option_map (λ (row : Row). satisfies e row.conj)) (sym is) ∙ right sure)
  where
    some_is : {a b : Bool} → Some a ≡ Some b → a ≡ b
    some_is h = cc

-- all were put
pub none_left : (rows : List Row) (from count i : ℕ) (chosen : List Choice) (found : List Row) → count ≤ length chosen → count ≤ i → AreAt rows from (take count chosen) found → length found ≤ i
none_left rows from count i chosen found l end at = omega (arith, end, many_at rows from count chosen found l at)

-- a block, and what is behind it
pub block_at : {X : Type 0} (of : Row → X) (e : Assignments) (rows : List Row) (from many : ℕ) → many ≡ min 32 (length (drop from rows))
    → hits_of of e (drop from rows) ≡ hits_of of e (take 32 (drop from rows)) ++ hits_of of e (drop (from + many) rows)
block_at of e rows from many h =
    ap (hits_of of e) (sym (take-append-drop many (drop from rows))) ∙ hits_append of e (take many (drop from rows)) (drop many (drop from rows))
    ∙ ap (λ xs. hits_of of e xs ++ hits_of of e (drop many (drop from rows))) (ap (λ m. take m (drop from rows)) h ∙ take_min 32 (drop from rows))
    ∙ ap (λ xs. hits_of of e (take 32 (drop from rows)) ++ hits_of of e xs) (drop-drop many from rows)

-- nothing is still to be put
pub finished : {X : Type 0} (a b : Held X) (rest all : List X) → rest ≡ [] → IsUnderway a b rest all → Adds a b all
finished a b rest all none h = record { put = sym (append-nil b.items) ∙ ap (λ r. b.items ++ r) (sym none) ∙ h.put; kept = omega (arith, h.kept, ap length none) }

-- nothing was put yet
pub underway : {X : Type 0} (a : Held X) (all : List X) → IsUnderway a a all all
underway a all = record { put = refl; kept = omega arith; grown = record { front = BeginsWith-same a.items; room = omega arith } }

-- one row, and the rest
pub one_then : {X : Type 0} (of : Row → X) (e : Assignments) (rows : List Row) (i : ℕ) (x : Row) → drop i rows ≡ x ∷ drop (i + 1) rows → hits_of of e (drop i rows) ≡ hits_of of e (x ∷ []) ++ hits_of of e (drop (i + 1) rows)
one_then of e rows i x h = ap (hits_of of e) h ∙ hits_append of e (x ∷ []) (drop (i + 1) rows)

pub none_then : {X : Type 0} (of : Row → X) (e : Assignments) (rows : List Row) (i : ℕ) → length rows ≤ i → hits_of of e (drop i rows) ≡ []
none_then of e rows i h = ap (hits_of of e) (drop_all i rows h)

-- the hits among the rows that were chosen are those of the block
pub hits_covered : {X : Type 0} (of : Row → X) (e : Assignments) (rows : List Row) (from : ℕ) (chosen : List Choice) (c : Covers e rows from 32 chosen) → hits_of of e c.found ≡ hits_of of e (take 32 (drop from rows))
hits_covered of e rows from chosen c = ap (map of) c.all
