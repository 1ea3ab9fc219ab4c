-- Rows that are put by the places of a block where they stand.
use Rattle.std.proofs.Common.{◌≡◌, ℕ, ◌+◌, ◌<◌, ◌≤◌, List, [], ◌∷◌, refl, length, map, take, drop, get_or, slice_get, Option, Some, None, option_map, sym, ap, ◌∙◌, arith}
use Rattle.std.proofs.lemmas.List.{length-map, length-take, length-take-le, length-drop, get_or-take, get_or-drop, drop_more, drop_all}
use Rattle.std.proofs.lemmas.Option.{slice_get-map, slice_get-get_or, slice_get_within, get_or_from_slice_get}
use Rattle.be_model.specs.declared.changes.Row.{Row}
use Rattle.be_model.specs.Rows.{id_of}
use Rattle.be_shape.specs.Chosen.{AreRowsAt}
use Rattle.be_index.specs.Puts.{Held, Adds, Grows, KeepsPlaces}
use Rattle.be_match.proofs.Blocks.{missing, some_same}

-- the rows of a block
abbrev pub block : List Row → ℕ → List Row
block rows from = take 32 (drop from rows)

-- a place of the block is one of the leaf
pub in_leaf : (rows : List Row) (from at : ℕ) → at < length (block rows from) → from + at < length rows
in_leaf rows from at h = omega (arith, h, length-take 32 (drop from rows), length-drop from rows)

pub in_block : (rows : List Row) (from at : ℕ) → at < length (block rows from) → at < 32
in_block rows from at h = omega (arith, h, length-take 32 (drop from rows))

-- the row at a place
pub some_row : (xs : List Row) (i : ℕ) → i < length xs → (x : Row) × (slice_get xs i ≡ Some x)
some_row xs i h = by_row (slice_get xs i) refl
  where
    by_row : (o : Option Row) → slice_get xs i ≡ o → (x : Row) × (slice_get xs i ≡ Some x)
    by_row None e = absurd (missing xs i h e)
    by_row (Some x) e = (x, e)

-- one row stands at a place of the block and at that of the leaf
pub same_row : (rows : List Row) (from at : ℕ) (x y : Row) → slice_get (block rows from) at ≡ Some x → slice_get rows (from + at) ≡ Some y → x ≡ y
same_row rows from at x y h k =
    let few : at < 32 = in_block rows from at (slice_get_within (block rows from) at x h) in
    sym (get_or_from_slice_get (block rows from) at x x h) ∙ get_or-take 32 (drop from rows) at x few ∙ get_or-drop from rows at x ∙ get_or_from_slice_get rows (from + at) y x k

-- the id that is told of a place is that of the row there
pub id_there : (xs : List Row) (i : ℕ) (x : Row) (id : ℕ) → slice_get xs i ≡ Some x → option_map id_of (slice_get xs i) ≡ Some id → id_of x ≡ id
id_there xs i x id h k = same (sym (ap (option_map id_of) h) ∙ k)
  where
    same : {a b : ℕ} → Some a ≡ Some b → a ≡ b
    same e = cc

pub id_in_leaf : (rows : List Row) (from at : ℕ) (y : Row) (id : ℕ) → at < length (block rows from) → slice_get rows (from + at) ≡ Some y → option_map id_of (slice_get (block rows from) at) ≡ Some id → id ≡ id_of y
id_in_leaf rows from at y id h k told =
    let there = some_row (block rows from) at h in
    sym (id_there (block rows from) at there.0 id there.1 told) ∙ ap id_of (same_row rows from at there.0 y there.1 k)

pub put_grows : {X : Type 0} (a b : Held X) (more : List X) → Adds a b more → KeepsPlaces a b → Grows a b
put_grows a b more h k = record { front = (more, h.put); room = k }

-- as many rows as places
many_at : (rows : List Row) (count : ℕ) (places : List ℕ) (found : List Row) → count ≤ length places → AreRowsAt rows (take count places) found → length found ≡ count
many_at rows count places found l at = sym (length-map found Some) ∙ sym (ap length at) ∙ length-map (take count places) (slice_get rows) ∙ length-take-le count places l

-- at each of the places stands the row that is found there
one_at : (rows : List Row) (count i : ℕ) (places : List ℕ) (found : List Row) → count ≤ length places → i < count → AreRowsAt rows (take count places) found
    → Some (slice_get rows (get_or places i 0)) ≡ option_map Some (slice_get found i)
one_at rows count i places found l few at =
    let within : i < length (take count places) = omega (arith, few, length-take-le count places l) in
    let place : slice_get (take count places) i ≡ Some (get_or places i 0) = slice_get-get_or (take count places) i 0 within ∙ ap Some (get_or-take count places i 0 few) in
    sym (slice_get-map (slice_get rows) (take count places) i ∙ ap (option_map (slice_get rows)) place) ∙ ap (λ os. slice_get os i) at ∙ slice_get-map Some found i

-- the next row that is to be put
pub record Next (rows found : List Row) (place i : ℕ) : Type 0 where
  pub row : Row
  pub there : slice_get rows place ≡ Some row
  pub next : drop i found ≡ row ∷ drop (i + 1) found

pub next_row : (rows : List Row) (count i : ℕ) (places : List ℕ) (found : List Row) → count ≤ length places → i < count → AreRowsAt rows (take count places) found → Next rows found (get_or places i 0) i
next_row rows count i places found l few at =
    let s = some_row found i (omega (arith, few, many_at rows count places found l at)) in record {
      row = s.0;
      there = some_same (slice_get rows (get_or places i 0)) (Some s.0) (one_at rows count i places found l few at ∙ ap (option_map Some) s.1);
      next = drop_more found i s.0 (slice_get_within found i s.0 s.1) ∙ ap (λ y. y ∷ drop (i + 1) found) (get_or_from_slice_get found i s.0 s.0 s.1);
    }

-- all were put
pub none_after : {X : Type 0} (of : Row → X) (rows : List Row) (count i : ℕ) (places : List ℕ) (found : List Row) → count ≤ length places → count ≤ i → AreRowsAt rows (take count places) found → map of (drop i found) ≡ []
none_after of rows count i places found l end at = ap (map of) (drop_all i found (omega (arith, end, many_at rows count places found l at)))
