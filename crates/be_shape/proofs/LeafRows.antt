-- The rows of a leaf whose places are no blanks.
use Rattle.std.proofs.Common.{◌≡◌, ℕ, ◌<◌, zero, suc, arith, slice_get, get_or, sym, subst, ◌∙◌, map, Bool, not, true, false, List, [], ◌∷◌, ◌++◌, length, take, drop, Option, Some, None, IsSome, refl, ap}
use Rattle.std.specs.Prelude.{IsPermutation}
use Rattle.std.specs.List.{remove, refill, list_any}
use Rattle.std.proofs.Math.Seq.{take-append_seam}
use Rattle.std.proofs.lemmas.List.Sorted.{IsPermutation-map, IsPermutation-refl, length_permutation, list_any-IsPermutation}
use Rattle.be_model.specs.declared.changes.Row.{Row}
use Rattle.be_shape.specs.Leaves.{rows_of_places, are_rows}

-- each place is a row
pub rows_length : (places : List (Option Row)) → are_rows places ≡ true → length (rows_of_places places) ≡ length places
rows_length [] h = refl
rows_length (Some row ∷ places) h = ap (λ n. suc n) (rows_length places h)
rows_length (None ∷ places) h = absurd (cc)

-- a row more
pub rows_put : (places : List (Option Row)) (row : Row) → rows_of_places (places ++ Some row ∷ []) ≡ rows_of_places places ++ row ∷ []
rows_put [] row = refl
rows_put (Some first ∷ places) row = ap (λ rows. first ∷ rows) (rows_put places row)
rows_put (None ∷ places) row = rows_put places row

pub are_rows_put : (places : List (Option Row)) (row : Row) → are_rows places ≡ true → are_rows (places ++ Some row ∷ []) ≡ true
are_rows_put [] row h = refl
are_rows_put (Some first ∷ places) row h = are_rows_put places row h
are_rows_put (None ∷ places) row h = absurd (cc)

-- what stands at a place is the row there
pub row_there : (places : List (Option Row)) (i : ℕ) (k : Option Row) → are_rows places ≡ true → i < length places → k ≡ get_or places i k → slice_get (rows_of_places places) i ≡ k
row_there [] i k h l e = absurd (omega arith)
row_there (Some row ∷ places) zero k h l e = sym e
row_there (Some row ∷ places) (suc i) k h l e = row_there places i k h (omega arith) e
row_there (None ∷ places) i k h l e = absurd (cc)

-- no place is blank
pub not_blank : (places : List (Option Row)) (i : ℕ) (k : Option Row) → are_rows places ≡ true → i < length places → k ≡ get_or places i k → k ≡ None → ⊥
not_blank [] i k h l e n = absurd (omega arith)
not_blank (Some row ∷ places) zero k h l e n = absurd (cc)
not_blank (Some row ∷ places) (suc i) k h l e n = not_blank places i k h (omega arith) e n
not_blank (None ∷ places) i k h l e n = absurd (cc)

pub row_some : (places : List (Option Row)) (i : ℕ) (k : Option Row) → are_rows places ≡ true → i < length places → k ≡ get_or places i k → IsSome k
row_some places i (Some row) h l e = refl
row_some places i None h l e = absurd (not_blank places i None h l e refl)

-- a row less
pub rows_taken : (places : List (Option Row)) (i : ℕ) → are_rows places ≡ true → rows_of_places (remove places i) ≡ remove (rows_of_places places) i
rows_taken [] zero h = refl
rows_taken [] (suc i) h = refl
rows_taken (Some row ∷ places) zero h = refl
rows_taken (Some row ∷ places) (suc i) h = ap (λ rows. row ∷ rows) (rows_taken places i h)
rows_taken (None ∷ places) i h = absurd (cc)

pub are_rows_taken : (places : List (Option Row)) (i : ℕ) → are_rows places ≡ true → are_rows (remove places i) ≡ true
are_rows_taken [] zero h = refl
are_rows_taken [] (suc i) h = refl
are_rows_taken (Some row ∷ places) zero h = h
are_rows_taken (Some row ∷ places) (suc i) h = are_rows_taken places i h
are_rows_taken (None ∷ places) i h = absurd (cc)

-- the rows of some places in a row
pub rows_first : (n : ℕ) (places : List (Option Row)) → are_rows places ≡ true → rows_of_places (take n places) ≡ take n (rows_of_places places)
rows_first zero places h = refl
rows_first (suc n) [] h = refl
rows_first (suc n) (Some row ∷ places) h = ap (λ rows. row ∷ rows) (rows_first n places h)
rows_first (suc n) (None ∷ places) h = absurd (cc)

pub rows_after : (n : ℕ) (places : List (Option Row)) → are_rows places ≡ true → rows_of_places (drop n places) ≡ drop n (rows_of_places places)
rows_after zero places h = refl
rows_after (suc n) [] h = refl
rows_after (suc n) (Some row ∷ places) h = rows_after n places h
rows_after (suc n) (None ∷ places) h = absurd (cc)

pub are_rows_first : (n : ℕ) (places : List (Option Row)) → are_rows places ≡ true → are_rows (take n places) ≡ true
are_rows_first zero places h = refl
are_rows_first (suc n) [] h = refl
are_rows_first (suc n) (Some row ∷ places) h = are_rows_first n places h
are_rows_first (suc n) (None ∷ places) h = absurd (cc)

pub are_rows_after : (n : ℕ) (places : List (Option Row)) → are_rows places ≡ true → are_rows (drop n places) ≡ true
are_rows_after zero places h = h
are_rows_after (suc n) [] h = refl
are_rows_after (suc n) (Some row ∷ places) h = are_rows_after n places h
are_rows_after (suc n) (None ∷ places) h = absurd (cc)

pub rows_between : (from n : ℕ) (places : List (Option Row)) → are_rows places ≡ true → rows_of_places (take n (drop from places)) ≡ take n (drop from (rows_of_places places))
rows_between from n places h = rows_first n (drop from places) (are_rows_after from places h) ∙ ap (take n) (rows_after from places h)

-- a row less, and the others in another order
abbrev is_blank : Option Row → Bool
is_blank (Some row) = false
is_blank None = true

abbrev row_or : Row → Option Row → Row
row_or d (Some row) = row
row_or d None = d

no_blank : (places : List (Option Row)) → are_rows places ≡ not (list_any is_blank places)
no_blank [] = refl
no_blank (Some row ∷ places) = no_blank places
no_blank (None ∷ places) = refl

rows_as : (d : Row) (places : List (Option Row)) → are_rows places ≡ true → rows_of_places places ≡ map (row_or d) places
rows_as d [] h = refl
rows_as d (Some row ∷ places) h = ap (λ rows. row ∷ rows) (rows_as d places h)
rows_as d (None ∷ places) h = absurd (cc)

pub are_rows_pulled : (places rest : List (Option Row)) (k : Option Row) (row : Row) → k ≡ Some row → are_rows places ≡ true → IsPermutation places (k ∷ rest) → are_rows rest ≡ true
are_rows_pulled places rest k row e h p =
    sym (ap (λ z. are_rows (z ∷ rest)) e) ∙ no_blank (k ∷ rest) ∙ ap not (sym (list_any-IsPermutation is_blank places (k ∷ rest) p)) ∙ sym (no_blank places) ∙ h

pub rows_pulled : (places rest : List (Option Row)) (k : Option Row) (row : Row) → k ≡ Some row → are_rows places ≡ true → IsPermutation places (k ∷ rest) → IsPermutation (rows_of_places places) (row ∷ rows_of_places rest)
rows_pulled places rest k row e h p =
    let q : IsPermutation (map (row_or row) places) (map (row_or row) (k ∷ rest)) = IsPermutation-map (row_or row) places (k ∷ rest) p in
    let is : map (row_or row) (k ∷ rest) ≡ row ∷ rows_of_places rest = ap (λ z. row_or row z ∷ map (row_or row) rest) e ∙ ap (λ rows. row ∷ rows) (sym (rows_as row rest (are_rows_pulled places rest k row e h p))) in
    subst (λ xs. IsPermutation xs (row ∷ rows_of_places rest)) (sym (rows_as row places h)) (subst (λ xs. IsPermutation (map (row_or row) places) xs) is q)

-- the same rows in another order
pub are_rows_moved : (places moved : List (Option Row)) → IsPermutation places moved → are_rows places ≡ true → are_rows moved ≡ true
are_rows_moved places moved p h = no_blank moved ∙ ap not (sym (list_any-IsPermutation is_blank places moved p)) ∙ sym (no_blank places) ∙ h

pub rows_moved : (places moved : List (Option Row)) → IsPermutation places moved → are_rows places ≡ true → IsPermutation (rows_of_places places) (rows_of_places moved)
rows_moved [] moved p h = subst (λ xs. IsPermutation [] (rows_of_places xs)) (sym (none_moved moved (length_permutation [] moved p))) (IsPermutation-refl [])
  where
    none_moved : (xs : List (Option Row)) → length xs ≡ 0 → xs ≡ []
    none_moved [] e = refl
    none_moved (x ∷ xs) e = absurd (omega (arith, e))
rows_moved (None ∷ places) moved p h = absurd (cc)
rows_moved (Some row ∷ places) moved p h =
    let all = Some row ∷ places in
    let q : IsPermutation (map (row_or row) all) (map (row_or row) moved) = IsPermutation-map (row_or row) all moved p in
    subst (λ xs. IsPermutation xs (rows_of_places moved)) (sym (rows_as row all h))
    (subst (λ xs. IsPermutation (map (row_or row) all) xs) (sym (rows_as row moved (are_rows_moved all moved p h))) q)

pub refilled : {X : Type 0} (xs ys : List X) → IsPermutation xs ys → refill (length xs) xs ys ≡ ys
refilled xs ys p = ap (λ n. take n (ys ++ drop (length ys) xs)) (sym (length_permutation xs ys p)) ∙ take-append_seam ys (drop (length ys) xs)
