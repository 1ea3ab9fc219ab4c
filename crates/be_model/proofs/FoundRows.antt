-- Rows behind shared references.
use Rattle.std.proofs.Common.{◌≡◌, ℕ, ◌<◌, List, [], ◌∷◌, length, take, sym, arith, IsPermutation}
use Rattle.std.proofs.lemmas.List.{take-map, get_or-map, length-map}
use Rattle.std.specs.List.Sorted.{IsNonDecreasingBy}
use Rattle.std.proofs.lemmas.List.Sorted.{IsPermutation-map}
use Rattle.std.specs.Arc.{arc_value}
use Rattle.std.specs.declared.sync.Arc.{Arc}
use Rattle.be_model.specs.declared.changes.Row.{Row}
use Rattle.be_model.specs.Rows.{rows_in, id_of}

pub take_rows : {Z : Type 0} (n : ℕ) (xs : List (Arc Row Z)) → rows_in (take n xs) ≡ take n (rows_in xs)
take_rows n xs = sym (take-map (λ (x : Arc Row _). arc_value x) n xs)

pub length_rows : {Z : Type 0} (xs : List (Arc Row Z)) → length (rows_in xs) ≡ length xs
length_rows xs = length-map xs (λ (x : Arc Row _). arc_value x)

pub rows_moved : {Z : Type 0} (xs ys : List (Arc Row Z)) → IsPermutation xs ys → IsPermutation (rows_in xs) (rows_in ys)
rows_moved xs ys h = IsPermutation-map (λ (x : Arc Row _). arc_value x) xs ys h

pub rows_rise : {Z : Type 0} (xs : List (Arc Row Z)) → IsNonDecreasingBy (λ (x : Arc Row Z). id_of (arc_value x)) xs → IsNonDecreasingBy id_of (rows_in xs)
rows_rise [] h i j d l m = absurd (omega arith)
rows_rise {Z} (x ∷ xs) h i j d l m =
    let f = λ (y : Arc Row Z). arc_value y in
    let n : j < length (x ∷ xs) = omega (arith, length_rows (x ∷ xs)) in
    let k : i < length (x ∷ xs) = omega arith in
    rw (get_or-map f (x ∷ xs) i x d k, get_or-map f (x ∷ xs) j x d n) (h i j x l n)
