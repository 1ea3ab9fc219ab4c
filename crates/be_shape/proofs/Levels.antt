-- What the tests of one node say, by its children.
use Rattle.std.proofs.Common.{◌≡◌, Bool, true, false, not, ◌&&◌, ◌||◌, List, [], ◌∷◌, ◌++◌, refl, sym, ap, ◌∙◌}
use Rattle.std.specs.List.{list_all, list_any}
use Rattle.std.proofs.lemmas.List.Folds.{list_all-append, list_any-append}
use Rattle.be_model.specs.declared.changes.Row.{Row}
use Rattle.be_model.specs.declared.paths.Hop.{Hop}
use Rattle.be_model.specs.declared.paths.Hop.TheVariants.{Low, High}
use Rattle.be_model.specs.Schemas.{Attributes}
use Rattle.be_model.specs.Rows.{has}
use Rattle.be_shape.specs.Plain.{Plain, node, Parts, no_part, part, Half, no_half, half, rows_below, leaf_of}
use Rattle.be_shape.specs.Shape.{Known, in_low, in_high, is_some, parts_hold_rows, half_holds_rows, is_pruned_at, is_drawn_at, attrs_of, fits_half, spans_inside}
use Rattle.be_shape.specs.Children.{roots_of, root_of, children, may_pass}

-- pruned: each child has a row in its subtree
abbrev pub holds_rows : Hop × Plain → Bool
holds_rows x = is_some (rows_below x.1)

parts_hold : (parts : Parts) → parts_hold_rows parts ≡ list_all holds_rows (roots_of parts)
parts_hold no_part = refl
parts_hold (part a root more) = ap (λ b. is_some (rows_below root) && b) (parts_hold more)

and_true : (b : Bool) → b ≡ (b && true)
and_true true = refl
and_true false = refl

half_holds : (hop : Hop) (h : Half) → half_holds_rows h ≡ list_all holds_rows (root_of hop h)
half_holds hop no_half = refl
half_holds hop (half n) = and_true (is_some (rows_below n))

pub pruned_is : (k : Known) (n : Plain) → is_pruned_at k n ≡ list_all holds_rows (children n)
pruned_is k (node rows parts low high) =
    ap (λ b. b && half_holds_rows low && half_holds_rows high) (parts_hold parts) ∙ ap (λ b. list_all holds_rows (roots_of parts) && b && half_holds_rows high) (half_holds Low low)
    ∙ ap (λ b. list_all holds_rows (roots_of parts) && list_all holds_rows (root_of Low low) && b) (half_holds High high)
    ∙ sym (list_all-append holds_rows (roots_of parts ++ root_of Low low) (root_of High high) ∙ ap (λ b. b && list_all holds_rows (root_of High high)) (list_all-append holds_rows (roots_of parts) (root_of Low low)))

-- drawn: no row of the leaf may pass to a child
abbrev pub passes_one : Attributes → Known → List (Hop × Plain) → Row → Bool
passes_one s k xs row = list_any (λ (x : Hop × Plain). may_pass s x.0 k.range row) xs

passes_part : (s : Attributes) (k : Known) (parts : Parts) (row : Row) → list_any (λ a. has a row) (attrs_of parts) ≡ passes_one s k (roots_of parts) row
passes_part s k no_part row = refl
passes_part s k (part a root more) row = ap (λ b. has a row || b) (passes_part s k more row)

or_false : (b : Bool) → b ≡ (b || false)
or_false true = refl
or_false false = refl

passes_low : (s : Attributes) (k : Known) (h : Half) (row : Row) → fits_half s (in_low k) h row ≡ passes_one s k (root_of Low h) row
passes_low s k no_half row = refl
passes_low s k (half n) row = or_false (spans_inside s (in_low k).range row)

passes_high : (s : Attributes) (k : Known) (h : Half) (row : Row) → fits_half s (in_high k) h row ≡ passes_one s k (root_of High h) row
passes_high s k no_half row = refl
passes_high s k (half n) row = or_false (spans_inside s (in_high k).range row)

pub passes_is : (s : Attributes) (k : Known) (rows : List Row) (parts : Parts) (low high : Half) (row : Row)
    → (list_any (λ a. has a row) (attrs_of parts) || fits_half s (in_low k) low row || fits_half s (in_high k) high row) ≡ passes_one s k (children (node rows parts low high)) row
passes_is s k rows parts low high row =
    let p = λ (x : Hop × Plain). may_pass s x.0 k.range row in
    ap (λ b. b || fits_half s (in_low k) low row || fits_half s (in_high k) high row) (passes_part s k parts row) ∙ ap (λ b. list_any p (roots_of parts) || b || fits_half s (in_high k) high row) (passes_low s k low row)
    ∙ ap (λ b. list_any p (roots_of parts) || list_any p (root_of Low low) || b) (passes_high s k high row)
    ∙ sym (list_any-append p (roots_of parts ++ root_of Low low) (root_of High high) ∙ ap (λ b. b || list_any p (root_of High high)) (list_any-append p (roots_of parts) (root_of Low low)))

pub same_tests : {X : Type 0} (p q : X → Bool) → ((x : X) → p x ≡ q x) → (xs : List X) → list_all p xs ≡ list_all q xs
same_tests p q f [] = refl
same_tests p q f (x ∷ xs) = ap (λ b. b && list_all p xs) (f x) ∙ ap (λ b. q x && b) (same_tests p q f xs)

pub drawn_is : (s : Attributes) (k : Known) (n : Plain) → is_drawn_at s k n ≡ list_all (λ row. not (passes_one s k (children n) row)) (leaf_of n)
drawn_is s k (node rows parts low high) =
    same_tests (λ row. not (list_any (λ a. has a row) (attrs_of parts) || fits_half s (in_low k) low row || fits_half s (in_high k) high row)) (λ row. not (passes_one s k (children (node rows parts low high)) row)) (λ row. ap not (passes_is s k rows parts low high row)) rows
