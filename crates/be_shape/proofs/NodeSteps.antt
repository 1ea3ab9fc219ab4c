-- What a step leaves of a node: where it is placed, drawn and pruned.
use Rattle.std.proofs.Common.{◌≡◌, ◌<◌, Bool, true, false, not, leb, ◌||◌, List, [], ◌∷◌, ◌++◌, length, refl, sym, ◌∙◌, arith}
use Rattle.std.specs.List.{list_all, list_any, AllByRecursion}
use Rattle.std.proofs.lemmas.Bool.{and_parts, and_from, not_from_false, not-true, or_parts, or_from}
use Rattle.std.proofs.lemmas.List.Folds.{list_any-append}
use Rattle.be_base.specs.declared.limits.TheConstants.{LEAF_ROWS}
use Rattle.be_model.specs.declared.changes.Row.{Row}
use Rattle.be_model.specs.declared.paths.Hop.{Hop}
use Rattle.be_model.specs.declared.paths.Hop.TheVariants.{Part, Low, High}
use Rattle.be_model.specs.Schemas.{Attributes}
use Rattle.be_shape.specs.Plain.{Plain, node, leaf_of, parts_under}
use Rattle.be_shape.specs.Shape.{Known, everywhere, is_placed_at, is_settled_at, is_stuck, is_some}
use Rattle.be_shape.specs.Children.{children, known_below, may_pass, with_leaf}
use Rattle.be_shape.specs.Paths.{child}
use Rattle.be_shape.proofs.Children.{Each-weaker, where_known, from_levels, below}
use Rattle.be_shape.proofs.Placed.{Placed, placed}
use Rattle.be_shape.proofs.Levels.{passes_one}
use Rattle.be_shape.specs.Right.{is_right_at}
use Rattle.be_shape.proofs.OneLevel.{right_here}

pub everywhere_weaker : (c d : Known → Plain → Bool) (s : Attributes) → ((k : Known) (n : Plain) → c k n ≡ true → d k n ≡ true) → (k : Known) (n : Plain) → everywhere c s k n ≡ true → everywhere d s k n ≡ true
everywhere_weaker c d s f =
    where_known c s (λ k n. everywhere d s k n ≡ true) (λ k n l claims. from_levels d s k n (record { here = f k n l.here; children = claims }))

abbrev pub IsBelow : Attributes → Known → Hop × Plain → Type 0
IsBelow s k x = below (is_right_at s) s k x ≡ true

-- where the children are right, the node is placed by them
pub placed_by : (s : Attributes) (k : Known) (n : Plain) → is_placed_at s k n ≡ true → AllByRecursion (λ (x : Hop × Plain). below (is_right_at s) s k x ≡ true) (children n) → Placed s k n
placed_by s k n here each =
    placed s k n (record {
      here = here;
      children = Each-weaker (IsBelow s k) (λ (x : Hop × Plain). below (is_placed_at s) s k x ≡ true) (λ x h. everywhere_weaker (is_right_at s) (is_placed_at s) s (λ j m t. (right_here s j m t).0) (known_below s x.0 k) x.1 h) (children n) each;
    })

pub settled_is : (s : Attributes) (k : Known) (n : Plain) → is_settled_at s k n ≡ (leb (length (leaf_of n)) LEAF_ROWS || list_all (is_stuck s k) (leaf_of n))
settled_is s k (node rows parts low high) = refl

-- a row may pass to one more child
pub passes_more : (s : Attributes) (k : Known) (before after : List (Hop × Plain)) (x : Hop × Plain) (row : Row)
    → passes_one s k (before ++ after) row ≡ false → may_pass s x.0 k.range row ≡ false → passes_one s k (before ++ x ∷ after) row ≡ false
passes_more s k before after x row h p =
    let f = λ (y : Hop × Plain). may_pass s y.0 k.range row in
    let q = or_parts (list_any f before) (list_any f after) (sym (list_any-append f before after) ∙ h) in
    list_any-append f before (x ∷ after) ∙ or_from (list_any f before) (may_pass s x.0 k.range row || list_any f after) q.0 (or_from (may_pass s x.0 k.range row) (list_any f after) p q.1)

pub still_drawn : (s : Attributes) (k : Known) (before after : List (Hop × Plain)) (x : Hop × Plain) (rows : List Row) → list_all (λ row. not (passes_one s k (before ++ after) row)) rows ≡ true
    → list_all (λ row. not (may_pass s x.0 k.range row)) rows ≡ true → list_all (λ row. not (passes_one s k (before ++ x ∷ after) row)) rows ≡ true
still_drawn s k before after x [] h p = refl
still_drawn s k before after x (row ∷ rows) h p =
    let a = and_parts (not (passes_one s k (before ++ after) row)) (list_all (λ r. not (passes_one s k (before ++ after) r)) rows) h in
    let b = and_parts (not (may_pass s x.0 k.range row)) (list_all (λ r. not (may_pass s x.0 k.range r)) rows) p in
    and_from (not (passes_one s k (before ++ x ∷ after) row)) (list_all (λ r. not (passes_one s k (before ++ x ∷ after) r)) rows)
    (not_from_false (passes_one s k (before ++ x ∷ after) row) (passes_more s k before after x row (not-true (passes_one s k (before ++ after) row) a.0) (not-true (may_pass s x.0 k.range row) b.0)))
    (still_drawn s k before after x rows a.1 b.1)

pub some_rows : (rows : List Row) → 0 < length rows → is_some rows ≡ true
some_rows [] h = absurd (omega arith)
some_rows (row ∷ rows) h = refl

pub some_length : (rows : List Row) → is_some rows ≡ true → 0 < length rows
some_length [] h = absurd (cc)
some_length (row ∷ rows) h = omega arith

pub leaf_children : (leaf : List Row) (n : Plain) → children (with_leaf leaf n) ≡ children n
leaf_children leaf (node rows parts low high) = refl

pub leaf_child : (leaf : List Row) (hop : Hop) (n : Plain) → child hop (with_leaf leaf n) ≡ child hop n
leaf_child leaf (Part a) (node rows parts low high) = refl
leaf_child leaf Low (node rows parts low high) = refl
leaf_child leaf High (node rows parts low high) = refl

pub leaf_parts : (leaf : List Row) (n : Plain) → parts_under (with_leaf leaf n) ≡ parts_under n
leaf_parts leaf (node rows parts low high) = refl

pub leaf_leaf : (leaf : List Row) (n : Plain) → leaf_of (with_leaf leaf n) ≡ leaf
leaf_leaf leaf (node rows parts low high) = refl
