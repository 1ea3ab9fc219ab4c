-- Children that have more rows in their own leaf than are merged.
use Rattle.std.proofs.Common.{◌≡◌, ◌+◌, leb, Bool, true, false, not, ◌&&◌, List, [], ◌∷◌, ◌++◌, length, length-append, Some, ap, ◌∙◌, arith}
use Rattle.std.specs.List.{list_all, list_any, flat_map, AllByRecursion}
use Rattle.std.proofs.lemmas.Bool.{and_parts, ltb-true, lt-leb}
use Rattle.std.proofs.lemmas.List.Folds.{list_all-append}
use Rattle.be_base.specs.declared.limits.TheConstants.{LEAF_ROWS, MERGE_ROWS}
use Rattle.be_model.specs.declared.paths.Hop.{Hop}
use Rattle.be_model.specs.declared.paths.Hop.TheVariants.{Low, High}
use Rattle.be_model.specs.Schemas.{Attributes}
use Rattle.be_shape.specs.declared.nodes.Node.{Node}
use Rattle.be_shape.specs.declared.nodes.Node.TheViews.{out-Node}
use Rattle.be_shape.specs.Plain.{Plain, plain, parts_as, half_as, leaf_of, rows_below}
use Rattle.be_shape.specs.Shape.{Known}
use Rattle.be_shape.specs.Paths.{child}
use Rattle.be_shape.specs.Children.{children, roots_of, root_of, may_pass}
use Rattle.be_shape.specs.Steps.{can_merge, may_merge, without_child}
use Rattle.be_shape.proofs.Children.{rows_of, rows_are}
use Rattle.be_shape.proofs.Placed.{at_child}
use Rattle.be_shape.proofs.Plains.{plain_out}
use Rattle.be_plan.specs.Merges.{is_full, all_full, are_full}

each_full : (xs : List (Hop × Plain)) → all_full xs ≡ true → AllByRecursion (λ (x : Hop × Plain). is_full x.1 ≡ true) xs
each_full [] h = tt
each_full (x ∷ xs) h = let k = and_parts (is_full x.1) (all_full xs) h in (k.0, each_full xs k.1)

-- such a child isn't merged
pub full_stays : (s : Attributes) (hop : Hop) (k : Known) (n m : Plain) → child hop n ≡ Some m → are_full n ≡ true → can_merge s hop k n ≡ false
full_stays s hop k n m e h =
    let full = ltb-true MERGE_ROWS (length (leaf_of m)) (at_child (λ (x : Hop × Plain). is_full x.1 ≡ true) hop n m e (each_full (children n) h)) in
    let all = ap length (rows_are m) in
    let sum = length-append (leaf_of m) (flat_map rows_of (children m)) in
    let many : leb (length (rows_below m)) MERGE_ROWS ≡ false = lt-leb (length (rows_below m)) MERGE_ROWS (omega (arith, full, all, sum)) in
    ap (may_merge s hop k n) e ∙ ap (λ b. b && leb (length (rows_below m) + length (leaf_of n)) LEAF_ROWS && rest) many
  where
    rest : Bool
    rest = list_all (λ row. not (list_any (λ (x : Hop × Plain). may_pass s x.0 k.range row) (children (without_child hop n)))) (rows_below m)

three : (parts low high : List (Hop × Plain)) → all_full (parts ++ low ++ high) ≡ (all_full parts && all_full low && all_full high)
three parts low high =
    list_all-append (λ (x : Hop × Plain). is_full x.1) (parts ++ low) high ∙ ap (λ b. b && all_full high) (list_all-append (λ (x : Hop × Plain). is_full x.1) parts low)

-- the children of a node are the roots of its parts and its halves
pub full_out : (n : Node) → are_full (plain n) ≡ (all_full (roots_of (parts_as (out-Node n).parts.items)) && all_full (root_of Low (half_as (out-Node n).low)) && all_full (root_of High (half_as (out-Node n).high)))
full_out n =
    ap are_full (plain_out n) ∙ three (roots_of (parts_as (out-Node n).parts.items)) (root_of Low (half_as (out-Node n).low)) (root_of High (half_as (out-Node n).high))
