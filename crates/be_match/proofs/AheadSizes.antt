-- The leaves that a search counts ahead, one level at a time: how many they are, and that they are no more than those that it visits.
use Rattle.std.proofs.Common.{◌≡◌, ℕ, ◌+◌, ◌<◌, ◌≤◌, Bool, true, false, cond, List, [], ◌∷◌, ◌++◌, length, drop, get_or, length-append, sym, ap, ◌∙◌, subst, arith}
use Rattle.std.proofs.lemmas.List.{append-nil, drop_more}
use Rattle.be_model.specs.declared.changes.Row.{Row}
use Rattle.be_model.specs.declared.costs.Cost.{Cost}
use Rattle.be_model.specs.Schemas.{Attributes}
use Rattle.be_model.specs.Matching.{Assignments, is_assigned}
use Rattle.be_shape.specs.declared.nodes.Part.{Part}
use Rattle.be_shape.specs.declared.nodes.Node.{Node}
use Rattle.be_shape.specs.declared.nodes.Node.TheViews.{out-Node, out-Part}
use Rattle.be_shape.specs.Plain.{Plain, node, Parts, no_part, part, Half, no_half, half, leaf_of, plain, part_as, parts_of, parts_as, half_as}
use Rattle.be_shape.specs.Shape.{NodeRange, whole, lower, upper}
use Rattle.be_shape.specs.Search.{visited, visited_in_parts, visited_in_half, all_of, holds_value}
use Rattle.be_shape.proofs.Plains.{plain_out, part_out}
use Rattle.be_match.specs.Ahead.{ahead_below, ahead_in_parts, ahead_in_half, AreOthersCountable}
use Rattle.be_match.specs.Leaves.{AreCountableWith}
use Rattle.be_match.proofs.Sizes.{rows_append}

-- these are no more than those
pub record AreNoMore (ahead leaves : List (List Row)) : Type 0 where
  pub few : length ahead ≤ length leaves
  pub few_rows : length (all_of ahead) ≤ length (all_of leaves)

none_no_more : AreNoMore [] []
none_no_more = record { few = omega arith; few_rows = omega arith }

both_no_more : (f g v w : List (List Row)) → AreNoMore f v → AreNoMore g w → AreNoMore (f ++ g) (v ++ w)
both_no_more f g v w h k =
    record { few = omega (arith, h.few, k.few, length-append f g, length-append v w); few_rows = omega (arith, h.few_rows, k.few_rows, rows_append f g, rows_append v w) }

pub leaf_no_more : (s : Attributes) (e : Assignments) (r : NodeRange) (n : Plain) → AreNoMore (leaf_of n ∷ []) (visited s e r n)
leaf_no_more s e r (node rows parts low high) =
    let rest = visited_in_parts s e parts ++ visited_in_half s e (lower r) low ++ visited_in_half s e (upper r) high in
    record { few = omega arith; few_rows = omega (arith, length-append rows [], length-append rows (all_of rest)) }

-- its rows are these
pub leaf_rows : (n : Node) → length (all_of (leaf_of (plain n) ∷ [])) ≡ length (out-Node n).leaf
leaf_rows n = ap (λ i. length (all_of (leaf_of i ∷ []))) (plain_out n) ∙ length-append (out-Node n).leaf [] ∙ omega arith

-- where a node is entered
entered_no_more : (s : Attributes) (e : Assignments) (r : NodeRange) (n : Plain) (b : Bool) → AreNoMore (cond b (leaf_of n ∷ []) []) (cond b (visited s e r n) [])
entered_no_more s e r n true = leaf_no_more s e r n
entered_no_more s e r n false = none_no_more

pub parts_no_more : (s : Attributes) (e : Assignments) (ps : Parts) → AreNoMore (ahead_in_parts e ps) (visited_in_parts s e ps)
parts_no_more s e no_part = none_no_more
parts_no_more s e (part a root more) =
    let b = is_assigned e a in
    both_no_more (cond b (leaf_of root ∷ []) []) (ahead_in_parts e more) (cond b (visited s e (whole s a) root) []) (visited_in_parts s e more) (entered_no_more s e (whole s a) root b) (parts_no_more s e more)

pub half_no_more : (s : Attributes) (e : Assignments) (r : NodeRange) (h : Half) (b : Bool) → b ≡ holds_value e r → AreNoMore (ahead_in_half b h) (visited_in_half s e r h)
half_no_more s e r no_half b is = none_no_more
half_no_more s e r (half n) b is = subst (λ x. AreNoMore (cond b (leaf_of n ∷ []) []) (cond x (visited s e r n) [])) is (entered_no_more s e r n b)

-- where they are said to be counted ahead, or none is
pub where_no_more : (w : Bool) (f v : List (List Row)) → AreNoMore f v → AreNoMore (cond w f []) v
where_no_more true f v h = h
where_no_more false f v h = record { few = omega arith; few_rows = omega arith }

-- 64 bits count those below a node
below_countable : (s : Attributes) (e : Assignments) (r lo hi : NodeRange) (n : Plain) (c : Cost) (b d : Bool) → lo ≡ lower r → hi ≡ upper r → b ≡ holds_value e lo → d ≡ holds_value e hi
    → AreOthersCountable c (leaf_of n ∷ []) (visited s e r n) → AreCountableWith c (ahead_below e b d n)
below_countable s e r lo hi (node rows parts low high) c b d el eh bl dh k =
    let p = visited_in_parts s e parts in
    let l = visited_in_half s e (lower r) low in
    let h = visited_in_half s e (upper r) high in
    let fp = ahead_in_parts e parts in
    let fl = ahead_in_half b low in
    let fh = ahead_in_half d high in
    let w = both_no_more (fp ++ fl) fh (p ++ l) h (both_no_more fp fl p l (parts_no_more s e parts) (half_no_more s e (lower r) low b (bl ∙ ap (holds_value e) el))) (half_no_more s e (upper r) high d (dh ∙ ap (holds_value e) eh)) in
    record { few = omega (arith, k.few, w.few); few_rows = omega (arith, k.few_rows, w.few_rows, length-append rows [], length-append rows (all_of (p ++ l ++ h))) }

-- 64 bits count those ahead
pub ahead_countable : (s : Attributes) (e : Assignments) (r lo hi : NodeRange) (n : Plain) (c : Cost) (b d w : Bool) → lo ≡ lower r → hi ≡ upper r → b ≡ holds_value e lo → d ≡ holds_value e hi
    → AreOthersCountable c (leaf_of n ∷ []) (visited s e r n) → AreCountableWith c (cond w (ahead_below e b d n) [])
ahead_countable s e r lo hi n c b d true el eh bl dh k = below_countable s e r lo hi n c b d el eh bl dh k
ahead_countable s e r lo hi n c b d false el eh bl dh k =
    let few = leaf_no_more s e r n in
    record { few = omega (arith, k.few, few.few); few_rows = omega (arith, k.few_rows, few.few_rows) }

-- ahead in parts: in the first, and in the others
first_ahead : (e : Assignments) (p : Part) (ps : List Part) → ahead_in_parts e (parts_as (p ∷ ps)) ≡ ahead_in_parts e (parts_of (part_as p ∷ [])) ++ ahead_in_parts e (parts_as ps)
first_ahead e p ps =
    let x = cond (is_assigned e (part_as p).0) (leaf_of (part_as p).1 ∷ []) [] in
    ap (λ leaves. leaves ++ ahead_in_parts e (parts_as ps)) (sym (append-nil x))

-- in the parts from a place on
pub ahead_from : (e : Assignments) (ps : List Part) (i : ℕ) (p : Part) → i < length ps → p ≡ get_or ps i p
    → ahead_in_parts e (parts_as (drop i ps)) ≡ ahead_in_parts e (parts_of (part_as p ∷ [])) ++ ahead_in_parts e (parts_as (drop (i + 1) ps))
ahead_from e ps i p l is =
    ap (λ xs. ahead_in_parts e (parts_as xs)) (drop_more ps i p l ∙ ap (λ q. q ∷ drop (i + 1) ps) (sym is)) ∙ first_ahead e p (drop (i + 1) ps)

-- in one part
pub part_ahead : (e : Assignments) (p : Part) → ahead_in_parts e (parts_of (part_as p ∷ [])) ≡ cond (is_assigned e (out-Part p).attr) (leaf_of (plain (out-Part p).root.value) ∷ []) []
part_ahead e p =
    ap (λ q. ahead_in_parts e (parts_of (q ∷ []))) (part_out p) ∙ append-nil (cond (is_assigned e (out-Part p).attr) (leaf_of (plain (out-Part p).root.value) ∷ []) [])

-- of a node: in its parts, and in its halves
pub ahead_of_node : (e : Assignments) (n : Node) (b d : Bool) (ps : List Part) → ps ≡ (out-Node n).parts.items
    → ahead_below e b d (plain n) ≡ ahead_in_parts e (parts_as ps) ++ ahead_in_half b (half_as (out-Node n).low) ++ ahead_in_half d (half_as (out-Node n).high)
ahead_of_node e n b d ps are =
    ap (ahead_below e b d) (plain_out n) ∙ ap (λ q. ahead_in_parts e (parts_as q) ++ ahead_in_half b (half_as (out-Node n).low) ++ ahead_in_half d (half_as (out-Node n).high)) (sym are)

-- how many these are, in parts and halves one after another
pub record AheadSizes (all x y z : List (List Row)) : Type 0 where
  pub many : length all ≡ length x + length y + length z
  pub rows : length (all_of all) ≡ length (all_of x) + length (all_of y) + length (all_of z)

ahead_sizes : (all x y z : List (List Row)) → all ≡ x ++ y ++ z → AheadSizes all x y z
ahead_sizes all x y z is =
    record { many = omega (arith, ap length is, length-append (x ++ y) z, length-append x y); rows = omega (arith, ap (λ v. length (all_of v)) is, rows_append (x ++ y) z, rows_append x y) }

pub sizes_of_node : (e : Assignments) (n : Node) (b d : Bool) (ps : List Part) → ps ≡ (out-Node n).parts.items
    → AheadSizes (ahead_below e b d (plain n)) (ahead_in_parts e (parts_as ps)) (ahead_in_half b (half_as (out-Node n).low)) (ahead_in_half d (half_as (out-Node n).high))
sizes_of_node e n b d ps are =
    ahead_sizes (ahead_below e b d (plain n)) (ahead_in_parts e (parts_as ps)) (ahead_in_half b (half_as (out-Node n).low)) (ahead_in_half d (half_as (out-Node n).high)) (ahead_of_node e n b d ps are)
