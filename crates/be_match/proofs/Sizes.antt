-- The leaves that a search visits, one level at a time, and how many they are.
use Rattle.std.proofs.Common.{◌≡◌, ℕ, ◌+◌, ◌<◌, true, cond, List, [], ◌∷◌, ◌++◌, length, drop, get_or, subst, refl, sym, ap, ◌∙◌, arith, length-append}
use Rattle.std.proofs.lemmas.List.{append_assoc, append-nil, drop_more}
use Rattle.be_model.specs.declared.changes.Row.{Row}
use Rattle.be_model.specs.Schemas.{Attributes}
use Rattle.be_model.specs.Matching.{Assignments, is_assigned}
use Rattle.be_model.specs.declared.costs.Cost.{Cost}
use Rattle.be_shape.specs.declared.nodes.Node.{Node}
use Rattle.be_shape.specs.declared.nodes.Part.{Part}
use Rattle.be_shape.specs.declared.nodes.Node.TheViews.{out-Node, out-Part}
use Rattle.be_shape.specs.Plain.{plain, part_as, parts_of, parts_as, half_as}
use Rattle.be_shape.specs.Shape.{NodeRange, whole, lower, upper}
use Rattle.be_shape.specs.Search.{visited, visited_in_parts, visited_in_half, all_of}
use Rattle.be_shape.proofs.Plains.{plain_out, part_out}
use Rattle.be_match.specs.Leaves.{AreCountable, cost_of_leaves}

-- the rows of two lists of leaves
pub all_of_append : (xs ys : List (List Row)) → all_of (xs ++ ys) ≡ all_of xs ++ all_of ys
all_of_append [] ys = refl
all_of_append (x ∷ xs) ys = ap (λ rows. x ++ rows) (all_of_append xs ys) ∙ sym (append_assoc x (all_of xs) (all_of ys))

pub rows_append : (xs ys : List (List Row)) → length (all_of (xs ++ ys)) ≡ length (all_of xs) + length (all_of ys)
rows_append xs ys = ap length (all_of_append xs ys) ∙ length-append (all_of xs) (all_of ys)

-- what a search of a node visits: its leaf, and in its parts and halves
pub node_visited : (s : Attributes) (e : Assignments) (r : NodeRange) (n : Node)
    → visited s e r (plain n) ≡ (out-Node n).leaf ∷ visited_in_parts s e (parts_as (out-Node n).parts.items) ++ visited_in_half s e (lower r) (half_as (out-Node n).low) ++ visited_in_half s e (upper r) (half_as (out-Node n).high)
node_visited s e r n = ap (visited s e r) (plain_out n)

-- how much a search of a node visits, level by level
pub record NodeSizes (s : Attributes) (e : Assignments) (r : NodeRange) (n : Node) : Type 0 where
  pub visits : length (visited s e r (plain n)) ≡ 1 + (length (visited_in_parts s e (parts_as (out-Node n).parts.items)) + (length (visited_in_half s e (lower r) (half_as (out-Node n).low)) + length (visited_in_half s e (upper r) (half_as (out-Node n).high))))
  pub tested : length (all_of (visited s e r (plain n))) ≡ length (out-Node n).leaf + (length (all_of (visited_in_parts s e (parts_as (out-Node n).parts.items))) + (length (all_of (visited_in_half s e (lower r) (half_as (out-Node n).low))) + length (all_of (visited_in_half s e (upper r) (half_as (out-Node n).high)))))

sum_leaves : (x : List Row) (a b c : List (List Row)) → length (x ∷ a ++ b ++ c) ≡ 1 + (length a + (length b + length c))
sum_leaves x a b c = omega (arith, length-append (a ++ b) c, length-append a b)

sum_rows : (x : List Row) (a b c : List (List Row)) → length (all_of (x ∷ a ++ b ++ c)) ≡ length x + (length (all_of a) + (length (all_of b) + length (all_of c)))
sum_rows x a b c = omega (arith, length-append x (all_of (a ++ b ++ c)), rows_append (a ++ b) c, rows_append a b)

pub node_sizes : (s : Attributes) (e : Assignments) (r : NodeRange) (n : Node) → NodeSizes s e r n
node_sizes s e r n =
    let x = (out-Node n).leaf in
    let a = visited_in_parts s e (parts_as (out-Node n).parts.items) in
    let b = visited_in_half s e (lower r) (half_as (out-Node n).low) in
    let c = visited_in_half s e (upper r) (half_as (out-Node n).high) in
    record {
      visits = ap length (node_visited s e r n) ∙ sum_leaves x a b c;
      tested = ap (λ leaves. length (all_of leaves)) (node_visited s e r n) ∙ sum_rows x a b c;
    }

-- what a node costs, from what its parts and halves cost
pub record NodeCosts (s : Attributes) (e : Assignments) (r : NodeRange) (n : Node) (p l h : Cost) : Type 0 where
  pub visits : 1 + p.visits + l.visits + h.visits ≡ length (visited s e r (plain n))
  pub tested : length (out-Node n).leaf + p.tested + l.tested + h.tested ≡ length (all_of (visited s e r (plain n)))

pub node_costs : (s : Attributes) (e : Assignments) (r : NodeRange) (n : Node) (p l h : Cost) (ps : List Part) (low high : NodeRange) → ps ≡ (out-Node n).parts.items → low ≡ lower r → high ≡ upper r
    → p ≡ cost_of_leaves (visited_in_parts s e (parts_as ps)) → l ≡ cost_of_leaves (visited_in_half s e low (half_as (out-Node n).low)) → h ≡ cost_of_leaves (visited_in_half s e high (half_as (out-Node n).high))
    → NodeCosts s e r n p l h
node_costs s e r n p l h ps low high eps el eh ep eq er =
    let z = node_sizes s e r n in
    let a = ep ∙ ap (λ q. cost_of_leaves (visited_in_parts s e (parts_as q))) eps in
    let b = eq ∙ ap (λ q. cost_of_leaves (visited_in_half s e q (half_as (out-Node n).low))) el in
    let c = er ∙ ap (λ q. cost_of_leaves (visited_in_half s e q (half_as (out-Node n).high))) eh in
    record {
      visits = omega (arith, z.visits, ap (λ q. q.visits) a, ap (λ q. q.visits) b, ap (λ q. q.visits) c);
      tested = omega (arith, z.tested, ap (λ q. q.tested) a, ap (λ q. q.tested) b, ap (λ q. q.tested) c);
    }

-- what a search of parts visits: what it visits in the first, and in the others
pub first_visited : (s : Attributes) (e : Assignments) (p : Part) (ps : List Part)
    → visited_in_parts s e (parts_as (p ∷ ps)) ≡ visited_in_parts s e (parts_of (part_as p ∷ [])) ++ visited_in_parts s e (parts_as ps)
first_visited s e p ps =
    let x = cond (is_assigned e (part_as p).0) (visited s e (whole s (part_as p).0) (part_as p).1) [] in
    ap (λ leaves. leaves ++ visited_in_parts s e (parts_as ps)) (sym (append-nil x))

-- what it visits in a part
pub part_visited : (s : Attributes) (e : Assignments) (p : Part)
    → visited_in_parts s e (parts_of (part_as p ∷ [])) ≡ cond (is_assigned e (out-Part p).attr) (visited s e (whole s (out-Part p).attr) (plain (out-Part p).root.value)) []
part_visited s e p =
    ap (λ q. visited_in_parts s e (parts_of (q ∷ []))) (part_out p) ∙ append-nil (cond (is_assigned e (out-Part p).attr) (visited s e (whole s (out-Part p).attr) (plain (out-Part p).root.value)) [])

-- what 64 bits count of a node, they count of its parts and halves
pub parts_countable : (s : Attributes) (e : Assignments) (r : NodeRange) (n : Node) → AreCountable (visited s e r (plain n)) → AreCountable (visited_in_parts s e (parts_as (out-Node n).parts.items))
parts_countable s e r n k =
    let z = node_sizes s e r n in record { few = omega (arith, z.visits, k.few); few_rows = omega (arith, z.tested, k.few_rows) }

pub low_countable : (s : Attributes) (e : Assignments) (r : NodeRange) (n : Node) → AreCountable (visited s e r (plain n)) → AreCountable (visited_in_half s e (lower r) (half_as (out-Node n).low))
low_countable s e r n k =
    let z = node_sizes s e r n in record { few = omega (arith, z.visits, k.few); few_rows = omega (arith, z.tested, k.few_rows) }

pub high_countable : (s : Attributes) (e : Assignments) (r : NodeRange) (n : Node) → AreCountable (visited s e r (plain n)) → AreCountable (visited_in_half s e (upper r) (half_as (out-Node n).high))
high_countable s e r n k =
    let z = node_sizes s e r n in record { few = omega (arith, z.visits, k.few); few_rows = omega (arith, z.tested, k.few_rows) }

-- what a search of the parts from a place on visits
pub visited_from : (s : Attributes) (e : Assignments) (ps : List Part) (i : ℕ) (p : Part) → i < length ps → p ≡ get_or ps i p
    → visited_in_parts s e (parts_as (drop i ps)) ≡ visited_in_parts s e (parts_of (part_as p ∷ [])) ++ visited_in_parts s e (parts_as (drop (i + 1) ps))
visited_from s e ps i p l is =
    ap (λ xs. visited_in_parts s e (parts_as xs)) (drop_more ps i p l ∙ ap (λ q. q ∷ drop (i + 1) ps) (sym is)) ∙ first_visited s e p (drop (i + 1) ps)

-- how much it visits
pub record PartsSizes (s : Attributes) (e : Assignments) (ps : List Part) (i : ℕ) (p : Part) : Type 0 where
  pub visits : length (visited_in_parts s e (parts_as (drop i ps))) ≡ length (visited_in_parts s e (parts_of (part_as p ∷ []))) + length (visited_in_parts s e (parts_as (drop (i + 1) ps)))
  pub tested : length (all_of (visited_in_parts s e (parts_as (drop i ps)))) ≡ length (all_of (visited_in_parts s e (parts_of (part_as p ∷ [])))) + length (all_of (visited_in_parts s e (parts_as (drop (i + 1) ps))))

pub parts_sizes : (s : Attributes) (e : Assignments) (ps : List Part) (i : ℕ) (p : Part) → i < length ps → p ≡ get_or ps i p → PartsSizes s e ps i p
parts_sizes s e ps i p l is =
    let a = visited_in_parts s e (parts_of (part_as p ∷ [])) in
    let b = visited_in_parts s e (parts_as (drop (i + 1) ps)) in
    let v = visited_from s e ps i p l is in
    record { visits = ap length v ∙ length-append a b; tested = ap (λ leaves. length (all_of leaves)) v ∙ rows_append a b }

-- what is counted in a part
pub part_countable : (s : Attributes) (e : Assignments) (p : Part) → is_assigned e (out-Part p).attr ≡ true → AreCountable (visited_in_parts s e (parts_of (part_as p ∷ [])))
    → AreCountable (visited s e (whole s (out-Part p).attr) (plain (out-Part p).root.value))
part_countable s e p h k =
    subst AreCountable (part_visited s e p ∙ ap (λ b. cond b (visited s e (whole s (out-Part p).attr) (plain (out-Part p).root.value)) []) h) k
