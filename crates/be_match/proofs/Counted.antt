-- What a search still counts of a node and of its parts, where the leaves ahead are counted.
use Rattle.std.proofs.Common.{◌≡◌, Bool, true, false, cond, List, [], ◌∷◌, refl, length, length-append, sym, ap, ◌∙◌, subst, arith}
use Rattle.be_model.specs.declared.costs.Cost.{Cost}
use Rattle.be_model.specs.Costs.{cost}
use Rattle.be_model.specs.declared.changes.Row.{Row}
use Rattle.be_model.specs.Schemas.{Attributes}
use Rattle.be_model.specs.Matching.{Assignments, is_assigned}
use Rattle.be_shape.specs.declared.nodes.Node.{Node}
use Rattle.be_shape.specs.declared.nodes.Part.{Part}
use Rattle.be_shape.specs.declared.nodes.Node.TheViews.{out-Node, out-Part}
use Rattle.be_shape.specs.Plain.{plain, leaf_of, part_as, parts_of, parts_as, half_as}
use Rattle.be_shape.specs.Shape.{NodeRange, whole, lower, upper}
use Rattle.be_shape.specs.Search.{visited, visited_in_parts, all_of, holds_value}
use Rattle.be_match.specs.Ahead.{ahead_below, ahead_in_parts, CountsOthers, AreOthersCountable}
use Rattle.be_match.specs.Leaves.{AreCountable, cost_with}
use Rattle.be_match.proofs.AheadSizes.{leaf_rows, half_no_more, part_ahead, sizes_of_node}
use Rattle.be_match.proofs.Sizes.{node_sizes, part_visited}

-- 64 bits count the rest of the parts of a node, where the leaves ahead of the node are counted, or none is
pub parts_others_countable : (s : Attributes) (e : Assignments) (r lo hi : NodeRange) (n : Node) (c c1 : Cost) (b d w : Bool) (ps : List Part) → lo ≡ lower r → hi ≡ upper r → b ≡ holds_value e lo → d ≡ holds_value e hi
    → AreOthersCountable c (leaf_of (plain n) ∷ []) (visited s e r (plain n)) → ps ≡ (out-Node n).parts.items → c1 ≡ cost_with c (cond w (ahead_below e b d (plain n)) [])
    → AreOthersCountable c1 (cond w (ahead_in_parts e (parts_as ps)) []) (visited_in_parts s e (parts_as ps))
parts_others_countable s e r lo hi n c c1 b d true ps el eh bl dh k are is =
    let items = (out-Node n).parts.items in
    let leaf = (out-Node n).leaf in
    let z = node_sizes s e r n in
    let l = half_no_more s e (lower r) (half_as (out-Node n).low) b (bl ∙ ap (holds_value e) el) in
    let h = half_no_more s e (upper r) (half_as (out-Node n).high) d (dh ∙ ap (holds_value e) eh) in
    let x = sizes_of_node e n b d items refl in
    let here : length (all_of (leaf_of (plain n) ∷ [])) ≡ length leaf = leaf_rows n in
    subst (λ q. AreOthersCountable c1 (ahead_in_parts e (parts_as q)) (visited_in_parts s e (parts_as q))) (sym are)
    record {
      few = omega (arith, k.few, z.visits, x.many, l.few, h.few, ap (λ q. q.visits) is);
      few_rows = omega (arith, k.few_rows, here, z.tested, x.rows, l.few_rows, h.few_rows, ap (λ q. q.tested) is);
    }
parts_others_countable s e r lo hi n c c1 b d false ps el eh bl dh k are is =
    let z = node_sizes s e r n in
    subst (λ q. AreOthersCountable c1 [] (visited_in_parts s e (parts_as q))) (sym are)
    record { few = omega (arith, k.few, z.visits, ap (λ q. q.visits) is); few_rows = omega (arith, k.few_rows, leaf_rows n, z.tested, ap (λ q. q.tested) is) }

-- ahead in a part whose root is entered, and what is visited there
pub part_ahead_entered : (e : Assignments) (p : Part) → is_assigned e (out-Part p).attr ≡ true → ahead_in_parts e (parts_of (part_as p ∷ [])) ≡ leaf_of (plain (out-Part p).root.value) ∷ []
part_ahead_entered e p h = part_ahead e p ∙ ap (λ b. cond b (leaf_of (plain (out-Part p).root.value) ∷ []) []) h

pub part_visited_entered : (s : Attributes) (e : Assignments) (p : Part) → is_assigned e (out-Part p).attr ≡ true
    → visited_in_parts s e (parts_of (part_as p ∷ [])) ≡ visited s e (whole s (out-Part p).attr) (plain (out-Part p).root.value)
part_visited_entered s e p h = part_visited s e p ∙ ap (λ b. cond b (visited s e (whole s (out-Part p).attr) (plain (out-Part p).root.value)) []) h

-- the rest of one part, where its root is entered
pub part_others_countable : (s : Attributes) (e : Assignments) (p : Part) (c : Cost) (w : Bool) → is_assigned e (out-Part p).attr ≡ true
    → AreOthersCountable c (cond w (ahead_in_parts e (parts_of (part_as p ∷ []))) []) (visited_in_parts s e (parts_of (part_as p ∷ [])))
    → AreOthersCountable c (cond w (leaf_of (plain (out-Part p).root.value) ∷ []) []) (visited s e (whole s (out-Part p).attr) (plain (out-Part p).root.value))
part_others_countable s e p c w h k =
    let root = plain (out-Part p).root.value in
    subst (λ f. AreOthersCountable c (cond w f []) (visited s e (whole s (out-Part p).attr) root)) (part_ahead_entered e p h)
    (subst (AreOthersCountable c (cond w (ahead_in_parts e (parts_of (part_as p ∷ []))) [])) (part_visited_entered s e p h) k)

-- a search of a tree, of which the leaf of the root was counted
pub others_countable : (c : Cost) (rows : List Row) (leaves : List (List Row)) → c ≡ cost 1 (length rows) → AreCountable leaves → AreOthersCountable c (rows ∷ []) leaves
others_countable c rows leaves is k =
    record { few = omega (arith, k.few, ap (λ q. q.visits) is); few_rows = omega (arith, k.few_rows, length-append rows [], ap (λ q. q.tested) is) }

-- on top of no cost
pub record CostsAlone (c : Cost) (leaves : List (List Row)) : Type 0 where
  pub visits : c.visits ≡ length leaves
  pub tested : c.tested ≡ length (all_of leaves)

pub costs_alone : (c d : Cost) (rows : List Row) (leaves : List (List Row)) → c ≡ cost 1 (length rows) → CountsOthers c d (rows ∷ []) leaves → CostsAlone d leaves
costs_alone c d rows leaves is all =
    record { visits = omega (arith, ap (λ q. q.visits) is, all.visits); tested = omega (arith, length-append rows [], ap (λ q. q.tested) is, all.tested) }
