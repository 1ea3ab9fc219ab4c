-- A tree's root, and what its type keeps.
use Rattle.std.proofs.Common.{◌≡◌, Bool, true, ◌&&◌, List, [], ◌∷◌}
use Rattle.std.specs.List.{AllByRecursion}
use Rattle.std.specs.Arc.{arc_value}
use Rattle.std.proofs.lemmas.Bool.{and_parts, and_from}
use Rattle.be_model.specs.ByIds.{ids_differ}
use Rattle.be_model.specs.Schemas.{Attributes}
use Rattle.be_shape.specs.declared.trees.Tree.{Tree}
use Rattle.be_shape.specs.Plain.{Plain, plain, rows_below}
use Rattle.be_shape.specs.Shape.{Known, nothing, everywhere, is_placed_at, is_drawn_at, is_pruned_at, is_settled_at}
use Rattle.be_shape.proofs.Children.{where_known, levels, from_levels, below}
use Rattle.be_model.specs.declared.paths.Hop.{Hop}
use Rattle.be_shape.specs.Children.{children}
use Rattle.be_shape.specs.Right.{is_right_at, IsRight}
use Rattle.be_shape.proofs.OneLevel.{right_here}
use Rattle.be_shape.proofs.NodeSteps.{everywhere_weaker}
use Rattle.be_shape.proofs.RootPut.{IsRoot}

pub applied : {X : Type 0} (P Q : X → Type 0) (xs : List X) → AllByRecursion (λ x. P x → Q x) xs → AllByRecursion P xs → AllByRecursion Q xs
applied P Q [] f h = tt
applied P Q (x ∷ xs) f h = (f.0 h.0, applied P Q xs f.1 h.1)

pub everywhere_both : (c d : Known → Plain → Bool) (s : Attributes) (k : Known) (n : Plain) → everywhere c s k n ≡ true → everywhere d s k n ≡ true → everywhere (λ j m. c j m && d j m) s k n ≡ true
everywhere_both c d s k n h =
    where_known c s (λ j m. everywhere d s j m ≡ true → everywhere (λ i o. c i o && d i o) s j m ≡ true)
    (λ j m l claims e. let q = levels d s j m e in
    from_levels (λ i o. c i o && d i o) s j m (record {
      here = and_from (c j m) (d j m) l.here q.here;
      children = applied (λ (x : Hop × Plain). below d s j x ≡ true) (λ (x : Hop × Plain). below (λ i o. c i o && d i o) s j x ≡ true) (children m) claims q.children;
    }))
    k n h

-- the root is right
pub root_right : (s : Attributes) (n : Plain) → IsRoot s n → IsRight s nothing n
root_right s n r =
    let p = and_parts (everywhere (is_placed_at s) s nothing n) (ids_differ (rows_below n)) r.placed in
    record {
      right = everywhere_both (λ j m. is_placed_at s j m && is_drawn_at s j m) (λ j m. is_pruned_at j m && is_settled_at s j m) s nothing n (everywhere_both (is_placed_at s) (is_drawn_at s) s nothing n p.0 r.drawn) (everywhere_both is_pruned_at (is_settled_at s) s nothing n r.pruned r.settled);
      may = r.lie;
    }

pub right_root : (s : Attributes) (n : Plain) → IsRight s nothing n → ids_differ (rows_below n) ≡ true → IsRoot s n
right_root s n r d =
    record {
      lie = r.may;
      placed = and_from (everywhere (is_placed_at s) s nothing n) (ids_differ (rows_below n)) (everywhere_weaker (is_right_at s) (is_placed_at s) s (λ j m t. (right_here s j m t).0) nothing n r.right) d;
      drawn = everywhere_weaker (is_right_at s) (is_drawn_at s) s (λ j m t. (right_here s j m t).1) nothing n r.right;
      pruned = everywhere_weaker (is_right_at s) is_pruned_at s (λ j m t. (right_here s j m t).2) nothing n r.right;
      settled = everywhere_weaker (is_right_at s) (is_settled_at s) s (λ j m t. (right_here s j m t).3) nothing n r.right;
    }

-- what the type of a tree keeps of its root
pub root_of : (t : Tree) → IsRoot (arc_value t.schema) (plain t.root)
root_of t = record { lie = t.lie; placed = t.placed; drawn = t.drawn; pruned = t.pruned; settled = t.settled }
