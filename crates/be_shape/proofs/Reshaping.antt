-- A tree of which the node at the end of a path is reshaped: what its type keeps holds, and its contents are the same.
use Rattle.std.proofs.Common.{◌≡◌, Bool, true, List, [], Option, None, Some, option_and_then, refl, sym, ap, ◌∙◌, subst}
use Rattle.std.specs.Arc.{arc_value}
use Rattle.std.proofs.lemmas.Bool.{and_parts}
use Rattle.be_model.specs.declared.paths.Hop.{Hop}
use Rattle.be_model.specs.ByIds.{ids_differ}
use Rattle.be_model.specs.Schemas.{Attributes}
use Rattle.be_shape.specs.declared.trees.Tree.{Tree}
use Rattle.be_shape.specs.Plain.{Plain, plain, rows_below, contents}
use Rattle.be_shape.specs.Shape.{NodeRange, Known, nothing, everywhere, is_placed_at}
use Rattle.be_shape.specs.NodeList.{known_along}
use Rattle.be_shape.specs.Paths.{walk, range_along}
use Rattle.be_shape.specs.Ranges.{StandsIn}
use Rattle.be_shape.specs.Right.{is_right_at, IsRight}
use Rattle.be_shape.specs.Steps.{replaced, test_at, at_end, change_node, changed_at}
use Rattle.be_shape.specs.Swaps.{node_or}
use Rattle.be_shape.proofs.OneLevel.{right_here}
use Rattle.be_shape.proofs.NodeSteps.{everywhere_weaker}
use Rattle.be_shape.proofs.Contents.{still_differ, permuted}
use Rattle.be_shape.proofs.RootPut.{IsRoot}
use Rattle.be_shape.proofs.Roots.{root_right, right_root, root_of}
use Rattle.be_shape.proofs.Replacements.{Reshaped, right_along, replaced_right, range_known, swapped}

pub record SameRows (s : Attributes) (n w : Plain) : Type 0 where
  pub root : IsRoot s w
  pub contents : contents w ≡ contents n

-- a node of a tree is right
pub right_at : (t : Tree) (hops : List Hop) (m : Plain) → walk hops (plain t.root) ≡ Some m → IsRight (arc_value t.schema) (known_along (arc_value t.schema) hops nothing) m
right_at t hops m h = right_along (arc_value t.schema) hops nothing (plain t.root) m (root_right (arc_value t.schema) (plain t.root) (root_of t)) h

pub root_reshaped : (t : Tree) (w : Plain) → Reshaped (arc_value t.schema) nothing (plain t.root) w → SameRows (arc_value t.schema) (plain t.root) w
root_reshaped t w d =
    let s = arc_value t.schema in
    let n = plain t.root in
    let differ = (and_parts (everywhere (is_placed_at s) s nothing n) (ids_differ (rows_below n)) t.placed).1 in
    record {
      root = right_root s w d.right (still_differ (rows_below n) (rows_below w) d.same differ);
      contents = sym (permuted (rows_below n) (rows_below w) d.same differ);
    }

pub reshaped_at : (t : Tree) (hops : List Hop) (m o w : Plain) → walk hops (plain t.root) ≡ Some m → Reshaped (arc_value t.schema) (known_along (arc_value t.schema) hops nothing) m o → w ≡ replaced hops o (plain t.root)
    → SameRows (arc_value t.schema) (plain t.root) w
reshaped_at t hops m o w h d e =
    let s = arc_value t.schema in
    let n = plain t.root in
    root_reshaped t w (subst (Reshaped s nothing n) (sym e) (replaced_right s hops nothing n m o (root_right s n (root_of t)) h d))

-- a right root stands in no range
pub stands_in : (s : Attributes) (n : Plain) → IsRight s nothing n → StandsIn s None n
stands_in s n r =
    record {
      used = [];
      placed = everywhere_weaker (is_right_at s) (is_placed_at s) s (λ j m t. (right_here s j m t).0) nothing n r.right;
      bounded = refl;
      rising = refl;
    }

-- what a test at the end of a path says
pub record Ended (test : Known → Plain → Bool) (s : Attributes) (hops : List Hop) (n : Plain) : Type 0 where
  pub here : Plain
  pub there : walk hops n ≡ Some here
  pub passes : test (known_along s hops nothing) here ≡ true

pub ended : (test : Known → Plain → Bool) (s : Attributes) (hops : List Hop) (n : Plain) → at_end test s hops n ≡ true → Ended test s hops n
ended test s hops n h = by_node (walk hops n) refl h
  where
    by_node : (o : Option Plain) → walk hops n ≡ o → test_at test (known_along s hops nothing) o ≡ true → Ended test s hops n
    by_node None e t = absurd (cc)
    by_node (Some m) e t = record { here = m; there = e; passes = t }

pub ends_at : (test : Known → Plain → Bool) (s : Attributes) (hops : List Hop) (n m : Plain) → walk hops n ≡ Some m → at_end test s hops n ≡ test (known_along s hops nothing) m
ends_at test s hops n m h = ap (test_at test (known_along s hops nothing)) h

pub changed_is : (change : Known → Plain → Plain) (s : Attributes) (hops : List Hop) (n m : Plain) → walk hops n ≡ Some m → changed_at change s hops n ≡ replaced hops (change (known_along s hops nothing) m) n
changed_is change s hops n m h = ap (λ o. change_node change (known_along s hops nothing) hops o n) h

-- the range of a node that is there is that which is known of it
pub range_there : (s : Attributes) (hops : List Hop) (n m : Plain) (range : NodeRange) → walk hops n ≡ Some m → range ≡ option_and_then (λ (x : Plain). range_along s hops None) (walk hops n) → range ≡ (known_along s hops nothing).range
range_there s hops n m range h e = e ∙ ap (option_and_then (λ (x : Plain). range_along s hops None)) h ∙ sym (range_known s hops nothing)

-- a node taken out of its place
pub taken_out : (hops : List Hop) (n m b x : Plain) → walk hops n ≡ Some m → x ≡ node_or b (walk hops n) → x ≡ m
taken_out hops n m b x h e = e ∙ ap (node_or b) h

-- and another put there, or the same again
pub put_back : (hops : List Hop) (n m b o w x : Plain) → walk hops n ≡ Some m → w ≡ replaced hops b n → x ≡ replaced hops o w → x ≡ replaced hops o n
put_back hops n m b o w x h e f = f ∙ ap (replaced hops o) e ∙ (swapped hops n m b h).again o

pub put_own : (hops : List Hop) (n m b o w x : Plain) → walk hops n ≡ Some m → w ≡ replaced hops b n → x ≡ replaced hops o w → o ≡ m → x ≡ n
put_own hops n m b o w x h e f same = put_back hops n m b o w x h e f ∙ ap (λ y. replaced hops y n) same ∙ (swapped hops n m b h).own
