use Rattle.std.proofs.Common.{rules, ◌≡◌, ◌++◌, ◌∷◌, [], ◌+◌, drop, Some, sym, ap, ◌∙◌, subst}
use Rattle.std.specs.Arc.{arc_value}
use Rattle.std.specs.List.{AllByRecursion}
use Rattle.std.proofs.lemmas.List.{at_drop_all}
use Rattle.be_base.specs.declared.names.AttrNo.{AttrNo}
use Rattle.be_model.specs.declared.paths.Hop.{Hop}
use Rattle.be_model.specs.declared.paths.Hop.TheVariants.{Part, Low, High}
use Rattle.be_shape.specs.declared.nodes.Node.TheViews.{out-Node, out-Part, the_lemmas}
use Rattle.be_shape.specs.Plain.{Plain, plain, part_as, parts_as, half_as, parts_under}
use Rattle.be_shape.specs.Shape.{in_part, in_low, in_high}
use Rattle.be_shape.specs.Paths.{child, in_half}
use Rattle.be_shape.specs.Children.{known_below, roots_of}
use Rattle.be_shape.specs.NodeList.{node_at, nodes_from, nodes_in_parts, nodes_in_half}
use Rattle.be_shape.specs.Spots.{known_of}
use Rattle.be_shape.proofs.Plains.{plain_out, part_out}
use Rattle.be_plan.specs.Best.{IsAt, after_others, best_after, below_after}
use Rattle.be_plan.proofs.Places.{at_below, part_there, at_moved}
use Rattle.be_plan.proofs.Firsts.{roots_there}
use Rattle.be_plan.proofs.Seeking.{part_step, node_step, below_shut}
use Rattle.be_plan.proofs.seeks.+seeks.Goals as goal

pub seek-seek_part-requires : goal.seek-seek_part-requires
seek-seek_part-requires t c =
    let s = arc_value c.args.t.now.schema in
    let root = plain c.args.t.now.root in
    let n = plain c.args.n.now in
    let k = known_of c.args.k.now in
    let items = c.as_slice-part-items.result.now in
    let under = ap parts_under (plain_out c.args.n.now) ∙ sym (ap parts_as c.as_slice-part-items.ensures.value) in
    let each = subst (λ ps. AllByRecursion (λ (x : Hop × Plain). child x.0 n ≡ Some x.1) (roots_of ps)) under (roots_there s k n c.requires.right) in (
      search (rules, the_lemmas),
      (
        at_moved s root c.args.path.now c.loop-part.path k (known_of c.loop-part.k) n c.requires c.loop-part.invariant.0 c.loop-part.invariant.1,
        (c.are_full-full.ensures, part_there n items c.loop-part.part-index c.part-item.result c.loop-part-test.true c.part-item.is each),
      ),
    )

pub seek-loop-part-preserved : goal.seek-loop-part-preserved
seek-loop-part-preserved t c =
    let s = arc_value c.args.t.now.schema in
    let root = plain c.args.t.now.root in
    let alpha = c.args.t.now.alpha in
    let k = known_of c.args.k.now in
    let items = c.as_slice-part-items.result.now in
    let i = c.loop-part.part-index in
    let p = part_as c.part-item.result in
    let rest = nodes_in_parts s c.args.path.now k (parts_as (drop (i + 1) items)) in
    let e = c.in_ok-seek_part.ensures.best
    ∙ ap (λ q. best_after s alpha root (nodes_from s (q ++ Part p.0 ∷ []) (in_part s p.0 (known_of c.loop-part.k)) p.1) c.loop-part.best) c.loop-part.invariant.0
    ∙ ap (λ j. best_after s alpha root (nodes_from s (c.args.path.now ++ Part p.0 ∷ []) (in_part s p.0 j) p.1) c.loop-part.best) c.loop-part.invariant.1 in (
      c.in_ok-seek_part.ensures.path ∙ c.loop-part.invariant.0,
      c.in_ok-seek_part.ensures.known ∙ c.loop-part.invariant.1,
      ap (best_after s alpha root rest) e ∙ sym (part_step s alpha root c.args.path.now k items i c.part-item.result c.loop-part.best c.loop-part-test.true c.part-item.is) ∙ c.loop-part.invariant.2,
    )

pub seek_part-go_down-requires-clause-there : goal.seek_part-go_down-requires-clause-there
seek_part-go_down-requires-clause-there t c =
    subst (λ (z : AttrNo × Plain). child (Part z.0) (plain c.args.n.now) ≡ Some z.1) (part_out c.args.part.now) c.requires.there ∙ ap (λ m. Some (plain m)) (sym c.deref.ensures)

pub seek_part-seek-requires : goal.seek_part-seek-requires
seek_part-seek-requires t c =
    let s = arc_value c.args.t.now.schema in
    let root = plain c.args.t.now.root in
    let n = plain c.args.n.now in
    let k = known_of c.args.k.now in
    let p = out-Part c.args.part.now in
    let m = plain p.root.value in
    let there = subst (λ (z : AttrNo × Plain). child (Part z.0) n ≡ Some z.1) (part_out c.args.part.now) c.requires.there in
    let below = at_below s root c.args.path.now k n m (Part p.attr) c.requires.at there in
    let moved = at_moved s root (c.args.path.now ++ Part p.attr ∷ []) c.go_down.new.path (known_below s (Part p.attr) k) (known_of c.go_down.new.k) m below c.in_ok-go_down.ensures.path c.in_ok-go_down.ensures.known in
    (search (rules, the_lemmas), subst (λ x. IsAt s root c.go_down.new.path (known_of c.go_down.new.k) (plain x)) (sym c.deref-2.ensures) moved)

pub seek_half-seek-requires : goal.seek_half-seek-requires
seek_half-seek-requires t c =
    let s = arc_value c.args.t.now.schema in
    let root = plain c.args.t.now.root in
    let n = plain c.args.n.now in
    let k = known_of c.args.k.now in
    let m = plain c.in-Some.m.value in
    let there = c.requires.there ∙ ap (λ h. in_half (half_as h)) c.in-Some.is in
    let below = at_below s root c.args.path.now k n m c.args.hop c.requires.at there in
    let moved = at_moved s root (c.args.path.now ++ c.args.hop ∷ []) c.go_down.new.path (known_below s c.args.hop k) (known_of c.go_down.new.k) m below c.in_ok-go_down.ensures.path c.in_ok-go_down.ensures.known in
    (search (rules, the_lemmas), subst (λ x. IsAt s root c.go_down.new.path (known_of c.go_down.new.k) (plain x)) (sym c.deref-2.ensures) moved)

pub seek-returns-clause-best : goal.seek-returns-clause-best
seek-returns-clause-best t c =
    let s = arc_value c.args.t.now.schema in
    let root = plain c.args.t.now.root in
    let alpha = c.args.t.now.alpha in
    let k = known_of c.args.k.now in
    let path = c.args.path.now in
    let x = out-Node c.args.n.now in
    let items = c.as_slice-part-items.result.now in
    let i = c.loop-part.part-index in
    let done = sym (at_drop_all (λ ps. best_after s alpha root (nodes_in_parts s path k (parts_as ps)) c.loop-part.best) items i c.loop-part-test.false) ∙ c.loop-part.invariant.2
    ∙ ap (λ ps. best_after s alpha root (nodes_in_parts s path k (parts_as ps)) c.look.new.best) c.as_slice-part-items.ensures.value in
    let low = c.in_ok-seek_half.ensures.best ∙ ap (λ q. best_after s alpha root (nodes_in_half s (q ++ Low ∷ []) (in_low (known_of c.loop-part.k)) (half_as x.low)) c.loop-part.best) c.loop-part.invariant.0
    ∙ ap (λ j. best_after s alpha root (nodes_in_half s (path ++ Low ∷ []) (in_low j) (half_as x.low)) c.loop-part.best) c.loop-part.invariant.1 in
    let high = c.in_ok-seek_half-2.ensures.best ∙ ap (λ q. best_after s alpha root (nodes_in_half s (q ++ High ∷ []) (in_high (known_of c.seek_half.new.k)) (half_as x.high)) c.seek_half.new.best) (c.in_ok-seek_half.ensures.path ∙ c.loop-part.invariant.0)
    ∙ ap (λ j. best_after s alpha root (nodes_in_half s (path ++ High ∷ []) (in_high j) (half_as x.high)) c.seek_half.new.best) (c.in_ok-seek_half.ensures.known ∙ c.loop-part.invariant.1) in
    let first = c.in_ok-look.ensures ∙ ap (λ m. after_others s alpha root (node_at path k m) c.args.best.now) (plain_out c.args.n.now) in
    node_step s alpha root path k x.leaf (parts_as x.parts.items) (half_as x.low) (half_as x.high) c.args.best.now c.look.new.best c.loop-part.best c.seek_half.new.best c.seek_half-2.new.best first done low high
    ∙ ap (λ m. below_after s alpha root (nodes_from s path k m) c.args.best.now) (sym (plain_out c.args.n.now))

pub seek-returns-then-best-eq-MERGES-clause-best : goal.seek-returns-then-best-eq-MERGES-clause-best
seek-returns-then-best-eq-MERGES-clause-best t c =
    below_shut (arc_value c.args.t.now.schema) c.args.t.now.alpha (plain c.args.t.now.root) (nodes_from (arc_value c.args.t.now.schema) c.args.path.now (known_of c.args.k.now) (plain c.args.n.now)) c.args.best.now c.if-best-eq-MERGES.true
