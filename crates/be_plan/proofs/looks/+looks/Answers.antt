use Rattle.std.proofs.Common.{rules, ◌≡◌, ◌++◌, ◌∷◌, [], Some, sym, ap, ◌∙◌, subst}
use Rattle.std.specs.Arc.{arc_value}
use Rattle.std.specs.List.{AllByRecursion}
use Rattle.be_base.specs.declared.names.AttrNo.{AttrNo}
use Rattle.be_model.specs.declared.paths.Hop.{Hop}
use Rattle.be_model.specs.declared.paths.Hop.TheVariants.{Part}
use Rattle.be_model.specs.declared.paths.Step.TheVariants.{Merge}
use Rattle.be_shape.specs.declared.nodes.Node.TheViews.{out-Part, the_lemmas}
use Rattle.be_shape.specs.Plain.{Plain, plain, parts_as, half_as, parts_under}
use Rattle.be_shape.specs.Paths.{child, in_half}
use Rattle.be_shape.specs.Children.{known_below, roots_of}
use Rattle.be_shape.specs.Spots.{known_of}
use Rattle.be_shape.proofs.Plains.{plain_out, part_out}
use Rattle.be_plan.specs.Best.{IsAt}
use Rattle.be_plan.proofs.Places.{at_below, part_there, at_moved}
use Rattle.be_plan.proofs.Firsts.{roots_there}
use Rattle.be_plan.proofs.Looking.{still_stands}
use Rattle.be_plan.proofs.looks.+looks.Goals as goal

pub look_from-look_in_part-requires : goal.look_from-look_in_part-requires
look_from-look_in_part-requires t c =
    let s = arc_value c.args.t.now.schema in
    let root = plain c.args.t.now.root in
    let n = plain c.args.n.now in
    let k = known_of c.args.k.now in
    let items = c.as_slice-part-items.result.now in
    let under = ap parts_under (plain_out c.args.n.now) ∙ sym (ap parts_as c.as_slice-part-items.ensures.value) in
    let each = subst (λ ps. AllByRecursion (λ (x : Hop × Plain). child x.0 n ≡ Some x.1) (roots_of ps)) under (roots_there s k n c.requires.at.right) in (
      search (rules, the_lemmas),
      (
        at_moved s root c.args.path.now c.loop-part.path k (known_of c.loop-part.k) n c.requires.at c.loop-part.invariant.0 c.loop-part.invariant.1,
        (c.are_full-full.ensures, (part_there n items c.loop-part.part-index c.part-item.result c.loop-part-test.true c.part-item.is each, c.loop-part.invariant.2)),
      ),
    )

pub look_in_part-go_down-requires-clause-there : goal.look_in_part-go_down-requires-clause-there
look_in_part-go_down-requires-clause-there t c =
    subst (λ (z : AttrNo × Plain). child (Part z.0) (plain c.args.n.now) ≡ Some z.1) (part_out c.args.part.now) c.requires.there ∙ ap (λ m. Some (plain m)) (sym c.deref.ensures)

pub look_in_part-look_from-requires : goal.look_in_part-look_from-requires
look_in_part-look_from-requires t c =
    let s = arc_value c.args.t.now.schema in
    let root = plain c.args.t.now.root in
    let n = plain c.args.n.now in
    let k = known_of c.args.k.now in
    let p = out-Part c.args.part.now in
    let m = plain p.root.value in
    let there = subst (λ (z : AttrNo × Plain). child (Part z.0) n ≡ Some z.1) (part_out c.args.part.now) c.requires.there in
    let below = at_below s root c.args.path.now k n m (Part p.attr) c.requires.at there in
    let moved = at_moved s root (c.args.path.now ++ Part p.attr ∷ []) c.go_down.new.path (known_below s (Part p.attr) k) (known_of c.go_down.new.k) m below c.in_ok-go_down.ensures.path c.in_ok-go_down.ensures.known in (
      search (rules, the_lemmas),
      (
        subst (λ x. IsAt s root c.go_down.new.path (known_of c.go_down.new.k) (plain x)) (sym c.deref-2.ensures) moved,
        still_stands s root 0 (Merge (c.args.path.now ++ Part p.attr ∷ []) ∷ []) c.args.slice.now.best c.go_down.new.best c.in_ok-go_down.ensures.best c.requires.stands,
      ),
    )

pub look_in_half-look_from-requires : goal.look_in_half-look_from-requires
look_in_half-look_from-requires t c =
    let s = arc_value c.args.t.now.schema in
    let root = plain c.args.t.now.root in
    let n = plain c.args.n.now in
    let k = known_of c.args.k.now in
    let m = plain c.in-Some.m.value in
    let there = c.requires.there ∙ ap (λ h. in_half (half_as h)) c.in-Some.is in
    let below = at_below s root c.args.path.now k n m c.args.hop c.requires.at there in
    let moved = at_moved s root (c.args.path.now ++ c.args.hop ∷ []) c.go_down.new.path (known_below s c.args.hop k) (known_of c.go_down.new.k) m below c.in_ok-go_down.ensures.path c.in_ok-go_down.ensures.known in (
      search (rules, the_lemmas),
      (
        subst (λ x. IsAt s root c.go_down.new.path (known_of c.go_down.new.k) (plain x)) (sym c.deref-2.ensures) moved,
        still_stands s root 0 (Merge (c.args.path.now ++ c.args.hop ∷ []) ∷ []) c.args.slice.now.best c.go_down.new.best c.in_ok-go_down.ensures.best c.requires.stands,
      ),
    )
