use Rattle.std.proofs.Common.{take, Some, sym, ap, ◌∙◌, subst, arith}
use Rattle.std.proofs.lemmas.List.{length-take-le}
use Rattle.std.specs.Arc.{arc_value}
use Rattle.std.specs.List.{list_all}
use Rattle.be_model.specs.declared.paths.Step.TheVariants.{Shift}
use Rattle.be_shape.specs.declared.nodes.Node.TheViews.{out-Node}
use Rattle.be_shape.specs.Plain.{plain, leaf_of}
use Rattle.be_shape.specs.Paths.{walk}
use Rattle.be_shape.specs.Shape.{may_stand}
use Rattle.be_shape.specs.Spots.{known_of}
use Rattle.be_shape.specs.Steps.{at_end, can_shift}
use Rattle.be_shape.proofs.Plains.{plain_out}
use Rattle.be_plan.specs.declared.bests.Best.{Best}
use Rattle.be_plan.specs.Looks.{Stands}
use Rattle.be_plan.proofs.Looking.{better_stands, leaf_may}
use Rattle.be_plan.proofs.looks.look_at_leavers.Goals as goal

pub leaver_above-requires-clause-leads : goal.leaver_above-requires-clause-leads
leaver_above-requires-clause-leads c =
    (plain c.args.n.now, ap (λ hops. walk hops (plain c.args.t.now.root)) c.hops-way.ensures ∙ c.requires.at.there, ap leaf_of (plain_out c.args.n.now))

pub leaver_above-requires-clause-may : goal.leaver_above-requires-clause-may
leaver_above-requires-clause-may c =
    let s = arc_value c.args.t.now.schema in
    ap (λ q. list_all (may_stand q) (out-Node c.args.n.now).leaf) c.deref.ensures ∙ ap (λ m. list_all (may_stand s) (leaf_of m)) (sym (plain_out c.args.n.now)) ∙ leaf_may s (known_of c.args.k.now) (plain c.args.n.now) c.requires.at.right

pub slice_bounds-path_of-end : goal.slice_bounds-path_of-end
slice_bounds-path_of-end c =
    sym (length-take-le c.in-Some.leaver.depth c.hops-way.result.now (omega (arith, c.in-Some.ensures.within)))

pub returns : goal.returns
returns c =
    let s = arc_value c.args.t.now.schema in
    let root = plain c.args.t.now.root in
    let x = c.in-Some.leaver in
    let here = ap (λ p. at_end (λ k m. can_shift x.from x.to x.id.0 m) s p root) c.in_ok-above.ensures
    ∙ ap (λ q. at_end (λ k m. can_shift x.from x.to x.id.0 m) q (take x.depth c.hops-way.result.now) root) (sym c.deref.ensures) ∙ c.in-Some.ensures.can in
    subst (λ (b : Best). Stands s root b.step) (sym c.put.ensures) (better_stands s root 1 (Some (Shift c.in_ok-above.above x.from x.to x.id)) c.args.best.now here c.requires.stands)
