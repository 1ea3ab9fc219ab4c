use Rattle.std.proofs.Common.{◌≡◌, Some, None, option_map, sym, ap, ◌∙◌, subst}
use Rattle.std.specs.Arc.{arc_value}
use Rattle.be_base.specs.declared.names.AttrNo.{AttrNo}
use Rattle.be_base.specs.declared.names.Id.{Id}
use Rattle.be_model.specs.declared.paths.Step.TheVariants.{Shift}
use Rattle.be_shape.specs.Plain.{plain, parts_under}
use Rattle.be_shape.specs.Shape.{attrs_of}
use Rattle.be_shape.specs.Spots.{known_of}
use Rattle.be_plan.specs.Best.{better}
use Rattle.be_plan.specs.Shifts.{first_shift, IsRightSomewhere}
use Rattle.be_plan.proofs.Firsts.{first_shift_is}
use Rattle.be_plan.proofs.Seeking.{closed}
use Rattle.be_plan.proofs.seeks.look_at_shift.Goals as goal

pub returns-then-best-le-SHIFTS : goal.returns-then-best-le-SHIFTS
returns-then-best-le-SHIFTS c = closed 1 _ c.args.best.now c.if-best-le-SHIFTS.true

pub shift_at-requires : goal.shift_at-requires
shift_at-requires c =
    subst (λ s. IsRightSomewhere s (plain c.args.n.now)) (sym c.deref.ensures) (known_of c.args.k.now, c.requires.right)

pub returns-in_default : goal.returns-in_default
returns-in_default c =
    let s = arc_value c.args.t.now.schema in
    let n = plain c.args.n.now in
    let none : first_shift s (attrs_of (parts_under n)) (parts_under n) ≡ None = ap (λ q. first_shift q (attrs_of (parts_under n)) (parts_under n)) (sym c.deref.ensures) ∙ sym c.shift_at.ensures ∙ c.in_default.is in
    sym (ap (λ o. better 1 o c.args.best.now) (first_shift_is s (plain c.args.t.now.root) c.args.path.now (known_of c.args.k.now) n c.requires ∙ ap (option_map (λ (m : AttrNo × Id × AttrNo). Shift c.args.path.now m.0 m.2 m.1)) none))

pub returns : goal.returns
returns c =
    let s = arc_value c.args.t.now.schema in
    let n = plain c.args.n.now in
    let best = c.args.best.now in
    let m : AttrNo × Id × AttrNo = (c.in-Some.from, c.in-Some.id, c.in-Some.to) in
    let some : first_shift s (attrs_of (parts_under n)) (parts_under n) ≡ Some m = ap (λ q. first_shift q (attrs_of (parts_under n)) (parts_under n)) (sym c.deref.ensures) ∙ sym c.in-Some.ensures in
    c.put.ensures ∙ ap (λ p. better 1 (Some (Shift p c.in-Some.from c.in-Some.to c.in-Some.id)) best) c.in_ok-path.ensures
    ∙ sym (ap (λ o. better 1 o best) (first_shift_is s (plain c.args.t.now.root) c.args.path.now (known_of c.args.k.now) n c.requires ∙ ap (option_map (λ (x : AttrNo × Id × AttrNo). Shift c.args.path.now x.0 x.2 x.1)) some))
