use Rattle.std.proofs.Common.{◌≡◌, true, sym, ap, ◌∙◌, subst, arith}
use Rattle.std.specs.Arc.{arc_value}
use Rattle.be_model.specs.Lies.{row_lies}
use Rattle.be_model.proofs.Attributes.{all_at}
use Rattle.be_shape.specs.Shape.{is_stuck}
use Rattle.be_shape.specs.Spots.{known_of}
use Rattle.be_insert.proofs.AtPlaces.{all_next, all_fails, all_taken, front_stuck, settled_stuck, overfull}
use Rattle.be_insert.proofs.leaves.is_overfull.Goals as goal

pub is_stuck-requires : goal.is_stuck-requires
is_stuck-requires c =
    subst (λ r. row_lies c.args.s.now r ≡ true) (sym c.deref.ensures) (all_at (row_lies c.args.s.now) c.args.leaf.now c.loop-place.place (arc_value c.row.result.now) c.requires.lie c.row.ensures)

pub returns-then-not-is_stuck : goal.returns-then-not-is_stuck
returns-then-not-is_stuck c =
    let k = known_of c.args.k.now in
    let stuck = is_stuck c.args.s.now k in
    let x = arc_value c.row.result.now in
    overfull c.args.s.now k c.args.leaf.now (omega (arith, c.len.ensures, c.if-len-le-LEAF_ROWS.false)) (all_fails stuck c.args.leaf.now c.loop-place.place x c.row.ensures (ap stuck (sym c.deref.ensures) ∙ sym c.is_stuck.ensures ∙ c.if-not-is_stuck.true))

pub loop-place-preserved : goal.loop-place-preserved
loop-place-preserved c =
    let stuck = is_stuck c.args.s.now (known_of c.args.k.now) in
    let x = arc_value c.row.result.now in
    all_next stuck c.args.leaf.now c.loop-place.place x c.loop-place.invariant c.row.ensures (ap stuck (sym c.deref.ensures) ∙ sym c.is_stuck.ensures ∙ c.if-not-is_stuck.false)

pub loop-place-init : goal.loop-place-init
loop-place-init c = front_stuck c.args.s.now (known_of c.args.k.now) c.args.leaf.now c.first_loose-place.result c.first_loose-place.ensures.first c.requires.filled

pub returns : goal.returns
returns c =
    let k = known_of c.args.k.now in
    settled_stuck c.args.s.now k c.args.leaf.now (all_taken (is_stuck c.args.s.now k) c.args.leaf.now c.loop-place.place (omega (arith, c.loop-place-test.false, c.len-place-end.ensures)) c.loop-place.invariant)
