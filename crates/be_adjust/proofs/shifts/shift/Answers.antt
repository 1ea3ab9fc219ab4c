use Rattle.std.proofs.Common.{sym, subst}
use Rattle.std.specs.Arc.{arc_value}
use Rattle.std.proofs.lemmas.Bool.{and_parts}
use Rattle.be_model.specs.ByIds.{ids_differ}
use Rattle.be_shape.specs.Plain.{plain, rows_below}
use Rattle.be_shape.specs.Shape.{nothing, everywhere, is_placed_at}
use Rattle.be_shape.specs.Right.{IsRight}
use Rattle.be_shape.proofs.Roots.{root_right, root_of}
use Rattle.be_shape.proofs.Reshaping.{root_reshaped}
use Rattle.be_adjust.proofs.shifts.shift.Goals as goal

pub shift_at-requires-clause-right : goal.shift_at-requires-clause-right
shift_at-requires-clause-right c =
    let t = c.args.t.now in
    subst (λ s. IsRight s nothing (plain t.root)) (sym c.deref-2.ensures) (root_right (arc_value t.schema) (plain t.root) (root_of t))

pub shift_at-requires-clause-differ : goal.shift_at-requires-clause-differ
shift_at-requires-clause-differ c =
    let t = c.args.t.now in
    let s = arc_value t.schema in
    (and_parts (everywhere (is_placed_at s) s nothing (plain t.root)) (ids_differ (rows_below (plain t.root))) t.placed).1

pub invariant_of-t : goal.invariant_of-t
invariant_of-t c =
    let t = c.args.t.now in
    let w = plain c.shift_at.new.root in
    let k = root_reshaped t w (record { right = subst (λ s. IsRight s nothing w) c.deref-2.ensures c.shift_at.ensures.right; same = c.shift_at.ensures.rows }) in
    record { alpha_is_share = t.alpha_is_share; lie = k.root.lie; placed = k.root.placed; drawn = k.root.drawn; pruned = k.root.pruned; settled = k.root.settled }

pub returns-in-Ok-shift_at-clause-contents : goal.returns-in-Ok-shift_at-clause-contents
returns-in-Ok-shift_at-clause-contents c =
    let t = c.args.t.now in
    let w = plain c.shift_at.new.root in
    let k = root_reshaped t w (record { right = subst (λ s. IsRight s nothing w) c.deref-2.ensures c.shift_at.ensures.right; same = c.shift_at.ensures.rows }) in
    k.contents

pub returns-in-Err-clause-contents : goal.returns-in-Err-clause-contents
returns-in-Err-clause-contents c =
    let t = c.args.t.now in
    let w = plain c.shift_at.new.root in
    let k = root_reshaped t w (record { right = subst (λ s. IsRight s nothing w) c.deref-2.ensures c.shift_at.ensures.right; same = c.shift_at.ensures.rows }) in
    k.contents
