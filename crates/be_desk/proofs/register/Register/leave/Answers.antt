-- Each turn takes out one row of the session.
use Rattle.std.proofs.Common.{◌≡◌, ◌∙◌, slice_get, refl, arith}
use Rattle.std.specs.Arc.{arc_value}
use Rattle.be_change.specs.Entries.{row_in}
use Rattle.be_change.specs.History.{live}
use Rattle.be_copy.proofs.Firsts.{lent_is}
use Rattle.be_copy.proofs.Kept.{kept_map}
use Rattle.be_desk.proofs.Leaving.{leave_begins, leave_all, next_of, leave_some, leave_goes, leave_ends}
use Rattle.be_desk.proofs.register.Register.leave.Goals as goal

pub loop-id-init : goal.loop-id-init
loop-id-init c =
    let h = c.args.list.now.list in
    leave_begins c.args.self.now h c.args.session.0 (kept_map h (live h) c.len.result c.args.list.now.spare refl c.len.ensures.len c.len.ensures.most c.len.ensures.ids) c.requires

pub overflow_sub-self : goal.overflow_sub-self
overflow_sub-self c =
    let leaving = c.loop-id.invariant in
    let list = c.args.list.now.list in
    leave_some c.loop-id.self list c.args.session.0 leaving.0 c.in-Some.id leaving.1 (next_of c.loop-id.self list c.args.session.0 leaving.0 c.in-Some.id leaving.1 c.in-Some.ensures.1)

pub loop-id-preserved : goal.loop-id-preserved
loop-id-preserved c =
    let leaving = c.loop-id.invariant in
    let r = c.loop-id.self in
    let list = c.args.list.now.list in
    let next = next_of r list c.args.session.0 leaving.0 c.in-Some.id leaving.1 c.in-Some.ensures.1 in
    let lent : arc_value c.in-Some-row.row.now ≡ next.row = lent_is (λ x. arc_value x.now) c.row.result (row_in (slice_get list c.in-Some.id)) c.in-Some-row.row next.row c.in-Some-row.is c.row.ensures next.listed in
    leave_goes r _ list c.args.session.0 leaving.0 c.in-Some.id c.deref.result.now leaving.1 next (c.deref.ensures ∙ lent) c.drop_row.ensures.removed (omega (arith, leave_some r list c.args.session.0 leaving.0 c.in-Some.id leaving.1 next))

pub returns : goal.returns
returns c = λ n. leave_ends c.loop-id.self c.args.list.now.list c.args.session.0 c.loop-id.invariant c.in_default.ensures

pub returns-then-has_only : goal.returns-then-has_only
returns-then-has_only c =
    let h = c.args.list.now.list in
    λ n. leave_all _ h c.args.session (kept_map h (live h) c.len.result c.args.list.now.spare refl c.len.ensures.len c.len.ensures.most c.len.ensures.ids) c.clear.ensures refl (c.if-has_only.ensures (live h) c.requires.filed)
