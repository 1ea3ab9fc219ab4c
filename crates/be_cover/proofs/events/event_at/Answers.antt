use Rattle.std.proofs.Common.{◌<◌, ◌++◌, [], length, ap, ◌∙◌, arith}
use Rattle.std.specs.List.{cons_option}
use Rattle.be_model.specs.Schemas.{numbered}
use Rattle.be_cover.specs.Covering.{chosen, assigned}
use Rattle.be_cover.proofs.Assigning.{far_next}
use Rattle.be_cover.proofs.events.event_at.Goals as goal

pub loop-number-preserved : goal.loop-number-preserved
loop-number-preserved c =
    let s = c.args.s.now in
    let n = c.loop-number.number in
    let below : n < length s = let e = c.count-number-end.ensures.count in let t = c.loop-number-test.true in omega arith in
    far_next (chosen s c.args.q.now c.args.r.now c.args.by) n (length s) c.loop-number.event c.put_value.new.event below
    (c.in_ok-put_value.ensures ∙ ap (λ v. c.loop-number.event ++ cons_option (assigned (numbered n) v) []) c.in_ok-v.ensures) c.loop-number.invariant
