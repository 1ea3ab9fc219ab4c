use Rattle.std.proofs.Common.{◌<◌, length, sym, ◌∙◌, arith}
use Rattle.be_cover.specs.Covering.{tells}
use Rattle.be_cover.proofs.Assigning.{find_later}
use Rattle.be_cover.proofs.events.telling.Goals as goal

pub loop-number-preserved : goal.loop-number-preserved
loop-number-preserved c =
    let s = c.args.s.now in
    let below : c.loop-number.number < length s = let e = c.count-number-end.ensures.count in let t = c.loop-number-test.true in omega arith in
    sym (find_later (tells s c.args.q.now c.args.r.now) c.loop-number.number (length s) below (sym c.in_ok-tells.ensures ∙ c.if-branch.false)) ∙ c.loop-number.invariant
