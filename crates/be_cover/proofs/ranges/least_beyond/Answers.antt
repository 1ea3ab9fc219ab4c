use Rattle.std.proofs.Common.{pos, is_some, sym, ap, ◌∙◌}
use Rattle.be_cover.proofs.Least.{walk_ends, walk_goes_on}
use Rattle.be_cover.proofs.ranges.least_beyond.Goals as goal

pub returns-then-is_some : goal.returns-then-is_some
returns-then-is_some c =
    let found = sym (ap is_some c.least_outside-least.ensures) ∙ sym c.is_some.ensures ∙ c.if-is_some.true in
    c.least_outside-least.ensures
    ∙ sym (walk_ends c.args.others.now c.args.ranges.now c.loop-range.range-index (pos 0, pos 0) c.loop-range-test.true found)
    ∙ c.loop-range.invariant

pub loop-range-preserved : goal.loop-range-preserved
loop-range-preserved c =
    let none = sym (ap is_some c.least_outside-least.ensures) ∙ sym c.is_some.ensures ∙ c.if-is_some.false in
    sym (walk_goes_on c.args.others.now c.args.ranges.now c.loop-range.range-index (pos 0, pos 0) c.loop-range-test.true none)
    ∙ c.loop-range.invariant
