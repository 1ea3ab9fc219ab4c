use Rattle.std.proofs.Common.{◌+◌, ◌-◌, ◌*◌, ◌/◌, ◌≤◌, sym, arith}
use Rattle.std.proofs.lemmas.Bool.{lt-leb}
use Rattle.be_base.specs.declared.limits.TheConstants.{SHIFT_GAIN}
use Rattle.be_plan.proofs.Thousandths.{too_wide}
use Rattle.be_plan.proofs.shares.is_gain.Goals as goal

pub returns-then-other : goal.returns-then-other
returns-then-other c =
    let own = c.args.own in
    let other = c.args.other in
    let l : (SHIFT_GAIN + 1) * other.domain ≤ 1000 * other.values = c.if-other.true in
    let w = too_wide other.values other.domain other.there l in
    sym (lt-leb ((1000 - 1000 * own.values / own.domain) + SHIFT_GAIN) (1000 - 1000 * other.values / other.domain) (omega (arith, w)))
