use Rattle.std.proofs.Common.{◌≡◌, true, sym, ◌∙◌, subst}
use Rattle.be_shape.specs.Ranges.{is_rising}
use Rattle.be_shape.proofs.WholeRanges.{some_inside}
use Rattle.be_shape.proofs.ranges.holds_value.Goals as goal

pub returns-in-Some-values-clause-rising : goal.returns-in-Some-values-clause-rising
returns-in-Some-values-clause-rising c h =
    subst (λ r. is_rising r ≡ true) (sym c.in-Some.is) (some_inside c.in-Some.ends c.in-Some-values.values.now (sym c.has_within.ensures ∙ h))
