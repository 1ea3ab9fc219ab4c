use Rattle.std.proofs.Common.{◌+◌, sym, ◌∙◌, arith}
use Rattle.std.proofs.lemmas.Bool.{lt-leb}
use Rattle.be_score.specs.Scores.{weight}
use Rattle.be_plan.proofs.Gains.{no_weight}
use Rattle.be_plan.proofs.shifts.gains.Goals as goal

pub returns-else-has_attr : goal.returns-else-has_attr
returns-else-has_attr c =
    λ from e. c.if-has_attr.false ∙ (let w = no_weight c.args.s.now c.args.to c.args.row.now (sym c.has_attr.ensures ∙ c.if-has_attr.false) in sym (lt-leb (from + 500) (weight c.args.s.now c.args.to c.args.row.now) (omega arith)))
