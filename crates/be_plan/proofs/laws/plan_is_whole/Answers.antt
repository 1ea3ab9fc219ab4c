use Rattle.std.specs.Arc.{arc_value}
use Rattle.be_shape.specs.Plain.{plain}
use Rattle.be_plan.proofs.Law.{plan_stands, nothing_left}
use Rattle.be_plan.proofs.laws.plan_is_whole.Goals as goal

pub returns-clause-stands : goal.returns-clause-stands
returns-clause-stands c = let t = c.args.t.now in plan_stands (arc_value t.schema) t.alpha (plain t.root)

pub returns-clause-nothing : goal.returns-clause-nothing
returns-clause-nothing c = let t = c.args.t.now in nothing_left (arc_value t.schema) t.alpha (plain t.root)
