use Rattle.std.proofs.Common.{sym, ap, ◌∙◌}
use Rattle.be_shape.specs.Listed.{any_listed}
use Rattle.be_shape.specs.Plain.{parts_as}
use Rattle.be_shape.specs.Shape.{attrs_of}
use Rattle.be_plan.specs.Shifts.{gains_among}
use Rattle.be_plan.proofs.movers.gains_on_any.Goals as goal

pub returns-in-One : goal.returns-in-One
returns-in-One c = let m = c.args.m.now in c.gains_on_one.ensures ∙ sym (ap (any_listed (gains_among m.s.now (attrs_of (parts_as m.parts.now)) m.from m.row.now)) c.in-One.is)

pub returns-in-Two : goal.returns-in-Two
returns-in-Two c = let m = c.args.m.now in c.gains_on_two.ensures ∙ sym (ap (any_listed (gains_among m.s.now (attrs_of (parts_as m.parts.now)) m.from m.row.now)) c.in-Two.is)

pub returns-in-Three : goal.returns-in-Three
returns-in-Three c = let m = c.args.m.now in c.gains_on_three.ensures ∙ sym (ap (any_listed (gains_among m.s.now (attrs_of (parts_as m.parts.now)) m.from m.row.now)) c.in-Three.is)
