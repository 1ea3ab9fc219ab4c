use Rattle.std.proofs.Common.{ap₂, ◌∙◌}
use Rattle.std.specs.Arc.{arc_value}
use Rattle.be_shape.specs.declared.small_sets.Told.{Told}
use Rattle.be_shape.specs.Glances.{glance}
use Rattle.be_shape.specs.Lanes.{Few}
use Rattle.be_shape.specs.Told.{extent_of}
use Rattle.be_shape.proofs.HeldRows.{of_row}
use Rattle.be_shape.proofs.places.Kept.told.Goals as goal

pub returns-clause-tests : goal.returns-clause-tests
returns-clause-tests c =
    let held = c.self.inside.held in
    let row = arc_value c.row.result.now in
    let t = (of_row held row c.self.invariant c.row.ensures).1 in
    ap₂ (λ (few : Few) (told : Told). glance few.tests (extent_of told)) c.tests.ensures c.told.ensures ∙ t.tests

pub returns-clause-form : goal.returns-clause-form
returns-clause-form c = (of_row c.self.inside.held (arc_value c.row.result.now) c.self.invariant c.row.ensures).1.form
