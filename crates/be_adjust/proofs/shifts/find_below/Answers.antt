use Rattle.std.proofs.Common.{sym}
use Rattle.std.proofs.lemmas.Bool.{ne_eqb}
use Rattle.std.specs.Arc.{arc_value}
use Rattle.be_shape.specs.Plain.{plain}
use Rattle.be_adjust.proofs.Shifted.{shift_found}
use Rattle.be_adjust.proofs.shifts.find_below.Goals as goal

pub returns-in-Some-Some : goal.returns-in-Some-Some
returns-in-Some-Some c =
    shift_found (λ r. arc_value r.now) c.args.from c.args.to c.args.id.0 (plain c.args.n.now) (plain c.in-Some-Some.below.now) (plain c.in-Some-Some.field-0-1.now) c.find_in_node.result (ne_eqb c.args.from.0 c.args.to.0 c.if-from-to.false)
    (sym c.in-Some-Some.ensures) (sym c.in-Some-Some.ensures') c.find_in_node.ensures
