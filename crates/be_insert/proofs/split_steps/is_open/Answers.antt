use Rattle.std.proofs.Common.{not, ap, ◌∙◌, sym}
use Rattle.be_shape.specs.Children.{is_open}
use Rattle.be_shape.specs.Shape.{nothing}
use Rattle.be_shape.specs.NodeList.{known_along}
use Rattle.be_insert.proofs.SplitOff.{open_along}
use Rattle.be_insert.proofs.split_steps.is_open.Goals as goal

pub returns-in-Part : goal.returns-in-Part
returns-in-Part c =
    λ s e. ap not c.is_used_on.ensures ∙ open_along s c.args.hops.now c.in-Part.a ∙ ap (λ h. is_open h (known_along s c.args.hops.now nothing)) (sym c.in-Part.is)
