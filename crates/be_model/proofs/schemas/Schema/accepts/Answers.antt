use Rattle.std.proofs.Common.{sym, ◌∙◌}
use Rattle.be_model.proofs.Attributes.{IsSchema-push, takes-from_IsSchema}
use Rattle.be_model.proofs.schemas.Schema.accepts.Goals as goal

pub returns : goal.returns
returns c =
    (λ h. IsSchema-push c.args.self.now c.args.name.now c.args.domain.now (rw (← c.self.view_is) c.self.invariant.0) (sym c.takes.ensures ∙ h), λ f. c.takes.ensures ∙ takes-from_IsSchema c.args.self.now c.args.name.now c.args.domain.now f)
