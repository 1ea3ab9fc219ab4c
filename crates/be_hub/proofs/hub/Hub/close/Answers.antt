use Rattle.std.proofs.Common.{sym, subst}
use Rattle.std.specs.List.{All}
use Rattle.be_hub.specs.Closing.{KeepsAll}
use Rattle.be_hub.proofs.hub.Hub.close.Goals as goal

pub returns-in-Ok-clause-keeps : goal.returns-in-Ok-clause-keeps
returns-in-Ok-clause-keeps g c = subst (λ h. All (KeepsAll g.J.BoxNames.boxes h) c.args.seats.items) (sym c.into_log.ensures) c.in-Ok.ensures.keeps
