use Rattle.be_demand.proofs.Refused.{refused_shown}
use Rattle.be_demand.proofs.counting.show_name.Goals as goal

pub returns-in-Refused : goal.returns-in-Refused
returns-in-Refused c = refused_shown c.args.request.now c.in-Refused.refusal c.in-Refused.is c.show_refused.ensures
