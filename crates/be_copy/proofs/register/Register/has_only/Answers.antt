use Rattle.be_copy.proofs.Filed.{only_wanted}
use Rattle.be_copy.proofs.register.Register.has_only.Goals as goal

pub returns-in-Of : goal.returns-in-Of
returns-in-Of c = only_wanted c.has_only.result c.args.self.now c.in-Of.session c.args.wanted c.in-Of.is c.has_only.ensures
