use Rattle.std.proofs.Common.{sym}
use Rattle.be_model.proofs.NamePlaces.{no_place}
use Rattle.be_model.proofs.name_lists.Names.place.Goals as goal

pub returns-in-Err-clause-exact : goal.returns-in-Err-clause-exact
returns-in-Err-clause-exact c =
    sym (no_place c.args.self.now c.args.text.now (rw (← c.self.view_is) c.self.invariant.form) (λ h. let k = c.in-Err.ensures.name.1 h in cc))
