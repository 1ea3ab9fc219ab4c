use Rattle.std.proofs.Common.{◌≡◌, ℕ, MatchOption, Option, Some, None, sym, subst}
use Rattle.std.specs.Arc.{arc_value}
use Rattle.be_model.specs.declared.changes.Row.{Row}
use Rattle.be_change.specs.History.{live}
use Rattle.be_desk.proofs.Named.{named_is}
use Rattle.be_desk.proofs.register.Register.named.Goals as goal

pub returns : goal.returns
returns c =
    subst (λ (o : Option (ℕ × Row)). MatchOption c.find.result (o ≡ None) (λ r. o ≡ Some (r.0, arc_value r.1.now))) (sym (named_is c.args.name.now (live c.args.list.now.list))) c.find.ensures
