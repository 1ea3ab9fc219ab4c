use Rattle.std.proofs.Common.{rules, ◌≡◌, sym, ◌∙◌, subst}
use Rattle.be_desk.specs.Desks.{IsOpened}
use Rattle.be_desk.proofs.desk.Desk.reshape.Goals as goal

pub invariant_of-self-2 : goal.invariant_of-self-2
invariant_of-self-2 g c =
    let i = c.self.invariant in
    let same : c.publish.new.self.list ≡ c.self.inside.press.list = search rules in
    (i.0 ∙ sym same, search rules, i.2, i.3, subst (IsOpened g.J.Naming.opening) (sym same) i.4)
