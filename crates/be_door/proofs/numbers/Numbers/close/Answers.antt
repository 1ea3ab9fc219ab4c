use Rattle.std.proofs.Common.{rules, ◌<◌, ◌∙◌, sym, ap, subst}
use Rattle.be_door.proofs.Keeps.{closed}
use Rattle.be_door.proofs.numbers.Numbers.close.Goals as goal

pub returns : goal.returns
returns c = λ met. let is = c.home.view_is in
    sym (ap (λ h. h.drawn) is)
    ∙ closed c.self.inside.table.shared.key.0 c.self.inside.table.shared.key.1 c.home.inside.seat.id c.home.inside.seat.me.0 _ _ c.close_with.ensures.values.2 (search rules) (subst (λ k. 0 < k) (sym (ap (λ h. h.ended) is)) met)
    ∙ ap (λ n. n.links) c.self.view_is
