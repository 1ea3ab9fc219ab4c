use Rattle.std.proofs.Common.{rules, ◌≡◌, ◌∙◌, ap, arith}
use Rattle.be_door.specs.Numbers.{ends}
use Rattle.be_door.proofs.Keeps.{draw}
use Rattle.be_door.proofs.numbers.Numbers.draw.Goals as goal

pub fetch_add-number-requires : goal.fetch_add-number-requires
fetch_add-number-requires c =
    let me = c.turn.invariant.0 in
    let share : c.turn.inside.seat.me.0.share ≡ 1 = ap (λ m. m.0.share) me in
    let past : c.turn.inside.seat.me.0.past ≡ 0 = ap (λ m. m.0.past) me ∙ ap ends (ap (λ t. t.ended) c.turn.view_is ∙ c.requires.1) in
    (search rules, search rules, draw c.self.inside.table.shared.key.0 c.self.inside.table.shared.key.1 _ _ _ (search rules) (search rules) (omega arith))
