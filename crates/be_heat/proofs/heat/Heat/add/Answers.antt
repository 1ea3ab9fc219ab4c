use Rattle.std.proofs.Common.{rules, ◌≡◌, ◌∙◌, length, ap, arith}
use Rattle.be_heat.specs.Seats.{at_word}
use Rattle.be_heat.proofs.Keeps.{add}
use Rattle.be_heat.proofs.heat.Heat.add.Goals as goal

pub fetch_add-requires : goal.fetch_add-requires
fetch_add-requires c =
    let me = c.seat.invariant.knows in
    let share : c.seat.inside.seat.me.0.share ≡ 1 = ap (λ m. m.0.share) me in
    let counts = ap (λ m. m.0.counts) me in
    let now = ap (λ l. at_word l c.args.word) (counts ∙ ap (λ s. s.own) c.seat.view_is) in
    let of : c.seat.inside.seat.table_id ≡ c.self.inside.table.shared.table_id = search rules in
    let long : length c.seat.inside.seat.me.0.counts ≡ c.self.inside.table.shared.table_id.words = ap length counts ∙ c.seat.invariant.long ∙ ap (λ z. z.words) of in
    let words = c.self.invariant.long ∙ ap (λ h. h.words) c.self.view_is in
    (search rules, search rules, add c.self.inside.table.shared.key _ _ _ _ (search rules) (search rules) (omega (arith, c.requires.word)) share (omega (arith, c.requires.room)))
