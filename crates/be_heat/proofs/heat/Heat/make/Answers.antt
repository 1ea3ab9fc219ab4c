use Rattle.std.proofs.Common.{rules, ◌≡◌, ◌-◌, ◌∙◌, replicate, ap, arith}
use Rattle.be_heat.specs.Seats.{at_word, new_seat}
use Rattle.be_heat.specs.Counted.{one_less}
use Rattle.be_heat.proofs.Keeps.{split, at_zeros, handed_on}
use Rattle.be_heat.proofs.Totals.{seat_more}
use Rattle.be_heat.proofs.heat.Heat.make.Goals as goal

pub split_seat-seat-requires : goal.split_seat-seat-requires
split_seat-seat-requires c =
    let me = c.loop.invariant.1 in
    let share : c.loop.home.me.0.share ≡ c.args.seats - c.loop.counter = ap (λ m. m.0.share) me in
    (search rules, search rules, split _ _ _ (λ word. ap (λ m. at_word m.0.counts word) me ∙ at_zeros c.args.words word) (omega (arith, c.loop-test.true)))

pub loop-preserved : goal.loop-preserved
loop-preserved c =
    let home : c.split_seat-seat.new.seat.me ≡ (one_less c.loop.home.me.0, c.loop.home.me.1) = search rules in
    let of : c.split_seat-seat.result.table_id ≡ c.in_ok-table.table.shared.table_id = search rules in
    let own : c.in_ok-own.own.items ≡ replicate c.args.words 0 = search rules in
    let new : record { of = c.split_seat-seat.result.table_id; own = c.in_ok-own.own.items } ≡ new_seat c.in_ok-table.table.shared.table_id c.args.words = λ i. record { of = of i; own = own i } in (
      search rules,
      handed_on c.args.seats c.loop.counter (replicate c.args.words 0) c.loop.home.me _ c.loop.invariant.1 home,
      seat_more c.loop.counter _ _ c.loop.all.items c.push.new.self.items c.loop.invariant.2 new c.in_ok-push.ensures.items,
    )
