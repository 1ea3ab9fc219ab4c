use Rattle.std.proofs.Common.{rules, ℕ, ◌≡◌, ◌+◌, ◌∙◌, sym, ap, arith, Some}
use Rattle.std.proofs.lemmas.List.Elements.{All-pop, All-head, All-tail, All-same}
use Rattle.be_heat.specs.Seats.{at_word, total_of}
use Rattle.be_heat.proofs.Keeps.{join}
use Rattle.be_heat.proofs.Totals.{last_taken, taken_in, total_none}
use Rattle.be_heat.proofs.heat.gathered.Goals as goal

pub loop-seat-init : goal.loop-seat-init
loop-seat-init c =
    let of = c.args.table.now.shared.table_id in
    let items = c.in-Some.ensures.items in
    let parted = All-pop (λ s. s.of ≡ of) _ _ (Some c.in-Some.first) items c.requires.of in
    let counts = ap (λ m. m.0.counts) c.first.invariant.knows ∙ ap (λ s. s.own) c.first.view_is in
    let gives = c.into_iter-seat-iterator.ensures.into_iter_gives.0 in
    let rest : (word : ℕ) → at_word c.first.inside.seat.me.0.counts word + total_of c.into_iter-seat-iterator.result.rest.items word ≡ total_of c.args.seats.items word =
    λ word. ap (λ l. at_word c.first.inside.seat.me.0.counts word + total_of l word) gives ∙ last_taken c.first.inside.seat.me.0 c.in-Some.first _ _ items counts word in
    (search rules, search rules, ap (λ s. s.of) c.first.view_is ∙ parted.1, search rules, search rules, rest, search rules)

pub join_seat-requires : goal.join_seat-requires
join_seat-requires c =
    let all = All-same (λ s. s.of ≡ c.args.table.now.shared.table_id) _ _ (sym c.in-Some-seat.ensures.steps.0) c.loop-seat.invariant.6 in
    let of = All-head (λ s. s.of ≡ c.args.table.now.shared.table_id) _ _ all in (
      search rules,
      ap (λ s. s.of) c.seat.view_is ∙ of,
      search rules,
      search rules,
      join c.args.table.now.shared.key c.loop-seat.home.id c.loop-seat.home.me.0 c.seat.inside.seat.id c.seat.inside.seat.me.0,
    )

pub loop-seat-preserved : goal.loop-seat-preserved
loop-seat-preserved c =
    let now = c.loop-seat.invariant in
    let steps = c.in-Some-seat.ensures.steps.0 in
    let all = All-same (λ s. s.of ≡ c.args.table.now.shared.table_id) _ _ (sym steps) now.6 in
    let counts = ap (λ m. m.0.counts) c.seat.invariant.knows ∙ ap (λ s. s.own) c.seat.view_is in
    let moved = taken_in c.loop-seat.home.me.0 c.seat.inside.seat.me.0 c.in-Some-seat.seat _ _ c.args.seats.items steps counts now.5 in (
      search rules,
      search rules,
      search rules,
      search rules,
      search rules,
      λ word. ap (λ m. at_word m.0.counts word + total_of c.next.new.self.rest.items word) c.join_seat.ensures.2 ∙ moved word,
      All-tail (λ s. s.of ≡ c.args.table.now.shared.table_id) _ _ all,
    )

pub returns-clause-share : goal.returns-clause-share
returns-clause-share c = search rules

pub returns-clause-counts : goal.returns-clause-counts
returns-clause-counts c = λ word.
    let none = total_none c.loop-seat.seat-iterator.rest.items word (omega (arith, c.loop-seat.seat-iterator.rest.ok.0, c.in-None.ensures.steps.0)) in
    let now = c.loop-seat.invariant.5 word in
    omega arith
