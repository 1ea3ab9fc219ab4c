use Rattle.std.proofs.Common.{◌+◌, ◌<◌, arith, rules, ap, ◌∙◌}
use Rattle.be_heat.specs.Seats.{at_word}
use Rattle.be_demand.proofs.Adding.{few_marks, all_marked}
use Rattle.be_demand.proofs.counting.add_attributes.Goals as goal

pub add-requires-clause-room : goal.add-requires-clause-room
add-requires-clause-room c =
    let items = c.items-item-items in
    let less : 1 + c.from.result < c.args.heat.now.words = search rules in
    omega (arith, c.loop-item.invariant.marked (1 + c.from.result), few_marks items.result.now c.args.event.now items.ensures.items items.ensures.form.rising c.loop-item.item-index (1 + c.from.result), c.requires.few (1 + c.from.result) less)

pub returns-clause-added : goal.returns-clause-added
returns-clause-added c = λ word less.
    let items = c.items-item-items in
    c.loop-item.invariant.marked word ∙ ap (λ n. at_word c.args.seat.now.own word + n) (all_marked items.result.now c.args.event.now items.ensures.items items.ensures.form.rising c.loop-item.item-index word (omega arith))
