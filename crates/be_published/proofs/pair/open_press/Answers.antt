-- Each row is added at its place.
use Rattle.std.proofs.Common.{◌++◌, ◌∷◌, [], sym, ap, ◌∙◌, append_assoc}
use Rattle.be_published.proofs.Openings.{row_may, opening_more}
use Rattle.be_published.proofs.pair.open_press.Goals as goal

pub add_row-requires-clause-may : goal.add_row-requires-clause-may
add_row-requires-clause-may g c =
    let i = c.loop-row.invariant in
    let all = i.2 ∙ ap (λ l. c.loop-row.yielded ++ l) c.in-Some.ensures.steps.0 in
    row_may g.J.Naming.schema c.args.rows.items c.loop-row.yielded c.next.new.self.rest.items c.in-Some.row c.loop-row.front all c.requires.table c.requires.lie i.3

pub loop-row-preserved : goal.loop-row-preserved
loop-row-preserved g c =
    let i = c.loop-row.invariant in
    let all = i.2 ∙ ap (λ l. c.loop-row.yielded ++ l) c.in-Some.ensures.steps.0 in (
      tt,
      tt,
      all ∙ sym (append_assoc c.loop-row.yielded (c.in-Some.row ∷ []) c.next.new.self.rest.items),
      opening_more c.loop-row.yielded c.in-Some.row c.loop-row.front c.in_ok-front.front i.3 c.in_ok-front.ensures.front,
      c.in_ok-front.ensures.first,
      c.in_ok-front.ensures.second,
    )
