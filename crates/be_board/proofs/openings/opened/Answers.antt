-- Each row is added at its place.
use Rattle.std.proofs.Common.{◌++◌, ◌∷◌, [], length, sym, ap, ◌∙◌, append_assoc}
use Rattle.be_change.proofs.Openings.{length-subs_of}
use Rattle.be_board.proofs.OpenedRows.{id_counts, opened_more}
use Rattle.be_board.proofs.openings.opened.Goals as goal

pub add_row-requires-clause-id : goal.add_row-requires-clause-id
add_row-requires-clause-id g c =
    let i = c.loop-row.invariant in
    let all = i.2 ∙ ap (λ l. c.loop-row.yielded ++ l) c.in-Some.ensures.steps.0 in
    id_counts c.args.rows.items c.loop-row.yielded c.next.new.self.rest.items c.in-Some.row all c.requires.table
    ∙ sym (ap length i.3 ∙ length-subs_of 0 0 c.loop-row.yielded)

pub loop-row-preserved : goal.loop-row-preserved
loop-row-preserved g c =
    let i = c.loop-row.invariant in
    let all = i.2 ∙ ap (λ l. c.loop-row.yielded ++ l) c.in-Some.ensures.steps.0 in (
      tt,
      tt,
      all ∙ sym (append_assoc c.loop-row.yielded (c.in-Some.row ∷ []) c.next.new.self.rest.items),
      opened_more c.loop-row.yielded c.in-Some.row c.loop-row.copy.list c.add_row.new.copy.list i.3 c.in_ok-add_row.ensures.added,
      c.add_row.ensures.schema ∙ i.4,
      c.add_row.ensures.bounded ∙ i.5,
    )
