use Rattle.std.proofs.Common.{◌≡◌, ◌+◌, [], ◌∷◌, Some, slice_get, subst, sym, ap, ◌∙◌, arith}
use Rattle.std.specs.Arc.{arc_value}
use Rattle.be_index.specs.Puts.{Adds}
use Rattle.be_match.proofs.MetRows.{block, in_leaf, in_block, same_row, some_row, id_there, id_in_leaf, put_grows}
use Rattle.be_match.proofs.searches.put_met.Goals as goal

pub id-id-requires : goal.id-id-requires
id-id-requires g c = omega (arith, in_block c.args.leaf.now c.args.from c.args.at c.requires.within)

pub overflow_add-from : goal.overflow_add-from
overflow_add-from g c = omega (arith, in_leaf c.args.leaf.now c.args.from c.args.at c.requires.within, c.from.ensures, c.len.ensures)

pub row-requires : goal.row-requires
row-requires g c = omega (arith, in_leaf c.args.leaf.now c.args.from c.args.at c.requires.within, c.from.ensures)

pub put-requires : goal.put-requires
put-requires g c =
    let rows = c.args.leaf.now in
    let y = arc_value c.row.result.now in
    let there : slice_get rows (c.args.from + c.args.at) ≡ Some y = ap (λ p. slice_get rows (c.args.from + p)) (sym c.from.ensures) ∙ c.row.ensures in
    id_in_leaf rows c.args.from c.args.at y c.id-id.result.0 c.requires.within there (c.id-id.ensures (block rows c.args.from) c.requires.rows)

pub returns-in_ok-put-clause-put : goal.returns-in_ok-put-clause-put
returns-in_ok-put-clause-put g c = λ x is.
    let rows = c.args.leaf.now in
    let y = arc_value c.row.result.now in
    let there : slice_get rows (c.args.from + c.args.at) ≡ Some y = ap (λ p. slice_get rows (c.args.from + p)) (sym c.from.ensures) ∙ c.row.ensures in
    let of = g.C.Hits.item_of in
    let after = g.C.Hits.held c.put.new.self in
    subst (λ held. Adds held after (of x ∷ [])) (c.in_ok-put_id.ensures.left c.if-not-branch.true)
    (subst (λ r. Adds (g.C.Hits.held c.put_id.new.self) after (of r ∷ [])) (sym (same_row rows c.args.from c.args.at x y is there)) c.in_ok-put.ensures.put)

pub returns-else-not-branch-clause-put : goal.returns-else-not-branch-clause-put
returns-else-not-branch-clause-put g c = λ x is.
    let rows = c.args.leaf.now in
    c.in_ok-put_id.ensures.put c.if-not-branch.false x (id_there (block rows c.args.from) c.args.at x c.id-id.result.0 is (c.id-id.ensures (block rows c.args.from) c.requires.rows))

pub returns-else-not-branch-clause-grown : goal.returns-else-not-branch-clause-grown
returns-else-not-branch-clause-grown g c =
    let rows = c.args.leaf.now in
    let s = some_row (block rows c.args.from) c.args.at c.requires.within in
    let told = id_there (block rows c.args.from) c.args.at s.0 c.id-id.result.0 s.1 (c.id-id.ensures (block rows c.args.from) c.requires.rows) in
    put_grows _ _ (g.C.Hits.item_of s.0 ∷ []) (c.in_ok-put_id.ensures.put c.if-not-branch.false s.0 told) c.in_ok-put_id.ensures.room
