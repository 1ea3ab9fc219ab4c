use Rattle.std.proofs.Common.{◌<◌, ◌∙◌, Some, map, sym, ap, arith}
use Rattle.std.proofs.lemmas.Option.{slice_get_within}
use Rattle.be_shape.proofs.BlockColumns.{told_says, none_beyond}
use Rattle.be_shape.proofs.columns.Columns.met.Goals as goal

pub returns-then-not-lets-clause-places : goal.returns-then-not-lets-clause-places
returns-then-not-lets-clause-places c = λ rows of.
    ap (map Some) (sym (none_beyond c.args.self.now rows c.args.e.now c.seen_of-x.result of c.requires c.seen_of-x.ensures (omega (arith, c.seen_of-x.type_inv)) (sym c.lets.ensures ∙ c.if-not-lets.true)))

pub returns-clause-places : goal.returns-clause-places
returns-clause-places c = λ rows of.
    c.collect.ensures.places c.args.e.now rows of.many
    (λ i row at.
    let few : i < 32 = omega (arith, slice_get_within rows i row at, of.many) in
    c.note_any.ensures rows i of.told few ∙ ap Some (told_says c.args.self.now rows c.args.e.now c.seen_of-x.result i row of c.requires c.seen_of-x.ensures at))
