use Rattle.std.proofs.Common.{◌≡◌, ◌-◌, true, not, Some, sym, ap, ◌∙◌, subst, arith}
use Rattle.std.specs.Arc.{arc_value}
use Rattle.be_model.specs.Lies.{row_lies}
use Rattle.be_model.proofs.Attributes.{all_at}
use Rattle.be_shape.specs.Plain.{plain}
use Rattle.be_insert.proofs.AtPlaces.{all_next, all_fails, all_taken}
use Rattle.be_insert.proofs.Settled.{row_lie}
use Rattle.be_adjust.specs.Fits.{stays, passes_others}
use Rattle.be_adjust.proofs.Others.{stays_is}
use Rattle.be_adjust.proofs.Fitting.{fails, fits}
use Rattle.be_adjust.proofs.fits.fit_leaf.Goals as goal

pub passes_others-requires-clause-lies : goal.passes_others-requires-clause-lies
passes_others-requires-clause-lies c =
    subst (λ r. row_lies c.args.s.now r ≡ true) (sym c.deref.ensures) (all_at (row_lies c.args.s.now) c.args.rows.now c.loop-place.place (arc_value c.row.result.now) (row_lie c.args.s.now c.args.rows.now c.requires.may) c.row.ensures)

pub returns-then-passes_others : goal.returns-then-passes_others
returns-then-passes_others c =
    let p = stays c.args.s.now c.args.hop c.args.range (plain c.args.n.now) in
    let x = arc_value c.row.result.now in
    sym (fails p c.args.most c.args.rows.now (all_fails p c.args.rows.now c.loop-place.place x c.row.ensures (stays_is c.args.s.now c.args.hop c.args.range (plain c.args.n.now) x c.requires.rise ∙ ap not (ap (passes_others c.args.s.now c.args.hop c.args.range (plain c.args.n.now)) (sym c.deref.ensures) ∙ sym c.passes_others.ensures ∙ c.if-passes_others.true))))

pub loop-place-preserved : goal.loop-place-preserved
loop-place-preserved c =
    let p = stays c.args.s.now c.args.hop c.args.range (plain c.args.n.now) in
    let x = arc_value c.row.result.now in
    all_next p c.args.rows.now c.loop-place.place x c.loop-place.invariant c.row.ensures (stays_is c.args.s.now c.args.hop c.args.range (plain c.args.n.now) x c.requires.rise ∙ ap not (ap (passes_others c.args.s.now c.args.hop c.args.range (plain c.args.n.now)) (sym c.deref.ensures) ∙ sym c.passes_others.ensures ∙ c.if-passes_others.false))

pub returns : goal.returns
returns c =
    let p = stays c.args.s.now c.args.hop c.args.range (plain c.args.n.now) in
    let rows = c.args.rows.now in
    let all = all_taken p rows c.loop-place.place (omega (arith, c.loop-place-test.false, c.len-place-end.ensures)) c.loop-place.invariant in
    ap (λ n. Some (c.args.most - n)) c.len-2.ensures ∙ sym (fits p c.args.most rows all (omega (arith, c.if-most-len.false, c.len.ensures)))
