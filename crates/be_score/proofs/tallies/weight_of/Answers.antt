use Rattle.std.proofs.Common.{sym, ap, ◌∙◌, subst, IfSome, is_some, true≢false, arith}
use Rattle.be_model.specs.Laws.{IsPart}
use Rattle.be_model.proofs.Spans.{spans_lie}
use Rattle.be_score.proofs.Widths.{attr-below}
use Rattle.be_score.proofs.tallies.weight_of.Goals as goal
use Rattle.be_score.proofs.tallies.weight_of.Goals.{in_default-via-in-Some+else-a-count, in_default-via-in_default}

pub share-requires-clause-part : goal.share-requires-clause-part
share-requires-clause-part c =
    let lie = spans_lie c.args.s.now c.args.a c.args.row.now.conj c.bounds.result c.count.ensures.form c.preds.ensures.form c.requires.lies c.bounds.ensures.bounds in
    subst (λ o. IfSome o (IsPart c.bounds.result)) (sym c.span.ensures.span ∙ c.in-Some.is) lie

pub unreachable-requires : goal.unreachable-requires
unreachable-requires c =
    elim c.in_default.branch [
      | in_default-via-in-Some+else-a-count w ↦ absurd (let below = attr-below c.args.s.now c.args.a c.args.row.now.conj c.requires.lies c.requires.has in let n = w.count.ensures.count in let past = w.if-a-count.false in omega arith)
      | in_default-via-in_default w ↦ absurd (true≢false (sym c.requires.has ∙ c.span.ensures.none.0 (ap is_some w.in_default.is)))
    ]
