use Rattle.std.proofs.Common.{◌≡◌, None, Some, not, slice_get, option_map, sym, refl, ap, ◌∙◌}
use Rattle.std.specs.List.{position}
use Rattle.std.proofs.lemmas.Option.{slice_get-get_or}
use Rattle.be_model.specs.declared.preds.Pred.{Pred}
use Rattle.be_model.specs.Lies.{pred_lies}
use Rattle.be_model.proofs.Spans.{lies-position_none, position_none-lies}
use Rattle.be_model.proofs.conjs.check_conj.Goals as goal

pub returns-in-None-clause-lies : goal.returns-in-None-clause-lies
returns-in-None-clause-lies c =
    let s = c.args.s.now in
    let e = ap (λ ps. position (λ (p : Pred). not (pred_lies s p)) ps) c.preds-preds.ensures.preds in
    (λ _. lies-position_none s c.args.c.now (sym e ∙ sym c.in-None.ensures.exact), λ _. refl)

pub returns-in-Some-clause-lies : goal.returns-in-Some-clause-lies
returns-in-Some-clause-lies c =
    let s = c.args.s.now in
    let e = ap (λ ps. position (λ (p : Pred). not (pred_lies s p)) ps) c.preds-preds.ensures.preds in
    (λ h. absurd (cc), λ h. absurd (let n : Some c.in-Some.place ≡ None = c.in-Some.ensures.exact ∙ e ∙ position_none-lies s c.args.c.now h in cc))

pub returns-in-Some-clause-attribute : goal.returns-in-Some-clause-attribute
returns-in-Some-clause-attribute c =
    let f = λ (p : Pred). p.attr in
    ap (λ ps. option_map f (slice_get ps c.in-Some.place)) (sym c.preds-preds.ensures.preds)
    ∙ ap (option_map f) (slice_get-get_or c.preds-preds.result.now c.in-Some.place c.index-preds-place.result c.in-Some.ensures.below)
