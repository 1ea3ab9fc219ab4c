use Rattle.std.proofs.Common.{◌≡◌, Some, option_map, sym, ap, ◌∙◌, subst}
use Rattle.std.specs.Prelude.{Option, IfSome}
use Rattle.be_model.specs.declared.changes.Row.{Row}
use Rattle.be_model.specs.Domains.{Range}
use Rattle.be_model.specs.Hulls.{span_in}
use Rattle.be_model.specs.Laws.{IsPart}
use Rattle.be_model.specs.Schemas.{range_of}
use Rattle.be_model.proofs.InSchema.{range_sound}
use Rattle.be_model.proofs.Spans.{spans_lie}
use Rattle.be_plan.proofs.Gains.{may_form, may_lies}
use Rattle.be_plan.proofs.shares.share_at.Goals as goal

some_same : {x y : Option Range} → Some x ≡ Some y → x ≡ y
some_same h = cc

pub share_of-requires-clause-part : goal.share_of-requires-clause-part
share_of-requires-clause-part c =
    let s = c.args.s.now in
    let a = c.args.a in
    let row = c.args.row.now in
    let domain : range_of s a ≡ Some c.in-Some-Some.domain = sym c.range.ensures ∙ c.in-Some-Some.is-0 in
    let span : span_in s a row.conj ≡ Some c.in-Some-Some.span = some_same (ap (option_map (λ (r : Row). span_in s a r.conj)) (sym c.requires.at) ∙ c.span.ensures) ∙ c.in-Some-Some.is-1 in
    subst (λ o. IfSome o (IsPart c.in-Some-Some.domain)) span (spans_lie s a row.conj c.in-Some-Some.domain c.count.ensures.form (may_form s row c.requires.may) (may_lies s row c.requires.may) domain)

pub share_of-requires-clause-low : goal.share_of-requires-clause-low
share_of-requires-clause-low c =
    (range_sound c.args.s.now c.args.a c.in-Some-Some.domain c.count.ensures.form (sym c.range.ensures ∙ c.in-Some-Some.is-0)).low

pub share_of-requires-clause-high : goal.share_of-requires-clause-high
share_of-requires-clause-high c =
    (range_sound c.args.s.now c.args.a c.in-Some-Some.domain c.count.ensures.form (sym c.range.ensures ∙ c.in-Some-Some.is-0)).high
