use Rattle.std.proofs.Common.{◌≡◌, Some, None, find, sym, refl, ap, ◌∙◌}
use Rattle.be_model.specs.Hulls.{is_on}
use Rattle.be_model.proofs.Spans.{pred_found, span_found, some_on, none_on}
use Rattle.be_model.proofs.conjs.Conj.span.Goals as goal

pub hull-requires : goal.hull-requires
hull-requires c =
    let first : find (is_on c.args.a) c.args.self.now ≡ Some c.in-Some.pred.now = ap (find (is_on c.args.a)) (sym (c.as_slice.ensures.value ∙ c.self.view_is)) ∙ sym c.in-Some.ensures in
    pred_found c.args.s.now c.args.a c.args.self.now c.in-Some.pred.now c.requires first

pub returns-in-Some-clause-span : goal.returns-in-Some-clause-span
returns-in-Some-clause-span c =
    let first : find (is_on c.args.a) c.args.self.now ≡ Some c.in-Some.pred.now = ap (find (is_on c.args.a)) (sym (c.as_slice.ensures.value ∙ c.self.view_is)) ∙ sym c.in-Some.ensures in
    span_found c.args.s.now c.args.a c.args.self.now c.in-Some.pred.now c.hull.result first c.hull.ensures

pub returns-in-Some-clause-none : goal.returns-in-Some-clause-none
returns-in-Some-clause-none c =
    let first : find (is_on c.args.a) c.args.self.now ≡ Some c.in-Some.pred.now = ap (find (is_on c.args.a)) (sym (c.as_slice.ensures.value ∙ c.self.view_is)) ∙ sym c.in-Some.ensures in
    let on = some_on c.args.a c.args.self.now c.in-Some.pred.now first in
    (λ e. absurd (cc), λ e. absurd (cc))

pub returns-in-None-clause-none : goal.returns-in-None-clause-none
returns-in-None-clause-none c =
    let first : find (is_on c.args.a) c.args.self.now ≡ None = ap (find (is_on c.args.a)) (sym (c.as_slice.ensures.value ∙ c.self.view_is)) ∙ sym c.in-None.ensures in
    (λ _. none_on c.args.a c.args.self.now first, λ _. refl)
