use Rattle.std.proofs.Common.{Some, option_map, sym, ap, ◌∙◌}
use Rattle.be_model.specs.Domains.{Range}
use Rattle.be_shape.specs.Glances.{hull_in}
use Rattle.be_shape.proofs.ToldSpans.{told_span, told_no_span}
use Rattle.be_shape.proofs.few_tests.FewTests.span.Goals as goal

pub returns-in-Some : goal.returns-in-Some
returns-in-Some c =
    let ends = c.in-Some.ends in
    let span = told_span c.args.s.now c.args.a c.args.conj.now c.args.self.now.tests c.args.extent ends c.requires.told c.requires.form c.requires.lies (sym c.on.ensures ∙ c.in-Some.is) in
    ap Some c.hull_in.ensures ∙ ap (option_map (λ (d : Range). hull_in d ends)) (sym c.in_ok-range.was ∙ c.range.ensures) ∙ sym span

pub returns-else-is_part : goal.returns-else-is_part
returns-else-is_part c =
    sym (told_no_span c.args.s.now c.args.a c.args.conj.now c.args.self.now.tests c.args.extent c.requires.told (sym c.is_part.ensures ∙ c.if-is_part.false) (sym c.on.ensures ∙ c.in_default.is))
