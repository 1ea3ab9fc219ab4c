use Rattle.std.proofs.Common.{◌≡◌, Bool, true, false, ◌&&◌, ◌||◌, sym, ap, ◌∙◌}
use Rattle.be_model.specs.Matching.{satisfies}
use Rattle.be_shape.specs.Glances.{may_meet, is_whole}
use Rattle.be_shape.proofs.ToldTests.{told}
use Rattle.be_shape.proofs.few_tests.FewTests.is_met_by_values.Goals as goal

wholly : (m w s : Bool) → w ≡ true → s ≡ (m && (w || s)) → m ≡ s
wholly true w s k e = sym (e ∙ ap (λ b. b || s) k)
wholly false w s k e = sym e

pub returns-then-is_whole : goal.returns-then-is_whole
returns-then-is_whole c =
    let e = c.args.e.now in
    let conj = c.args.conj.now in
    let tests = c.args.self.now.tests in
    c.may_meet.ensures ∙ wholly (may_meet e tests) (is_whole c.args.extent) (satisfies e conj) (sym c.is_whole.ensures ∙ c.if-is_whole.true) (told e conj tests c.args.extent c.requires.told c.requires.form)
