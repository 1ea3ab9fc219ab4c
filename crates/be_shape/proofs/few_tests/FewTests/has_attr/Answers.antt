use Rattle.std.proofs.Common.{◌≡◌, Bool, true, false, ◌&&◌, ◌||◌, is_some, sym, ap, ◌∙◌}
use Rattle.be_model.specs.Rows.{has}
use Rattle.be_shape.specs.Glances.{test_on, is_part}
use Rattle.be_shape.proofs.ToldSpans.{has_told}
use Rattle.be_shape.proofs.few_tests.FewTests.has_attr.Goals as goal

on_one : (r t p h : Bool) → r ≡ true → r ≡ t → h ≡ (t || (p && h)) → r ≡ h
on_one r t p h e k q = e ∙ sym (q ∙ ap (λ b. b || (p && h)) (sym k ∙ e))

on_none : (r t p h : Bool) → t ≡ false → r ≡ false → r ≡ p → h ≡ (t || (p && h)) → r ≡ h
on_none r t p h n e k q = e ∙ sym (q ∙ ap (λ b. b || (p && h)) n ∙ ap (λ b. b && h) (sym k ∙ e))

pub returns-then-is_some : goal.returns-then-is_some
returns-then-is_some c =
    let row = c.args.row.now in
    let a = c.args.a in
    let tests = c.args.self.now.tests in
    on_one c.is_some.result (is_some (test_on a tests)) (is_part c.args.extent) (has a row) c.if-is_some.true (c.is_some.ensures ∙ ap is_some c.on.ensures) (has_told row.conj tests c.args.extent a c.requires)

pub returns-else-is_part : goal.returns-else-is_part
returns-else-is_part c =
    let row = c.args.row.now in
    let a = c.args.a in
    let tests = c.args.self.now.tests in
    on_none c.is_part.result (is_some (test_on a tests)) (is_part c.args.extent) (has a row) (sym (c.is_some.ensures ∙ ap is_some c.on.ensures) ∙ c.if-is_some.false) c.if-is_part.false c.is_part.ensures (has_told row.conj tests c.args.extent a c.requires)
