-- One glass more.
use Rattle.std.proofs.Common.{rules, ◌≡◌, ◌++◌, ◌∷◌, ◌+◌, [], length, All, ap, sym, subst, arith, length-append, ◌∙◌}
use Rattle.be_published.specs.States.{new_glass}
use Rattle.be_published.proofs.Openings.{all_none, all_more}
use Rattle.be_published.proofs.pair.glasses_of.Goals as goal

pub loop-init : goal.loop-init
loop-init g c =
    let none = c.new-glasses.ensures.items in
    (ap length none, subst (λ l. All (λ glass. glass ≡ new_glass c.args.press.now.published) l) (sym none) (all_none (λ glass. glass ≡ new_glass c.args.press.now.published)))

pub loop-preserved : goal.loop-preserved
loop-preserved g c =
    let pushed : c.push.new.self.items ≡ c.loop.glasses.items ++ c.in_ok-glass.field-0 ∷ [] = search rules in
    let many : length c.push.new.self.items ≡ c.loop.counter + 1 = omega (arith, ap length pushed, length-append c.loop.glasses.items (c.in_ok-glass.field-0 ∷ []), c.loop.invariant.0) in
    (many, all_more (λ glass. glass ≡ new_glass c.args.press.now.published) c.loop.glasses.items c.push.new.self.items c.in_ok-glass.field-0 pushed c.loop.invariant.1 c.in_ok-glass.ensures)
