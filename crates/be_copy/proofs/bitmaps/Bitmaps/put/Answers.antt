use Rattle.std.proofs.Common.{◌≡◌, ◌%◌, ◌==◌, ◌/◌, ℕ, cond, Option, Some, None, true, subst, refl, ap, ◌∙◌}
use Rattle.std.specs.Prelude.{IsSome}
use Rattle.std.specs.BTreeMap.{BTreeMap, is_at}
use Rattle.be_copy.specs.Bitmaps.{is_in}
use Rattle.be_copy.proofs.Pairs.{pair_cmp}
use Rattle.be_copy.proofs.Blocks.{noted_after, or_cond, cond_true, at}
use Rattle.be_copy.proofs.bitmaps.Bitmaps.put.Goals as goal

pub returns-in-Some-clause-put : goal.returns-in-Some-clause-put
returns-in-Some-clause-put c =
    let es = c.args.self.now.blocks.entries in
    let found : Some c.in-Some.marks.now ≡ at es (c.args.key, c.args.place / 32) = c.in-Some.ensures.value in
    noted_after es (c.get_mut.follows.lender c.put.new.self).entries c.args.key c.args.place true (Some c.put.new.self)
    ((c.get_mut.follows.holds c.put.new.self).3 (subst (λ (o : Option ℕ). IsSome o) found refl)).0
    (λ j low. c.put.ensures j ∙ (or_cond (c.args.place % 32 == j) _ ∙ ap (λ (o : Option ℕ). cond (c.args.place % 32 == j) true (is_in o j)) found))

pub returns-in-Ok-clause-put : goal.returns-in-Ok-clause-put
returns-in-Ok-clause-put c =
    let es = c.args.self.now.blocks.entries in
    let none : None ≡ at es (c.args.key, c.args.place / 32) = c.in_default.ensures.value in
    noted_after es c.insert.new.self.entries c.args.key c.args.place true (Some c.of.result)
    (subst (λ (m : BTreeMap (ℕ × ℕ) ℕ). (q : ℕ × ℕ) → at c.insert.new.self.entries q ≡ cond (is_at (pair_cmp (c.args.key, c.args.place / 32)) q) (Some c.of.result) (at m.entries q)) c.get_mut.follows.holds-at-none c.in-Ok.ensures.updates.0)
    (λ j low. c.of.ensures j ∙ (cond_true (c.args.place % 32 == j) ∙ ap (λ (o : Option ℕ). cond (c.args.place % 32 == j) true (is_in o j)) none))
