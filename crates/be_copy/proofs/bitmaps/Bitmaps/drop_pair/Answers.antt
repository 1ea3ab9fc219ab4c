use Rattle.std.proofs.Common.{◌≡◌, ◌%◌, ◌==◌, ◌/◌, ℕ, cond, Option, Some, None, false, subst, refl, sym, ap, ◌∙◌}
use Rattle.std.specs.Prelude.{IsSome}
use Rattle.std.specs.BTreeMap.{is_at}
use Rattle.be_copy.specs.Bitmaps.{is_in}
use Rattle.be_copy.proofs.Pairs.{pair_cmp}
use Rattle.be_copy.proofs.Blocks.{noted_after, taken_out, at}
use Rattle.be_copy.proofs.bitmaps.Bitmaps.drop_pair.Goals as goal

pub returns-then-not-take : goal.returns-then-not-take
returns-then-not-take c =
    let es = c.args.self.now.blocks.entries in
    let found : Some c.in-Some.marks.now ≡ at es (c.args.key, c.args.place / 32) = c.in-Some.ensures.value in
    let written = ((c.get_mut.follows.holds c.take.new.self).3 (subst (λ (o : Option ℕ). IsSome o) found refl)).0 in
    noted_after es c.remove.new.self.entries c.args.key c.args.place false None
    (λ q. c.remove.ensures.updates.0 q ∙ (ap (λ (o : Option ℕ). cond (is_at (pair_cmp (c.args.key, c.args.place / 32)) q) None o) (written q) ∙ taken_out (is_at (pair_cmp (c.args.key, c.args.place / 32)) q) c.take.new.self (at es q)))
    (λ j low. sym (c.if-not-take.ensures.left j low) ∙ ap (λ (o : Option ℕ). cond (c.args.place % 32 == j) false (is_in o j)) found)

pub returns-else-not-take : goal.returns-else-not-take
returns-else-not-take c =
    let es = c.args.self.now.blocks.entries in
    let found : Some c.in-Some.marks.now ≡ at es (c.args.key, c.args.place / 32) = c.in-Some.ensures.value in
    noted_after es (c.get_mut.follows.lender c.take.new.self).entries c.args.key c.args.place false (Some c.take.new.self)
    ((c.get_mut.follows.holds c.take.new.self).3 (subst (λ (o : Option ℕ). IsSome o) found refl)).0
    (λ j low. c.if-not-take.ensures.left j low ∙ ap (λ (o : Option ℕ). cond (c.args.place % 32 == j) false (is_in o j)) found)
