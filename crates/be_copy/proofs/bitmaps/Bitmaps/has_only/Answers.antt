use Rattle.std.proofs.Common.{◌≡◌, ℕ, true, false, nat_eq, subst}
use Rattle.std.specs.Prelude.{IsSome}
use Rattle.std.specs.Ordering.{is_gt, is_lt}
use Rattle.std.proofs.lemmas.Bool.{eqb-true, OnTrue_from}
use Rattle.be_copy.specs.Bitmaps.{is_noted}
use Rattle.be_copy.proofs.Pairs.{pair_cmp}
use Rattle.be_copy.proofs.Blocks.{at, only_key}
use Rattle.be_copy.proofs.bitmaps.Bitmaps.has_only.Goals as goal

pub returns-then-first-key : goal.returns-then-first-key
returns-then-first-key c =
    let es = c.args.self.now.blocks.entries in
    let first = c.in-Some-Some.first.now in
    let last = c.in-Some-Some.last.now in
    OnTrue_from (nat_eq last.0 c.args.key) ((k i : ℕ) → is_noted es k i ≡ true → k ≡ c.args.key) (λ is. only_key es c.args.key first.1 last.1
    (subst (λ (n : ℕ). (q : ℕ × ℕ) → IsSome (at es q) → is_gt (pair_cmp (n, first.1) q) ≡ false) (c.if-first-key.true) c.in-Some-Some.ensures.least)
    (subst (λ (n : ℕ). (q : ℕ × ℕ) → IsSome (at es q) → is_lt (pair_cmp (n, last.1) q) ≡ false) (eqb-true last.0 c.args.key is) c.in-Some-Some.ensures'.greatest))
