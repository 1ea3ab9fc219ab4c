use Rattle.std.proofs.Common.{◌≡◌, ℕ, ◌+◌, ◌<◌, ◌≤◌, cond, take, length, get_or, slice_get, false, Some, refl, ap, subst, ◌∙◌, arith}
use Rattle.std.proofs.lemmas.List.{length-set, take_all}
use Rattle.std.proofs.lemmas.Option.{slice_get-get_or}
use Rattle.be_model.specs.Matching.{satisfied}
use Rattle.be_shape.specs.Chosen.{AreRowsAt}
use Rattle.be_shape.proofs.Choices.{byte_cond, cond_small}
use Rattle.be_shape.proofs.BlockColumns.{collected_next}
use Rattle.be_shape.proofs.columns.collect.Goals as goal

pub loop-at-init : goal.loop-at-init
loop-at-init c = (omega arith, c.told-met, λ e rows size tell. refl)

pub loop-at-preserved : goal.loop-at-preserved
loop-at-preserved c =
    let passes = c.args.passes.now in
    let met = c.loop-at.met in
    let n = c.loop-at.at in
    let k = c.loop-at.count in
    let b = get_or passes n false in
    let was = c.loop-at.invariant in
    let few : n < 32 = c.loop-at-test.true in
    let kept : k + c.from-count.result ≡ k + cond b 1 0 = ap (λ (m : ℕ). k + m) (c.from-count.ensures ∙ byte_cond b) in
    let there : slice_get passes n ≡ Some b = slice_get-get_or passes n false (omega (arith, c.told-passes, few)) in
    (omega (arith, kept, cond_small b, was.0), length-set met k n ∙ was.1, collected_next passes met k (k + c.from-count.result) n b there kept few (omega (arith, was.0, was.1, few)) was.2)

pub returns-clause-places : goal.returns-clause-places
returns-clause-places c = λ e rows size tell.
    let end : length rows ≤ c.loop-at.at = omega (arith, c.loop-at-test.false, size) in
    subst (λ rs. AreRowsAt rows (take c.loop-at.count c.loop-at.met) (satisfied e rs)) (take_all c.loop-at.at rows end) (c.loop-at.invariant.2 e rows size tell)
