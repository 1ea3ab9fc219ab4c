use Rattle.std.proofs.Common.{◌≡◌, ◌<◌, pos, true, false, not, ◌++◌, length, get_or, rules, sym, ap, ◌∙◌, w64, FitsSigned, to_z, of_z}
use Rattle.std.proofs.lemmas.Int.{to_z-of_z}
use Rattle.be_model.specs.Domains.{is_within}
use Rattle.be_cover.proofs.Turns.{runs_pass, runs_put}
use Rattle.be_cover.proofs.pieces.put_runs.Goals as goal

pub loop-x-preserved-then-is_outside : goal.loop-x-preserved-then-is_outside
loop-x-preserved-then-is_outside c =
    let xs = c.args.numbers.now in
    let i = c.loop-x.x-index in
    let x = get_or xs i (pos 0) in
    let t : i < length xs = c.loop-x-test.true in
    let fits : FitsSigned w64 x = search rules in
    let kept : to_z w64 (of_z w64 x) ≡ x = to_z-of_z w64 x fits in
    let outside : not (is_within c.args.range x) ≡ true = ap (λ z. not (is_within c.args.range z)) (sym kept) ∙ sym c.is_outside.ensures ∙ c.if-is_outside.true in
    ap (λ ys. c.loop-x.out.items ++ ys) (sym (runs_pass xs i c.args.range c.loop-x.run t outside)) ∙ c.loop-x.invariant

pub loop-x-preserved : goal.loop-x-preserved
loop-x-preserved c =
    let xs = c.args.numbers.now in
    let i = c.loop-x.x-index in
    let x = get_or xs i (pos 0) in
    let t : i < length xs = c.loop-x-test.true in
    let fits : FitsSigned w64 x = search rules in
    let kept : to_z w64 (of_z w64 x) ≡ x = to_z-of_z w64 x fits in
    let inside : not (is_within c.args.range x) ≡ false = ap (λ z. not (is_within c.args.range z)) (sym kept) ∙ sym c.is_outside.ensures ∙ c.if-is_outside.false in
    runs_put xs i c.args.range c.loop-x.run c.in_ok-run.run' c.loop-x.out.items c.put_number.new.out.items _ t inside kept c.in_ok-run.ensures.run c.in_ok-run.ensures.put
    ∙ c.loop-x.invariant
