use Rattle.std.proofs.Common.{◌≡◌, not, ◌&&◌, subst, sym, ap, ◌∙◌}
use Rattle.be_cover.specs.Ranges.{is_in, IsLeast, least_beyond}
use Rattle.be_cover.proofs.Least.{least_beyond_is}
use Rattle.be_cover.proofs.ranges.minus.Goals as goal

pub returns : goal.returns
returns c =
    let x = c.args.x.now in
    let y = c.args.y.now in
    let found : c.least_beyond.result ≡ least_beyond y x =
    c.least_beyond.ensures ∙ ap (λ ys. least_beyond ys c.ranges-2.result.now) c.ranges-3.ensures.ranges ∙ ap (least_beyond y) c.ranges-2.ensures.ranges in
    subst (IsLeast (λ v. is_in x v && not (is_in y v))) (sym found) (least_beyond_is y x c.ranges-3.ensures.form c.ranges-2.ensures.form)
