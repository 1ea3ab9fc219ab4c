use Rattle.std.proofs.Common.{◌≡◌, find, sym, ap, ◌∙◌}
use Rattle.std.specs.Option.{option_copied}
use Rattle.be_model.specs.Domains.{Range, is_within}
use Rattle.be_cover.specs.Ranges.{least_behind}
use Rattle.be_cover.proofs.ranges.least_outside.Goals as goal

pub returns-in-Some : goal.returns-in-Some
returns-in-Some c =
    let found : option_copied c.holding.result ≡ find (λ (r : Range). is_within r c.args.range.0) c.args.others.now = c.holding.ensures in
    c.least_behind.ensures ∙ ap (least_behind c.args.range) (ap option_copied (sym c.in-Some.is) ∙ found)
