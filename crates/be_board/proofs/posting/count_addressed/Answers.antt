use Rattle.std.proofs.Common.{rules, ◌≡◌, not, sym, ◌∙◌}
use Rattle.std.specs.List.{count_by}
use Rattle.std.specs.Arc.{arc_value}
use Rattle.std.proofs.lemmas.List.Sums.{length-filter}
use Rattle.be_change.specs.Opening.{is_of_nobody}
use Rattle.be_board.proofs.Posted.{length-addressed}
use Rattle.be_board.proofs.posting.count_addressed.Goals as goal

pub returns : goal.returns
returns c =
    let counted : c.count.result ≡ count_by (λ x. not (is_of_nobody (arc_value x))) c.args.rows.now = search rules in
    counted ∙ sym (length-addressed c.args.rows.now ∙ length-filter (λ x. not (is_of_nobody (arc_value x))) c.args.rows.now)
