use Rattle.std.proofs.Common.{sym, ap, ◌∙◌}
use Rattle.std.proofs.lemmas.List.Folds.{list_all-map}
use Rattle.std.specs.List.{list_all}
use Rattle.std.specs.Arc.{arc_value}
use Rattle.be_model.specs.Lies.{row_lies}
use Rattle.worked_growth.proofs.scores.all_lie.Goals as goal

pub returns : goal.returns
returns c = c.each_lies.ensures ∙ ap (list_all (λ x. row_lies c.args.schema.now (arc_value x))) c.as_slice.ensures.value ∙ sym (list_all-map (row_lies c.args.schema.now) (λ x. arc_value x) c.args.rows.now.items)
