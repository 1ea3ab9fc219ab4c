use Rattle.std.proofs.Common.{rules, not, ◌∙◌, ap}
use Rattle.std.specs.Arc.{arc_value}
use Rattle.std.proofs.lemmas.Fn.{filter_same}
use Rattle.be_change.specs.History.{is_of}
use Rattle.be_core.specs.Memory.{live_in}
use Rattle.be_core.proofs.InMemory.{filter_live}
use Rattle.be_core.proofs.live.drop_all_of.Goals as goal

pub returns : goal.returns
returns c =
    ap live_in (filter_same _ (λ x. not (is_of c.args.session.0 (x.0, arc_value x.1))) _ (λ x b f' k. search rules) _ _ c.retain.ensures.filtered)
    ∙ filter_live (λ r. not (is_of c.args.session.0 r)) c.args.rows.now.items
