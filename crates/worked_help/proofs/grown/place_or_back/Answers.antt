use Rattle.std.proofs.Common.{◌≡◌, ◌+◌, false, sym, subst, ap, ◌∙◌}
use Rattle.std.specs.Arc.{arc_value}
use Rattle.be_model.specs.ByIds.{has_id}
use Rattle.be_shape.specs.Plain.{plain, contents}
use Rattle.worked_help.proofs.Below.{are_below, next_is_new, one_more}
use Rattle.worked_help.proofs.grown.place_or_back.Goals as goal

pub place-requires-clause-new : goal.place-requires-clause-new
place-requires-clause-new c =
    subst (λ n. has_id n (contents (plain c.args.tree.now.root)) ≡ false) (sym c.requires.id) (next_is_new c.args.next (contents (plain c.args.tree.now.root)) c.requires.below)

pub returns-in-Ok-clause-put : goal.returns-in-Ok-clause-put
returns-in-Ok-clause-put c =
    ap (are_below (c.args.next + 1)) c.in-Ok.ensures.put ∙ one_more c.args.next (arc_value c.args.row) (contents (plain c.args.tree.now.root)) c.requires.id c.requires.below
