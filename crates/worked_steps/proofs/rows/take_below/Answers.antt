use Rattle.std.proofs.Common.{◌≡◌, ℕ, true, not, eqb, ltb, sym, ap, ◌∙◌, subst}
use Rattle.be_model.specs.declared.changes.Row.{Row}
use Rattle.be_model.specs.Rows.{id_of}
use Rattle.be_shape.specs.Plain.{plain, contents}
use Rattle.be_shape.proofs.Lists.{filter_keeps}
use Rattle.be_remove.proofs.Groups.{either}
use Rattle.worked_help.proofs.Below.{are_below}
use Rattle.worked_steps.proofs.rows.take_below.Goals as goal

pub returns : goal.returns
returns c =
    let next = c.args.next in
    let old = contents (plain c.args.tree.now.root) in
    let id = id_of c.args.row.now in
    either c.take.result c.take.ensures.taken c.take.ensures.none (λ e. ap (are_below next) e ∙ filter_keeps (λ (r : ℕ × Row). ltb r.0 next) (λ (r : ℕ × Row). not (eqb r.0 id)) old c.requires)
    (λ e. ap (λ n. are_below next (contents n)) e ∙ c.requires)
