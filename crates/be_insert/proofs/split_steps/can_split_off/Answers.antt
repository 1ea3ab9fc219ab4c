use Rattle.std.proofs.Common.{◌≡◌, true, ap, subst}
use Rattle.std.specs.List.{list_all}
use Rattle.be_model.specs.Lies.{row_lies}
use Rattle.be_shape.specs.Plain.{plain, leaf_of}
use Rattle.be_shape.proofs.Plains.{plain_out}
use Rattle.be_insert.proofs.Settled.{row_lie, leaf_may}
use Rattle.be_insert.proofs.split_steps.can_split_off.Goals as goal

pub any_may_pass-requires-clause-lie : goal.any_may_pass-requires-clause-lie
any_may_pass-requires-clause-lie c =
    let s = c.args.s.now in
    let n = c.args.n.now in
    subst (λ l. list_all (row_lies s) l ≡ true) (ap leaf_of (plain_out n)) (row_lie s (leaf_of (plain n)) (leaf_may s (plain n) c.requires.right.may))
