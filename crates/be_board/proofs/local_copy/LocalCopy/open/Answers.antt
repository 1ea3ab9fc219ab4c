-- The list is an opening.
use Rattle.std.proofs.Common.{rules, ◌≡◌, length, false, subst, sym}
use Rattle.be_board.specs.LocalCopy.{IsLocal}
use Rattle.be_board.proofs.LocalLists.{local_opened}
use Rattle.be_board.proofs.local_copy.LocalCopy.open.Goals as goal

pub invariant_of-result : goal.invariant_of-result
invariant_of-result g c =
    let h = c.in_ok-copy.copy.list in
    let many : c.len-opening.result ≡ length h = search rules in (
      subst (λ n. IsLocal h n false) (sym many) (local_opened c.args.rows.items h c.requires.table c.in_ok-copy.ensures.list),
      search rules,
    )
