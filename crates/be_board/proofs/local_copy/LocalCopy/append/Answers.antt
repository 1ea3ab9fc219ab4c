-- The list is still an opening and then session 1's.
use Rattle.std.proofs.Common.{rules, ◌≡◌, subst}
use Rattle.std.specs.Arc.{arc_value}
use Rattle.be_change.specs.Entries.{entry_of}
use Rattle.be_copy.specs.Edits.{with_entry}
use Rattle.be_board.specs.LocalCopy.{IsLocal}
use Rattle.be_board.proofs.LocalLists.{local_absorbed}
use Rattle.be_board.proofs.local_copy.LocalCopy.append.Goals as goal

pub invariant_of-self-2 : goal.invariant_of-self-2
invariant_of-self-2 g c =
    let s = g.I.Index.schema c.args.self.now.index in
    let h = c.args.self.now.list in
    let e = entry_of c.args.change in
    let is : arc_value c.in_ok-change.change ≡ c.args.change = search rules in
    let k : IsLocal h c.self.inside.opening c.self.inside.gone = subst (λ v. IsLocal v.list c.self.inside.opening c.self.inside.gone) c.self.view_is c.self.invariant.0 in
    let put : c.absorb.new.self.list ≡ with_entry s h e = subst (λ x. c.absorb.new.self.list ≡ with_entry s h (entry_of x)) is (search rules) in (
      local_absorbed s h c.absorb.new.self.list e c.self.inside.opening c.self.inside.gone c.is_leave_of-leaves.result k c.requires.follows c.requires.own c.is_leave_of-leaves.ensures c.requires.fits put,
      search rules,
    )
