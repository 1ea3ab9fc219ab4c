use Rattle.std.proofs.Common.{rules, ◌≡◌, ◌≢◌, ◌+◌, ℕ, Some, false, refl, ap, subst}
use Rattle.be_model.specs.ByIds.{SayIds}
use Rattle.be_change.specs.History.{live, is_live_name, IsWellFormed}
use Rattle.be_change.proofs.Grows.{rising_live}
use Rattle.be_change.proofs.Names.{live_say}
use Rattle.be_board.proofs.LocalWords.{row_named, answered_unsub, answered_none, answered_other, answered_no_unsub, first_stands, first_owned}
use Rattle.be_board.proofs.local_copy.LocalCopy.remove_named.Goals as goal

pub returns-in_default-clause-answered : goal.returns-in_default-clause-answered
returns-in_default-clause-answered g c =
    let free : is_live_name c.args.name.now (live c.args.self.now.list) ≡ false = search rules in
    answered_none c.args.self.now.list c.args.self.now.list c.args.name.now c.len-m.result c.len-m.ensures.len refl free

pub returns-then-deref-clause-answered : goal.returns-then-deref-clause-answered
returns-then-deref-clause-answered g c =
    let h = c.args.self.now.list in
    let row = c.deref-then-deref.result.now in
    let say : SayIds (live h) = live_say h (subst (λ v. IsWellFormed v.list) c.self.view_is c.self.invariant.0.form.formed) in
    let first : row_named c.args.name.now (live h) ≡ Some row = search rules in
    let stands = first_stands c.args.name.now (live h) row (rising_live h) say first in
    let apart : row.session.0 ≢ 1 = search rules in
    answered_other h h c.args.name.now c.len-m.result row.id.0 c.len-m.ensures.len refl (row, stands.0, stands.1, apart)

pub remove-requires-clause-there : goal.remove-requires-clause-there
remove-requires-clause-there g c =
    let h = c.args.self.now.list in
    let row = c.deref.result.now in
    let first : row_named c.args.name.now (live h) ≡ Some row = search rules in
    let own : row.session.0 ≡ 1 = search rules in
    first_owned 1 c.args.name.now (live h) row own first

pub returns-in-Ok-clause-answered : goal.returns-in-Ok-clause-answered
returns-in-Ok-clause-answered g c =
    answered_unsub c.args.self.now.list c.remove.new.self.list c.args.name.now (c.len-m.result + 1) (ap (λ (n : ℕ). n + 1) c.len-m.ensures.len) c.in-Ok.ensures.removed

pub returns-in-Err-clause-answered : goal.returns-in-Err-clause-answered
returns-in-Err-clause-answered g c =
    let h = c.args.self.now.list in
    let row = c.deref.result.now in
    let first : row_named c.args.name.now (live h) ≡ Some row = search rules in
    let own : row.session.0 ≡ 1 = search rules in
    answered_no_unsub h c.remove.new.self.list c.args.name.now c.in-Err.ensures.refused (first_owned 1 c.args.name.now (live h) row own first)
