-- Each kind of change.
use Rattle.std.proofs.Common.{◌≡◌, true, length, sym, ap, subst, rules}
use Rattle.std.specs.Arc.{arc_value}
use Rattle.be_change.specs.Entries.{entry_of}
use Rattle.be_base.specs.Text.{Text}
use Rattle.be_change.specs.History.{Entry, subscribed, unsubscribed, left, live, after_entry, is_live_name_of, IsAllowed}
use Rattle.be_desk.specs.Registers.{IsRegister, with_put}
use Rattle.be_desk.proofs.Filing.{noted}
use Rattle.be_desk.proofs.register.Register.note.Goals as goal

pub returns-in-Sub : goal.returns-in-Sub
returns-in-Sub c =
    let h = c.args.list.now.list in
    let e = entry_of c.args.change.now in
    noted c.args.self.now h e (subscribed c.in-Sub.session.0 c.in-Sub.serial (arc_value c.in-Sub.row)) (ap entry_of c.in-Sub.is)
    (subst (λ (x : Entry). IsRegister c.args.self.now (with_put h x)) (ap entry_of c.in-Sub.is) c.requires.filed)

pub remove-requires-clause-filed : goal.remove-requires-clause-filed
remove-requires-clause-filed c = subst (λ (x : Entry). IsRegister c.args.self.now (with_put c.args.list.now.list x)) (ap entry_of c.in-Unsub.is) c.requires.filed

pub remove-requires-clause-there : goal.remove-requires-clause-there
remove-requires-clause-there c =
    let h = c.args.list.now.list in
    let is : c.deref.result.now ≡ c.in-Unsub.name.value = search rules in
    subst (λ (t : Text). is_live_name_of c.in-Unsub.session.0 t (live h) ≡ true) (sym is) (subst (IsAllowed h) (ap entry_of c.in-Unsub.is) c.requires.follows.allowed)

pub returns-in-Unsub : goal.returns-in-Unsub
returns-in-Unsub c =
    let h = c.args.list.now.list in
    let is : c.deref.result.now ≡ c.in-Unsub.name.value = search rules in
    noted c.remove.new.self h (entry_of c.args.change.now) (unsubscribed c.in-Unsub.session.0 c.in-Unsub.serial c.in-Unsub.name.value) (ap entry_of c.in-Unsub.is)
    (subst (λ (t : Text). IsRegister c.remove.new.self (after_entry (live h) (length h) (unsubscribed c.in-Unsub.session.0 c.in-Unsub.serial t))) is (c.remove.ensures c.in-Unsub.serial))

pub leave-requires : goal.leave-requires
leave-requires c = subst (λ (x : Entry). IsRegister c.args.self.now (with_put c.args.list.now.list x)) (ap entry_of c.in-Bye.is) c.requires.filed

pub returns-in-Bye : goal.returns-in-Bye
returns-in-Bye c =
    noted c.leave.new.self c.args.list.now.list (entry_of c.args.change.now) (left c.in-Bye.session.0 c.in-Bye.serial) (ap entry_of c.in-Bye.is) (c.leave.ensures c.in-Bye.serial)
