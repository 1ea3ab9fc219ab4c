use Rattle.std.proofs.Common.{sym, ap, subst, None, ◌∙◌, rules, ◌≡◌, ◌≢◌, ◌+◌, ◌<◌, ◌≤◌, ◌^◌, ◌++◌, ◌∷◌, [], true, false, length, IfOk, IfErr, OnOk, OnErr, MatchResult, ℕ, ◌-◌, ◌*◌, ◌/◌, ◌%◌, Bool, nat_eq, nat_lt, List, slice_index_or, slice_set, bit_and, bit_or, Fits, w8, w32, w64, Bor, MutBor}
use Rattle.std.specs.Arc.{arc_value}
use Rattle.be_base.specs.Lists.{BeginsWith}
use Rattle.be_base.specs.declared.limits.TheConstants.{LOG_CHANGES}
use Rattle.be_change.specs.Entries.{entry_of}
use Rattle.be_change.specs.History.{session_of, IsWellFormed}
use Rattle.be_change.specs.Made.{change_named}
use Rattle.be_change.specs.Requests as asked
use Rattle.be_change.specs.Sound.{MayAppend, Sound}
use Rattle.be_model.specs.Lies.{conj_lies}
use Rattle.be_board.specs.Changes.{Answers}
use Rattle.be_desk.specs.Asks.{request_of, ask_lies}
use Rattle.be_desk.specs.Changes.{Agrees, IsRift, IsRefusal, Changed, Took, Counts, Continues, serial_in}
use Rattle.be_desk.specs.Desks.{DeskState, HasHeld}
use Rattle.be_desk.specs.Seats.{SeatState, word_of, is_over, list_in}
use Rattle.be_change.specs.History.{live, stand}
use Rattle.be_core.specs.World.{named}
use Rattle.be_core.proofs.Naming.{named_none}
use Rattle.be_desk.specs.Ledgers.{IsNamed}
use Rattle.be_desk.proofs.Draws.{named_elsewhere, may_unsub, few_serial}
use Rattle.be_desk.proofs.desk.Desk.draw_unsub.Goals as goal

pub returns-then-owner-seat-clause-refused : goal.returns-then-owner-seat-clause-refused
returns-then-owner-seat-clause-refused g c =
    let listed : c.self.inside.ledger ≡ c.args.self.now.list = c.self.invariant.0 ∙ ap (λ x. x.list) c.self.view_is in
    let there = subst (λ h. IsNamed c.args.name (live h) c.in-Some.id c.in-Some.owner.0) listed c.in-Some.ensures in
    λ _. ((c.len-m.ensures.len ∙ ap (λ x. length x.published) c.self.view_is ∙ ap (λ h. length h) c.requires.agrees.published), named_elsewhere c.args.self.now.list c.args.seat.now.session c.args.name c.in-Some.id c.in-Some.owner.0 there (λ e. c.if-owner-seat.true (e ∙ sym (ap (λ x. x.session) c.seat.view_is))))

pub returns-in-None-clause-refused : goal.returns-in-None-clause-refused
returns-in-None-clause-refused g c =
    let listed : c.self.inside.ledger ≡ c.args.self.now.list = c.self.invariant.0 ∙ ap (λ x. x.list) c.self.view_is in
    λ _. ((c.len-m.ensures.len ∙ ap (λ x. length x.published) c.self.view_is ∙ ap (λ h. length h) c.requires.agrees.published), named_none c.args.name (live c.args.self.now.list) (subst (λ h. named c.args.name (live h) ≡ None) listed c.in-None.ensures))

pub returns-in-Ok-clause-may : goal.returns-in-Ok-clause-may
returns-in-Ok-clause-may g c =
    let listed : c.self.inside.ledger ≡ c.args.self.now.list = c.self.invariant.0 ∙ ap (λ x. x.list) c.self.view_is in
    let somebody = c.seat.invariant.1.kept.somebody in
    let stood = ap (λ x. stand x.session c.args.self.now.list) c.seat.view_is ∙ (c.requires.agrees.stands ∙ sym (ap (λ x. serial_in x) c.seat.view_is)) in
    let serial = c.seat.invariant.1.serial_is in
    let there = subst (λ h. IsNamed c.args.name (live h) c.in-Some.id c.in-Some.owner.0) listed c.in-Some.ensures in
    subst (MayAppend g.J.Naming.schema c.args.self.now.list) (sym c.in-Ok.ensures)
    (may_unsub g.J.Naming.schema c.args.self.now.list c.seat.inside.session.0 c.seat.inside.serial c.args.name c.in-Some.id c.in-Some.owner.0 somebody (stood ∙ sym serial) (few_serial _ _ c.requires.few (serial ∙ ap (λ x. serial_in x) c.seat.view_is)) there c.if-owner-seat.false)
