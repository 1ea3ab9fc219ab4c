use Rattle.std.proofs.Common.{sym, ap, subst, refl, ◌∙◌, arith, length-append, ◌≡◌, ◌+◌, ◌<◌, ◌++◌, ◌∷◌, [], false, length, ◌-◌}
use Rattle.std.specs.Arc.{arc_value}
use Rattle.be_change.specs.Entries.{entry_of}
use Rattle.be_change.specs.History.{Entry, session_of, is_leave_of}
use Rattle.be_desk.specs.Desks.{IsHeld, IsOpened}
use Rattle.be_desk.specs.Seats.{SeatState, is_over, list_in, placed_at, IsRecord, IsSeat}
use Rattle.be_base.specs.Lists.{BeginsWith}
use Rattle.be_base.proofs.Beginnings.{BeginsWith-length}
use Rattle.be_desk.proofs.Seats.{took_seat, seat_knowing}
use Rattle.be_desk.proofs.Desks.{told_all}
use Rattle.be_desk.proofs.Records.{serial_few}
use Rattle.be_desk.proofs.Openings.{opened_more}
use Rattle.be_desk.proofs.desk.Desk.take.Given as given
use Rattle.be_desk.proofs.desk.Desk.take.Goals as goal
use Rattle.be_desk.proofs.desk.Desk.take.Goals.{After-again}

pub invariant_of-self-2 : goal.invariant_of-self-2
invariant_of-self-2 g c =
    let i = c.self.invariant in
    let e : Entry = entry_of (arc_value c.args.change) in
    let grown : c.append.new.press.list ≡ c.self.inside.press.list ++ e ∷ [] = c.append.ensures.press.0 ∙ (c.in-Ok.ensures.list ∙ ap (λ h. h ++ e ∷ []) i.0) in
    let own : session_of e ≡ c.seat.inside.session.0 = c.requires.own ∙ sym (ap (λ x. x.session) c.seat.view_is) in
    let some : 0 < session_of e = omega (arith, own, c.seat.invariant.1.kept.somebody) in
    let settled : c.self.inside.press.list ≡ c.append.new.press.published =
    ap (λ x. x.list) c.self.view_is ∙ (sym c.requires.agrees.published ∙ (sym (ap (λ x. x.published) c.self.view_is) ∙ sym c.append.ensures.press.1)) in
    let more : c.append.new.press.list ≡ c.append.new.press.published ++ e ∷ [] = grown ∙ ap (λ h. h ++ e ∷ []) settled in
    let held : IsHeld c.append.new.press.published c.append.new.press.list = record { begins = (e ∷ [], more); one = omega (arith, ap (λ h. length h) more, length-append c.append.new.press.published (e ∷ [])) } in
    (sym c.append.ensures.press.0, held, i.2, i.3, subst (IsOpened g.J.Naming.opening) (sym grown) (opened_more _ _ e some i.4))

pub overflow_add-seat : goal.overflow_add-seat
overflow_add-seat g c =
    let few = serial_few (list_in c.seat.inside.made) c.seat.inside.places.items c.seat.inside.session.0 c.seat.invariant.0 in
    let serial = c.seat.invariant.1.serial_is in
    let begins = BeginsWith-length _ _ c.begins.ensures in
    let whole = ap (λ h. length h) c.whole.ensures in
    let ledger = ap (λ h. length h) c.self.invariant.0 in
    let long = ap (λ h. length h) c.in-Ok.ensures.list ∙ length-append c.self.inside.ledger (entry_of (arc_value c.args.change) ∷ []) in
    let n = c.in-Ok.ensures.length in
    let most = c.in-Ok.ensures.few in
    omega (arith, few, serial, begins, whole, ledger, long, n, most)

-- what the seat's type keeps, with the change as the last of its own
took : (g : given.Over) (c : After-again g) (s : SeatState) → s ≡ c.args.seat.now → s.own ≡ placed_at (list_in c.seat.inside.made) c.seat.inside.places.items → c.is_leave_of-leaves.result ≡ is_leave_of s.session (entry_of (arc_value c.args.change))
    → IsSeat g.J.BoxNames.boxes c.seat.inside.serial c.seat.inside.gone s
    → IsRecord c.again.result c.append.new.places.items × (placed_at c.again.result c.append.new.places.items ≡ s.own ++ (length c.self.inside.ledger, entry_of (arc_value c.args.change)) ∷ [])
    × IsSeat g.J.BoxNames.boxes (c.seat.inside.serial + 1) c.is_leave_of-leaves.result (record s { own = placed_at c.again.result c.append.new.places.items })
took g c s is own leaves k =
    took_seat g.J.BoxNames.boxes (list_in c.seat.inside.made) c.self.inside.ledger c.again.result c.seat.inside.places.items c.append.new.places.items c.seat.inside.serial c.seat.inside.gone c.is_leave_of-leaves.result s (entry_of (arc_value c.args.change)) c.seat.invariant.0 own
    (subst (λ h. BeginsWith h (list_in c.seat.inside.made)) (c.whole.ensures ∙ sym c.self.invariant.0) c.begins.ensures)
    (c.again.ensures ∙ (c.whole-2.ensures ∙ (c.append.ensures.press.0 ∙ c.in-Ok.ensures.list)))
    c.in-Ok.ensures.places leaves
    (subst (λ x. is_over x ≡ false) (sym is) c.requires.present)
    (c.requires.own ∙ sym (ap (λ x. x.session) is)) k

pub invariant_of-seat-in-Err : goal.invariant_of-seat-in-Err
invariant_of-seat-in-Err g c =
    let i = c.seat.invariant in
    let t = took g (goal.at.invariant_of-seat-in-Err g c).After-again _ c.seat.view_is refl (c.is_leave_of-leaves.ensures ∙ ap (λ x. is_leave_of c.seat.inside.session.0 (entry_of x)) c.deref.ensures) i.1 in
    (t.0, t.2, i.2)

pub returns-in-Err-clause-took : goal.returns-in-Err-clause-took
returns-in-Err-clause-took g c =
    let i = c.seat.invariant in
    let e : Entry = entry_of (arc_value c.args.change) in
    let t = took g (goal.at.returns-in-Err-clause-took g c).After-again _ c.seat.view_is refl (c.is_leave_of-leaves.ensures ∙ ap (λ x. is_leave_of c.seat.inside.session.0 (entry_of x)) c.deref.ensures) i.1 in
    let listed : c.self.inside.ledger ≡ c.args.self.now.list = c.self.invariant.0 ∙ ap (λ x. x.list) c.self.view_is in
    let grown : c.free.new.self.list ≡ c.append.new.ledger = ap (λ x. x.list) c.in-Err.ensures.0 ∙ c.append.ensures.press.0 in (
      record {
        list = grown ∙ (c.in-Ok.ensures.list ∙ ap (λ h. h ++ e ∷ []) listed);
        own = t.1 ∙ (ap (λ x. x.own ++ (length c.self.inside.ledger, e) ∷ []) c.seat.view_is ∙ ap (λ h. c.args.seat.now.own ++ (length h, e) ∷ []) listed);
        count = c.in-Ok.ensures.length ∙ ap (λ h. length h) (sym grown);
      },
      ap (λ x. x.published) c.in-Err.ensures.0 ∙ (c.append.ensures.press.1 ∙ (ap (λ x. x.published) c.self.view_is ∙ c.requires.agrees.published)),
      ap (λ x. x.glass.known) c.seat.view_is ∙ c.requires.agrees.known,
    )

pub invariant_of-seat-in-Ok-free : goal.invariant_of-seat-in-Ok-free
invariant_of-seat-in-Ok-free g c =
    let i = c.seat.invariant in
    let t = took g (goal.at.invariant_of-seat-in-Ok-free g c).After-again _ c.seat.view_is refl (c.is_leave_of-leaves.ensures ∙ ap (λ x. is_leave_of c.seat.inside.session.0 (entry_of x)) c.deref.ensures) i.1 in
    let k = seat_knowing g.J.BoxNames.boxes (c.seat.inside.serial + 1) c.is_leave_of-leaves.result _ c.learn.new.self c.learn.ensures.learns.before t.2 in
    (t.0, k, i.2)

pub returns-clause-took : goal.returns-clause-took
returns-clause-took g c =
    let i = c.seat.invariant in
    let e : Entry = entry_of (arc_value c.args.change) in
    let t = took g (goal.at.returns-clause-took g c).After-again _ c.seat.view_is refl (c.is_leave_of-leaves.ensures ∙ ap (λ x. is_leave_of c.seat.inside.session.0 (entry_of x)) c.deref.ensures) i.1 in
    let listed : c.self.inside.ledger ≡ c.args.self.now.list = c.self.invariant.0 ∙ ap (λ x. x.list) c.self.view_is in
    let free = c.in-Ok-free.ensures in
    let grown : c.free.new.self.list ≡ c.append.new.ledger = ap (λ x. x.list) free ∙ c.append.ensures.press.0 in
    let told : c.tell.result ≡ c.free.new.self.list = c.tell.ensures ∙ (ap (λ x. x.published) c.self-2.view_is ∙ (ap (λ x. x.published) free ∙ sym (ap (λ x. x.list) free))) in
    let all : c.free.new.self.list ≡ c.args.self.now.list ++ e ∷ [] = grown ∙ (c.in-Ok.ensures.list ∙ ap (λ h. h ++ e ∷ []) listed) in (
      record {
        list = all;
        own = t.1 ∙ (ap (λ x. x.own ++ (length c.self.inside.ledger, e) ∷ []) c.seat.view_is ∙ ap (λ h. c.args.seat.now.own ++ (length h, e) ∷ []) listed);
        count = c.in-Ok.ensures.length ∙ ap (λ h. length h) (sym grown);
      },
      ap (λ x. x.published) free ∙ sym (ap (λ x. x.list) free),
      told_all c.seat.inside.glass.known c.tell.result c.learn.new.self.known c.args.self.now.list e c.learn.ensures.learns.told c.learn.ensures.longer
          (ap (λ x. x.glass.known) c.seat.view_is ∙ c.requires.agrees.known) (told ∙ all) ∙ told,
    )
