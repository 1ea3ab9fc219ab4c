use Rattle.std.proofs.Common.{sym, ap, subst, ◌∙◌, arith, rules, ◌≡◌, ◌≢◌, ◌+◌, ◌<◌, ◌≤◌, ◌^◌, ◌++◌, ◌∷◌, [], true, false, length, IfOk, IfErr, OnOk, OnErr, MatchResult, ℕ, ◌-◌, ◌*◌, ◌/◌, ◌%◌, Bool, nat_eq, nat_lt, List, slice_index_or, slice_set, bit_and, bit_or, Fits, w8, w32, w64, Bor, MutBor}
use Rattle.std.specs.Arc.{arc_value}
use Rattle.be_change.specs.Entries.{entry_of}
use Rattle.be_change.specs.History.{Entry, session_of, stand, IsWellFormed}
use Rattle.be_change.specs.Made.{change_named}
use Rattle.be_change.specs.Requests as asked
use Rattle.be_change.specs.Sound.{MayAppend, Sound}
use Rattle.be_model.specs.Lies.{conj_lies}
use Rattle.be_board.specs.Changes.{Answers}
use Rattle.be_board.specs.Word.{own_of, top}
use Rattle.be_desk.specs.Asks.{request_of, ask_lies}
use Rattle.be_desk.specs.Changes.{Agrees, IsRift, IsRefusal, Changed, Took, Counts, Continues, serial_in}
use Rattle.be_desk.specs.Desks.{DeskState, HasHeld}
use Rattle.be_desk.specs.Seats.{SeatState, word_of, is_over, placed_at, list_in}
use Rattle.be_base.specs.Lists.{BeginsWith}
use Rattle.be_published.specs.States.{knowing}
use Rattle.be_desk.proofs.Desks.{looked, agreed, few_below}
use Rattle.be_desk.proofs.Records.{serial_few}
use Rattle.be_desk.proofs.Seats.{seat_knowing}
use Rattle.be_desk.proofs.desk.Desk.compare.Goals as goal

pub returns-else-seat-stand-clause-agrees : goal.returns-else-seat-stand-clause-agrees
returns-else-seat-stand-clause-agrees g c =
    let l = looked c.seat.inside.glass c.learn.new.self c.meet-front.new.self c.tell.result c.meet-front.result c.learn.ensures.counts c.learn.ensures.learns c.meet-front.ensures in
    let i = c.seat.invariant in
    let d = c.self.invariant in
    let written : c.len-written.result ≡ length c.args.self.now.published = c.len-written.ensures.len ∙ ap (λ x. length x.published) c.self.view_is in
    let listed = d.0 ∙ ap (λ x. x.list) c.self.view_is in
    let own : List (ℕ × Entry) = placed_at (list_in c.seat.inside.made) c.seat.inside.places.items in
    let made : c.top-made.result ≡ top own = c.top-made.ensures in (
      agreed c.args.self.now _ c.meet-front.result c.len-written.result c.top-made.result c.seat.inside.serial c.stand-stand.result c.requires.published
          (subst (λ t. BeginsWith c.meet-front.new.self.known t) (c.tell.ensures ∙ ap (λ x. x.published) c.self.view_is) l.2)
          c.meet-front.ensures.length written made c.if-front-written.false c.if-made-written.false i.1.serial_is
          (c.stand-stand.ensures ∙ ap (λ h. stand c.seat.inside.session.0 h) listed) c.if-seat-stand.false,
      few_below (length (own_of c.seat.inside.session.0 own)) (length (list_in c.seat.inside.made)) c.top-made.result c.len-written.result c.len-few.result
          (serial_few (list_in c.seat.inside.made) c.seat.inside.places.items c.seat.inside.session.0 i.0)
          (i.0.last ∙ sym made) c.if-made-written.false (written ∙ (ap (λ h. length h) (c.requires.published ∙ sym listed) ∙ sym c.len-few.ensures.len)) c.len-few.ensures.few,
    )

pub invariant_of-seat-2 : goal.invariant_of-seat-2
invariant_of-seat-2 g c =
    let l = looked c.seat.inside.glass c.learn.new.self c.meet-front.new.self c.tell.result c.meet-front.result c.learn.ensures.counts c.learn.ensures.learns c.meet-front.ensures in
    let i = c.seat.invariant in
    let k = seat_knowing g.J.BoxNames.boxes c.seat.inside.serial c.seat.inside.gone _ c.meet-front.new.self l.1 i.1 in
    let counted = c.saturating_add-seat-inside.ensures in
    (i.0, record { kept = record { boxes_are = k.kept.boxes_are; somebody = k.kept.somebody; seat_is = k.kept.seat_is; own_all = k.kept.own_all; delivered = k.kept.delivered }; serial_is = k.serial_is; gone_is = k.gone_is }, ((λ none. absurd cc), (λ none. absurd (omega (arith, none, counted)))))

pub returns-clause-goes : goal.returns-clause-goes
returns-clause-goes g c =
    let l = looked c.seat.inside.glass c.learn.new.self c.meet-front.new.self c.tell.result c.meet-front.result c.learn.ensures.counts c.learn.ensures.learns c.meet-front.ensures in
    record {
      session = ap (λ s. s.session) c.seat.view_is;
      passes = ap (λ s. s.passes) c.seat.view_is;
      known = subst (λ s. BeginsWith c.meet-front.new.self.known s.glass.known) c.seat.view_is l.1;
      glass = subst (λ s. c.meet-front.new.self ≡ knowing c.meet-front.new.self.known s.glass) c.seat.view_is l.0;
    }

pub invariant_of-seat-else-seat-stand : goal.invariant_of-seat-else-seat-stand
invariant_of-seat-else-seat-stand g c =
    let l = looked c.seat.inside.glass c.learn.new.self c.meet-front.new.self c.tell.result c.meet-front.result c.learn.ensures.counts c.learn.ensures.learns c.meet-front.ensures in
    let i = c.seat.invariant in
    (i.0, seat_knowing g.J.BoxNames.boxes c.seat.inside.serial c.seat.inside.gone _ c.meet-front.new.self l.1 i.1, i.2)

pub returns-else-seat-stand-clause-goes : goal.returns-else-seat-stand-clause-goes
returns-else-seat-stand-clause-goes g c =
    let l = looked c.seat.inside.glass c.learn.new.self c.meet-front.new.self c.tell.result c.meet-front.result c.learn.ensures.counts c.learn.ensures.learns c.meet-front.ensures in
    record {
      session = ap (λ s. s.session) c.seat.view_is;
      passes = ap (λ s. s.passes) c.seat.view_is;
      known = subst (λ s. BeginsWith c.meet-front.new.self.known s.glass.known) c.seat.view_is l.1;
      glass = subst (λ s. c.meet-front.new.self ≡ knowing c.meet-front.new.self.known s.glass) c.seat.view_is l.0;
    }
