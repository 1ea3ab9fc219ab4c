use Rattle.be_published.specs.States.{knowing}
use Rattle.std.proofs.Common.{sym, ap, subst, ◌∙◌, rules, ◌≡◌, ◌+◌, ◌<◌, ◌≤◌, ◌↔◌, Some, None, length, IfSome, MatchResult, OnErr, ℕ, ◌-◌, ◌*◌, ◌/◌, ◌%◌, Bool, true, false, nat_eq, nat_lt, List, [], ◌∷◌, ◌++◌, slice_index_or, slice_set, bit_and, bit_or, Fits, w8, w32, w64, Bor, MutBor}
use Rattle.std.specs.Option.{is_some}
use Rattle.be_base.specs.Lists.{BeginsWith}
use Rattle.be_change.specs.Sound.{Sound}
use Rattle.be_published.specs.Reads.{Meets}
use Rattle.be_desk.specs.Desks.{freed, HasHeld}
use Rattle.be_desk.specs.Numbers.{numbers}
use Rattle.be_desk.specs.Rifts.{numbers_of}
use Rattle.be_desk.specs.Seats.{SeatState, is_over}
use Rattle.be_desk.specs.Changes.{Continues}
use Rattle.be_desk.proofs.Desks.{looked}
use Rattle.be_desk.proofs.desk.Desk.show.Goals as goal

pub returns-clause-goes : goal.returns-clause-goes
returns-clause-goes g c =
    let l = looked c.seat.inside.glass c.learn.new.self c.meet.new.self c.tell.result c.meet.result c.learn.ensures.counts c.learn.ensures.learns c.meet.ensures in
    record {
      session = ap (λ s. s.session) c.seat.view_is;
      passes = ap (λ s. s.passes) c.seat.view_is;
      known = subst (λ s. BeginsWith c.meet.new.self.known s.glass.known) c.seat.view_is l.1;
      glass = subst (λ s. c.meet.new.self ≡ knowing c.meet.new.self.known s.glass) c.seat.view_is l.0;
    }

pub returns-clause-known : goal.returns-clause-known
returns-clause-known g c =
    let l = looked c.seat.inside.glass c.learn.new.self c.meet.new.self c.tell.result c.meet.result c.learn.ensures.counts c.learn.ensures.learns c.meet.ensures in
    subst (λ t. BeginsWith c.meet.new.self.known t) (c.tell.ensures ∙ ap (λ d. d.published) c.self.view_is) l.2
