-- Letters for other sessions were taken out so far, and nothing else was done.
use Rattle.be_desk.proofs.Fetched.{PassesOver}
use Rattle.be_desk.proofs.seat.Seat.fetch.Given as goal

abbrev pub invariant-loop : goal.invariant-loop
invariant-loop g l = record {
  next : (goal.iterator-loop g).can_next l.iterator';
  finite : (goal.iterator-loop g).is_finite l.iterator';
  over : PassesOver l.initial.self l.self;
}
