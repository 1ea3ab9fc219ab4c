-- A board goes on from call to call.
use Rattle.std.proofs.Common.{ℕ, ◌≤◌, refl, sym, ◌∙◌, subst, arith}
use Rattle.be_base.specs.Counts.{HasRisen}
use Rattle.be_base.proofs.Beginnings.{BeginsWith-same, BeginsWith-along}
use Rattle.be_board.specs.State.{BoardCounts, BoardState, NoneFalls, HasGoneOn, GoesOn, Tends}

pub NoneFalls-same : (c : BoardCounts) → NoneFalls c c
NoneFalls-same c = record { reads = omega arith; shuts = omega arith; splits = omega arith; fulls = omega arith; empties = omega arith; puts = omega arith; tends = omega arith }

pub NoneFalls-along : (a b c : BoardCounts) → NoneFalls a b → NoneFalls b c → NoneFalls a c
NoneFalls-along a b c f g = record { reads = omega arith; shuts = omega arith; splits = omega arith; fulls = omega arith; empties = omega arith; puts = omega arith; tends = omega arith }

pub GoesOn-same : (b : BoardState) → GoesOn b b
GoesOn-same b = record { seat = refl; schema = refl; session = refl; alone = refl; per_tend = refl; known = BeginsWith-same b.word.known; counts = NoneFalls-same b.counts; tends = refl }

pub GoesOn-along : (a b c : BoardState) → GoesOn a b → GoesOn b c → GoesOn a c
GoesOn-along a b c f g = record {
  seat = g.seat ∙ f.seat;
  schema = g.schema ∙ f.schema;
  session = g.session ∙ f.session;
  alone = g.alone ∙ f.alone;
  per_tend = g.per_tend ∙ f.per_tend;
  known = BeginsWith-along c.word.known b.word.known a.word.known g.known f.known;
  counts = NoneFalls-along a.counts b.counts c.counts f.counts g.counts;
  tends = g.tends ∙ f.tends;
}

pub gone_on : (b b' : BoardState) → GoesOn b b' → HasGoneOn b b'
gone_on b b' g = record { seat = g.seat; schema = g.schema; session = g.session; alone = g.alone; per_tend = g.per_tend; known = g.known; counts = g.counts }

pub HasGoneOn-along : (a b c : BoardState) → HasGoneOn a b → HasGoneOn b c → HasGoneOn a c
HasGoneOn-along a b c f g = record {
  seat = g.seat ∙ f.seat;
  schema = g.schema ∙ f.schema;
  session = g.session ∙ f.session;
  alone = g.alone ∙ f.alone;
  per_tend = g.per_tend ∙ f.per_tend;
  known = BeginsWith-along c.word.known b.word.known a.word.known g.known f.known;
  counts = NoneFalls-along a.counts b.counts c.counts f.counts g.counts;
}

-- maintenance leaves the board the session's
pub HasGoneOn-tended : (b b' : BoardState) → Tends b b' → HasGoneOn b b'
HasGoneOn-tended b b' t =
    subst (HasGoneOn b) (sym t.3)
    (record {
      seat = refl;
      schema = refl;
      session = refl;
      alone = refl;
      per_tend = refl;
      known = BeginsWith-same b.word.known;
      counts = record { reads = omega arith; shuts = omega arith; splits = omega arith; fulls = omega arith; empties = omega arith; puts = omega arith; tends = t.1 };
    })

-- a count that rose later has risen from before
pub HasRisen-later : (before middle after : ℕ) → before ≤ middle → HasRisen middle after → HasRisen before after
HasRisen-later before middle after more risen = omega (arith, more, risen)
