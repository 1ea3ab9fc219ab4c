-- What the desk answers, as the board of the seat's session says it.
use Rattle.std.proofs.Common.{ℕ, ◌≤◌, map, refl, sym, ap, subst, arith}
use Rattle.be_base.specs.Counts.{last_count}
use Rattle.be_model.specs.Schemas.{Attributes}
use Rattle.be_change.specs.History.{IsWellFormed}
use Rattle.be_change.specs.Requests.{Request}
use Rattle.be_board.specs.declared.answers.Answer.{Answer}
use Rattle.be_board.specs.declared.answers.Answer.TheVariants.{Done, Held, Dup, NoName, Other, Split, NoMemory}
use Rattle.be_mail.specs.Letters.{letter_in}
use Rattle.be_mail.specs.Passes.{Passes}
use Rattle.be_published.specs.States.{GlassState}
use Rattle.be_board.specs.Changes.{Asked, Answers, CountsSplit}
use Rattle.be_desk.specs.Boards.{board_of, put_count}
use Rattle.be_desk.specs.Changes.{Continues, Counts}
use Rattle.be_desk.specs.Seats.{SeatState, word_of}

-- the count of splits doesn't fall
splits_grow : (s s' : SeatState) (answer : Answer) → Counts s s' answer → s.splits ≤ last_count → s.splits ≤ s'.splits
splits_grow s s' (Split a b) c most = omega (arith, c.0, most)
splits_grow s s' (Done n) c most = omega (arith, c.0)
splits_grow s s' (Held n) c most = omega (arith, c.0)
splits_grow s s' (Dup m id) c most = omega (arith, c.0)
splits_grow s s' (NoName m) c most = omega (arith, c.0)
splits_grow s s' (Other m id) c most = omega (arith, c.0)
splits_grow s s' NoMemory c most = omega (arith, c.0)

-- and rises where two numbers were told, and there alone
split_counted : (s s' : SeatState) (answer : Answer) → Counts s s' answer → CountsSplit answer s.splits s'.splits
split_counted s s' (Split a b) c = c.0
split_counted s s' (Done n) c = c.0
split_counted s s' (Held n) c = c.0
split_counted s s' (Dup m id) c = c.0
split_counted s s' (NoName m) c = c.0
split_counted s s' (Other m id) c = c.0
split_counted s s' NoMemory c = c.0

pub asked : (per_tend : ℕ) (schema : Attributes) (tends : ℕ) (s s' : SeatState) (r : Request) (answer : Answer) → Continues s s' → Counts s s' answer → Answers (word_of s) (word_of s') r answer → IsWellFormed s'.glass.known → s.splits ≤ last_count
    → Asked (board_of per_tend schema tends s) (board_of per_tend schema tends s') r answer
asked per_tend schema tends s s' r answer goes counts answers formed most =
    let reads = ap (λ (g : GlassState). g.reads) goes.glass in
    let shuts = ap (λ (g : GlassState). g.shuts) goes.glass in
    let fulls = ap (λ (q : Passes). q.fulls) goes.passes in
    let empties = ap (λ (q : Passes). q.empties) goes.passes in
    record {
      goes = record {
        seat = ap (λ (q : Passes). q.seat) goes.passes;
        schema = refl;
        session = goes.session;
        alone = refl;
        per_tend = refl;
        known = goes.known;
        counts = record {
          reads = omega (arith, reads);
          shuts = omega (arith, shuts);
          splits = splits_grow s s' answer counts most;
          fulls = omega (arith, fulls);
          empties = omega (arith, empties);
          puts = subst (λ (q : Passes). put_count s.passes ≤ put_count q) (sym goes.passes) (omega arith);
          tends = omega arith;
        };
        tends = refl;
      };
      letters = record {
        notes = ap (λ (q : Passes). map letter_in q.taken) goes.passes;
        box = refl;
        puts = ap (λ (q : Passes). put_count q) goes.passes;
        fulls = fulls;
      };
      reads = record { reads = reads; shuts = shuts };
      formed = formed;
      answers = answers;
      split = split_counted s s' answer counts;
      alone = λ is. absurd cc;
    }
