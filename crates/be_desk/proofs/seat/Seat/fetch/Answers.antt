-- A letter for another session is passed over, and the first for the present one is given.
use Rattle.std.proofs.Common.{rules, ◌≡◌, None, option_map, sym, ◌∙◌, subst}
use Rattle.be_model.specs.Letters.{plain_letter}
use Rattle.be_board.specs.Letters.{Fetches}
use Rattle.be_desk.specs.Boards.{OnBoards}
use Rattle.be_desk.proofs.Fetched.{over_more, fetches_some, fetches_none}
use Rattle.be_desk.proofs.seat.Seat.fetch.Goals as goal

pub returns-in_err-letter-clause-fetches : goal.returns-in_err-letter-clause-fetches
returns-in_err-letter-clause-fetches g c =
    let gives : c.from_residual.result ≡ None = search rules in
    subst (λ r. OnBoards g.J.Naming.schema (λ b b'. Fetches b b' (option_map plain_letter r)) c.args.self.now c.take.new.self) (sym gives)
    (fetches_none g.J.Naming.schema c.args.self.now c.loop.self c.take.new.self c.take.ensures.empties c.loop.invariant.over c.take.ensures.seat c.in_err-letter.ensures.none)

pub returns-then-mine-clause-fetches : goal.returns-then-mine-clause-fetches
returns-then-mine-clause-fetches g c =
    let t = c.in_ok-letter.ensures.taken in
    fetches_some g.J.Naming.schema c.args.self.now c.loop.self c.take.new.self t.0 (plain_letter c.in_ok-letter.letter) c.loop.invariant.over c.take.ensures.seat t.1

pub loop-preserved : goal.loop-preserved
loop-preserved g c =
    let t = c.in_ok-letter.ensures.taken in
    record {
      next = search rules;
      finite = search rules;
      over = over_more c.args.self.now c.loop.self c.take.new.self t.0 (plain_letter c.in_ok-letter.letter) c.loop.invariant.over c.take.ensures.seat t.1 (sym c.in_ok-letter.ensures.mine ∙ c.if-mine.false);
    }
