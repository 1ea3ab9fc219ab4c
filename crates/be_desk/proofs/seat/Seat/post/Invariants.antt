-- The letters so far were offered, and those that are left may be.
use Rattle.std.proofs.Common.{◌≡◌, ◌++◌, length, map}
use Rattle.std.specs.Prelude.{All}
use Rattle.be_model.specs.Letters.{plain_letter}
use Rattle.be_base.specs.declared.limits.TheConstants.{BOX_LETTERS}
use Rattle.be_mail.specs.Letters.{IsFit}
use Rattle.be_mail.specs.Passes.{Held}
use Rattle.be_board.specs.Word.{IsDelivered}
use Rattle.be_desk.specs.Boards.{Offers}
use Rattle.be_desk.proofs.seat.Seat.post.Given as goal

abbrev pub invariant-loop-letter : goal.invariant-loop-letter
invariant-loop-letter g l = record {
  next : (goal.iterator-loop-letter g).can_next l.letter-iterator;
  finite : (goal.iterator-loop-letter g).is_finite l.letter-iterator;
  letters : l.fn.letters.items ≡ l.yielded ++ l.letter-iterator.rest.items;
  seat : l.self ≡ record l.initial.self { passes = l.self.passes };
  offers : Offers (λ q mailbox. Held g.S.Post.schema g.S.Post.seats g.S.Post.found q mailbox BOX_LETTERS) (length g.J.BoxNames.boxes) (map plain_letter l.yielded) l.put l.initial.self.passes l.self.passes;
  fit : All (IsFit g.S.Post.schema) (map plain_letter l.letter-iterator.rest.items);
  delivered : All (IsDelivered l.initial.self.glass.known) (map plain_letter l.letter-iterator.rest.items);
}
