-- Each letter is offered once.
use Rattle.std.proofs.Common.{◌≡◌, ℕ, ◌+◌, [], ◌∷◌, ◌++◌, cond, length, map, sym, ap, ◌∙◌, subst, append_assoc, arith, length-append}
use Rattle.std.proofs.lemmas.List.{length-map, map-append}
use Rattle.be_model.specs.Letters.{plain_letter}
use Rattle.be_mail.specs.Letters.{IsFit, seat_of}
use Rattle.be_base.specs.declared.limits.TheConstants.{BOX_LETTERS}
use Rattle.be_mail.specs.Passes.{Passes, Held, after_put, after_full}
use Rattle.be_board.specs.Word.{IsDelivered}
use Rattle.be_desk.specs.Seats.{SeatState}
use Rattle.be_desk.specs.Boards.{Offers}
use Rattle.be_desk.proofs.Offered.{next_of, offers_few, offers_put, offers_full}
use Rattle.be_desk.proofs.seat.Seat.post.Given as given
use Rattle.be_desk.proofs.seat.Seat.post.Goals as goal

abbrev full : given.Over → Passes → ℕ → Type 0
full g q mailbox = Held g.S.Post.schema g.S.Post.seats g.S.Post.found q mailbox BOX_LETTERS

pub offer-requires-clause-fit : goal.offer-requires-clause-fit
offer-requires-clause-fit g c =
    (next_of (IsFit g.S.Post.schema) _ (plain_letter c.in-Some.letter) (map plain_letter c.next.new.self.rest.items) (ap (map plain_letter) c.in-Some.ensures.steps.0) c.loop-letter.invariant.fit).0

pub offer-requires-clause-delivered : goal.offer-requires-clause-delivered
offer-requires-clause-delivered g c =
    subst (λ h. IsDelivered h (plain_letter c.in-Some.letter)) (sym (ap (λ s. s.glass.known) c.loop-letter.invariant.seat))
    (next_of (IsDelivered c.args.self.now.glass.known) _ (plain_letter c.in-Some.letter) (map plain_letter c.next.new.self.rest.items) (ap (map plain_letter) c.in-Some.ensures.steps.0) c.loop-letter.invariant.delivered).0

pub overflow_add-put : goal.overflow_add-put
overflow_add-put g c =
    let i = c.loop-letter.invariant in
    let few = offers_few (full g) (length g.J.BoxNames.boxes) (map plain_letter c.loop-letter.yielded) c.loop-letter.put c.args.self.now.passes c.loop-letter.self.passes i.offers in
    let all = ap (λ l. length l) (i.letters ∙ ap (λ l. c.loop-letter.yielded ++ l) c.in-Some.ensures.steps.0) in
    let many = length-append c.loop-letter.yielded (c.in-Some.letter ∷ c.next.new.self.rest.items) in
    omega (arith, few, length-map c.loop-letter.yielded plain_letter, all, many, c.len.ensures, c.len.type_inv)

pub loop-letter-preserved-then-offer : goal.loop-letter-preserved-then-offer
loop-letter-preserved-then-offer g c =
    let i = c.loop-letter.invariant in
    let boxes = g.J.BoxNames.boxes in
    let q = c.args.self.now.passes in
    let fit = next_of (IsFit g.S.Post.schema) _ (plain_letter c.in-Some.letter) (map plain_letter c.next.new.self.rest.items) (ap (map plain_letter) c.in-Some.ensures.steps.0) i.fit in
    let delivered = next_of (IsDelivered c.args.self.now.glass.known) _ (plain_letter c.in-Some.letter) (map plain_letter c.next.new.self.rest.items) (ap (map plain_letter) c.in-Some.ensures.steps.0) i.delivered in
    record {
      next = tt;
      finite = tt;
      letters = i.letters ∙ ap (λ l. c.loop-letter.yielded ++ l) c.in-Some.ensures.steps.0 ∙ sym (append_assoc c.loop-letter.yielded (c.in-Some.letter ∷ []) c.next.new.self.rest.items);
      seat = c.offer.ensures.seat ∙ ap (λ (s : SeatState). record s { passes = c.offer.new.self.passes }) i.seat;
      offers = subst (λ ls. Offers (full g) (length boxes) ls (c.loop-letter.put + 1) q c.offer.new.self.passes) (sym (map-append plain_letter c.loop-letter.yielded (c.in-Some.letter ∷ [])))
          (offers_put (full g) (length boxes) (map plain_letter c.loop-letter.yielded) (plain_letter c.in-Some.letter) c.loop-letter.put q c.loop-letter.self.passes c.offer.new.self.passes i.offers c.if-offer.ensures.put);
      fit = fit.1;
      delivered = delivered.1;
    }

pub loop-letter-preserved : goal.loop-letter-preserved
loop-letter-preserved g c =
    let i = c.loop-letter.invariant in
    let boxes = g.J.BoxNames.boxes in
    let q = c.args.self.now.passes in
    let fit = next_of (IsFit g.S.Post.schema) _ (plain_letter c.in-Some.letter) (map plain_letter c.next.new.self.rest.items) (ap (map plain_letter) c.in-Some.ensures.steps.0) i.fit in
    let delivered = next_of (IsDelivered c.args.self.now.glass.known) _ (plain_letter c.in-Some.letter) (map plain_letter c.next.new.self.rest.items) (ap (map plain_letter) c.in-Some.ensures.steps.0) i.delivered in
    record {
      next = tt;
      finite = tt;
      letters = i.letters ∙ ap (λ l. c.loop-letter.yielded ++ l) c.in-Some.ensures.steps.0 ∙ sym (append_assoc c.loop-letter.yielded (c.in-Some.letter ∷ []) c.next.new.self.rest.items);
      seat = c.offer.ensures.seat ∙ ap (λ (s : SeatState). record s { passes = c.offer.new.self.passes }) i.seat;
      offers = subst (λ ls. Offers (full g) (length boxes) ls c.loop-letter.put q c.offer.new.self.passes) (sym (map-append plain_letter c.loop-letter.yielded (c.in-Some.letter ∷ [])))
          (offers_full (full g) (length boxes) (map plain_letter c.loop-letter.yielded) (plain_letter c.in-Some.letter) c.loop-letter.put q c.loop-letter.self.passes c.offer.new.self.passes i.offers c.if-offer.ensures.put.1 c.if-offer.ensures.put.0);
      fit = fit.1;
      delivered = delivered.1;
    }
