use Rattle.std.proofs.Common.{length, ap, ◌∙◌, arith}
use Rattle.rtrb.specs.Ring.{sent, received, known_items}
use Rattle.be_base.proofs.Beginnings.{BeginsWith-whole}
use Rattle.be_follow.specs.Followers.{FollowerState}
use Rattle.be_mirror.specs.Feeders.{FeederState}
use Rattle.be_mirror.proofs.Handing.{ring_begins}
use Rattle.be_mirror.proofs.feeder.Feeder.take.Goals as goal

pub take_and_print-printed-requires-clause-empty : goal.take_and_print-printed-requires-clause-empty
take_and_print-printed-requires-clause-empty g c κs within =
    let new = c.self.view_is ∙ c.requires.new.0 in
    let none = ap (λ (f : FeederState). f.took.fed.list) new in (
      c.in-Ok.ensures.producer.0,
      c.in-Ok.ensures.consumer.0,
      BeginsWith-whole c.self.inside.ledger.fed.list (g.P.Printer.list c.self.inside.direct.press) c.self.invariant.1 (omega (arith, ap (λ l. length l) none)) ∙ none,
      ap (λ (f : FeederState). f.published) new,
    )

pub invariant_of-self : goal.invariant_of-self
invariant_of-self g c =
    let t = c.take_and_print-printed.ensures in
    let both = c.take_and_print-printed.new in
    let looked = c.slots_beside in (
      t.given.1,
      ring_begins both.ledger.fed.list (g.P.Printer.list both.press) (sent both.giver) (sent looked.new.producer) (received both.taker) (received looked.new.self) (known_items looked.new.self)
          looked.ensures.looked.1 looked.ensures.producer.1 looked.ensures.fifo t.given.2 t.taken.1,
      t.seen,
    )

pub invariant_of-self-in-Ok-Some : goal.invariant_of-self-in-Ok-Some
invariant_of-self-in-Ok-Some g c =
    let t = c.take_and_print-printed.ensures in
    let both = c.take_and_print-printed.new in
    let looked = c.slots_beside in (
      t.given.1,
      ring_begins both.ledger.fed.list (g.P.Printer.list both.press) (sent both.giver) (sent looked.new.producer) (received both.taker) (received looked.new.self) (known_items looked.new.self)
          looked.ensures.looked.1 looked.ensures.producer.1 looked.ensures.fifo t.given.2 t.taken.1,
      t.seen,
    )

pub put_pieces-requires-clause-empty : goal.put_pieces-requires-clause-empty
put_pieces-requires-clause-empty g c =
    let t = c.take_and_print-printed.ensures in
    let both = c.take_and_print-printed.new in
    let looked = c.slots_beside in
    let none = ap (λ (f : FollowerState). f.fed.list) (t.nothing c.in-Ok-None.is-1).0 ∙ ap (λ (f : FeederState). f.took.fed.list) (c.self.view_is ∙ c.requires.new.0) in
    BeginsWith-whole both.ledger.fed.list (g.P.Printer.list both.press) (
    ring_begins both.ledger.fed.list (g.P.Printer.list both.press) (sent both.giver) (sent looked.new.producer) (received both.taker) (received looked.new.self) (known_items looked.new.self)
    looked.ensures.looked.1 looked.ensures.producer.1 looked.ensures.fifo t.given.2 t.taken.1
    ) (omega (arith, ap (λ l. length l) none))
    ∙ none

pub invariant_of-self-in-Ok-None : goal.invariant_of-self-in-Ok-None
invariant_of-self-in-Ok-None g c = c.put_pieces.ensures.put
