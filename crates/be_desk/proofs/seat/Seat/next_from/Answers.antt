use Rattle.std.proofs.Common.{ap, ◌∙◌, arith}
use Rattle.std.proofs.lemmas.List.{get_or_default}
use Rattle.be_desk.specs.Seats.{list_in}
use Rattle.be_desk.proofs.Places.{next_in}
use Rattle.be_desk.proofs.seat.Seat.next_from.Goals as goal

pub returns-in-Ok : goal.returns-in-Ok
returns-in-Ok g c =
    (next_in (list_in c.self.inside.made) c.self.inside.places.items c.deref.result.now c.args.self.now.own c.args.place c.in-Ok.field-0 0 c.self.invariant.0 c.deref.ensures.value (ap (λ s. s.own) c.self.view_is)).0 c.in-Ok.ensures.position

pub returns-then-next-len : goal.returns-then-next-len
returns-then-next-len g c =
    (next_in (list_in c.self.inside.made) c.self.inside.places.items c.deref.result.now c.args.self.now.own c.args.place c.in-Err.next c.index.result.now c.self.invariant.0 c.deref.ensures.value (ap (λ s. s.own) c.self.view_is)).1 c.in-Err.ensures.position (omega (arith, c.if-next-len.true, c.len.ensures)) (c.index.ensures ∙ get_or_default c.self.inside.places.items c.in-Err.next c.index.result.now 0 (omega (arith, c.if-next-len.true, c.len.ensures)))

pub returns-else-next-len : goal.returns-else-next-len
returns-else-next-len g c =
    (next_in (list_in c.self.inside.made) c.self.inside.places.items c.deref.result.now c.args.self.now.own c.args.place c.in-Err.next 0 c.self.invariant.0 c.deref.ensures.value (ap (λ s. s.own) c.self.view_is)).2 c.in-Err.ensures.position (omega (arith, c.if-next-len.false, c.len.ensures))
