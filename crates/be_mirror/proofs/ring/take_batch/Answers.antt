use Rattle.std.proofs.Common.{◌≡◌, ◌++◌, ◌∷◌, [], sym, ap, ◌∙◌, subst}
use Rattle.rtrb.specs.Ring.{received}
use Rattle.be_change.specs.Entries.{entries_in}
use Rattle.be_change.specs.Sound.{Sound}
use Rattle.be_mirror.proofs.Handing.{entries_on, handed_on, sound_on, taker_along}
use Rattle.be_mirror.proofs.ring.take_batch.Goals as goal

pub loop-preserved : goal.loop-preserved
loop-preserved g c =
    let i = c.loop.invariant in
    let popped = c.in-Ok.ensures.ok in
    let x = c.in-Ok.change in
    let first = entries_in (received c.args.taker.now) in
    let taken = received c.loop.taker in (
      taker_along c.args.taker.now c.loop.taker c.pop.new.self i.0 c.pop.ensures.ring,
      subst (λ l. entries_in (received c.pop.new.self) ≡ first ++ entries_in l) (sym (c.push_reserved.ensures.items ∙ ap (λ l. l ++ x ∷ []) c.reserve.ensures.items))
          (handed_on first (entries_in taken) (entries_in (received c.pop.new.self)) c.loop.batch.items x i.1 (ap (λ l. entries_in l) popped.0 ∙ entries_on taken x)),
      subst (λ l. Sound g.P.Printer.schema (entries_in l)) (sym popped.0) (sound_on g.P.Printer.schema taken x i.2 popped.2),
    )
