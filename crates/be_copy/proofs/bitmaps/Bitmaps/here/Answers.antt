use Rattle.std.proofs.Common.{ℕ, ◌+◌, ◌*◌, ◌/◌, Some, None, refl, subst, sym}
use Rattle.be_copy.specs.Places.{IsLeast}
use Rattle.be_copy.specs.Bitmaps.{is_noted}
use Rattle.be_copy.proofs.Blocks.{next_here, none_here}
use Rattle.be_copy.proofs.bitmaps.Bitmaps.here.Goals as goal

pub returns-in-Some-next-clause-least : goal.returns-in-Some-next-clause-least
returns-in-Some-next-clause-least c =
    let es = c.args.self.now.blocks.entries in
    let next = c.in-Some-next.ensures.next in
    subst (λ (j : ℕ). IsLeast (is_noted es c.args.key) c.args.from (Some (c.args.from / 32 * 32 + j))) (sym c.from.ensures)
    (next_here es c.args.key c.args.from c.in-Some.marks.now c.in-Some-next.at (sym c.in-Some.ensures.value) (record { low = next.0; block = next.1; marked = next.2; first = next.3 }))

pub returns-in-None-clause-none : goal.returns-in-None-clause-none
returns-in-None-clause-none c =
    none_here c.args.self.now.blocks.entries c.args.key c.args.from (Some c.in-Some.marks.now) (sym c.in-Some.ensures.value) c.in-None.ensures.none

pub returns-in_default-clause-none : goal.returns-in_default-clause-none
returns-in_default-clause-none c = none_here c.args.self.now.blocks.entries c.args.key c.args.from None (sym c.in_default.ensures.value) (λ j low high. refl)
