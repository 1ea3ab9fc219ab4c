use Rattle.std.proofs.Common.{ℕ, ◌+◌, ◌*◌, ◌-◌, ◌/◌, ◌^◌, Some, subst, sym, arith}
use Rattle.be_copy.specs.Places.{IsLeast}
use Rattle.be_copy.specs.Bitmaps.{is_noted}
use Rattle.be_copy.proofs.Blocks.{after_some, after_none}
use Rattle.be_copy.proofs.bitmaps.Bitmaps.after.Goals as goal

pub returns-in-Some : goal.returns-in-Some
returns-in-Some c =
    let between = c.range.ensures.in_range (record {}) in
    subst (λ (j : ℕ). IsLeast (is_noted c.args.self.now.blocks.entries c.args.key) ((c.args.block + 1) * 32) (Some (c.in-Some.block.now.1 * 32 + j))) (sym c.from.ensures)
    (after_some c.args.self.now.blocks.entries c.args.key c.args.block (2 ^ 64 / 32 - 1) c.first.result c.range.result c.next.new.self (c.in-Some.block.now, c.in-Some.marks.now)
    c.in-Some.ensures.steps between.1 between.2 (record { block = c.first.ensures.block; marked = c.first.ensures.marked; first = c.first.ensures.first }))

pub returns-in-None : goal.returns-in-None
returns-in-None c =
    let between = c.range.ensures.in_range (record {}) in
    after_none c.args.self.now.blocks.entries c.args.key c.args.block (2 ^ 64 / 32 - 1) (omega arith) (between.5 c.in-None.ensures.steps.0)
