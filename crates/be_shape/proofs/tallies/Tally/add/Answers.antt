use Rattle.std.proofs.Common.{sym, subst, arith}
use Rattle.be_shape.specs.declared.listings.RowAttrs.{RowAttrs}
use Rattle.be_shape.specs.Common.{Notes, is_listed}
use Rattle.be_shape.proofs.tallies.Tally.add.Goals as goal

pub returns-in-One-clause-counts : goal.returns-in-One-clause-counts
returns-in-One-clause-counts c =
    subst (λ (l : RowAttrs). Notes 253 (λ a. is_listed a l) c.args.self.now.counts c.note.new.self.counts) (sym c.in-One.is) (λ a n l b. c.note.ensures.counts a n l (omega (arith, b)))

pub returns-in-Two-clause-counts : goal.returns-in-Two-clause-counts
returns-in-Two-clause-counts c =
    subst (λ (l : RowAttrs). Notes 253 (λ a. is_listed a l) c.args.self.now.counts c.note_two.new.self.counts) (sym c.in-Two.is) (λ a n l b. c.note_two.ensures.counts a n l (omega (arith, b)))

pub returns-in-Three-clause-counts : goal.returns-in-Three-clause-counts
returns-in-Three-clause-counts c =
    subst (λ (l : RowAttrs). Notes 253 (λ a. is_listed a l) c.args.self.now.counts c.note_three.new.self.counts) (sym c.in-Three.is) c.note_three.ensures.counts
