use Rattle.std.proofs.Common.{◌||◌, ◌==◌, ℕ, ap, ◌∙◌}
use Rattle.be_copy.specs.Bitmaps.{is_marked}
use Rattle.be_copy.proofs.MarkedBits.{marked_more, more_are_some}
use Rattle.be_copy.proofs.marks.Marks.put.Goals as goal

pub invariant_of-self : goal.invariant_of-self
invariant_of-self c = more_are_some c.self.inside.bits c.args.place c.requires

pub returns : goal.returns
returns c = λ i. marked_more c.self.inside.bits c.args.place i c.requires ∙ ap (λ (n : ℕ). c.args.place == i || is_marked n i) c.self.view_is
