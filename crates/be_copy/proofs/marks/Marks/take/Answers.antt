use Rattle.std.proofs.Common.{◌==◌, cond, false, ℕ, ap, ◌∙◌, sym}
use Rattle.be_copy.specs.Bitmaps.{is_marked}
use Rattle.be_copy.proofs.MarkedBits.{marked_less, none_less}
use Rattle.be_copy.proofs.marks.Marks.take.Goals as goal

pub returns-then-rest-eq0 : goal.returns-then-rest-eq0
returns-then-rest-eq0 c = record {
  left = λ i low. ap (λ (n : ℕ). cond (c.args.place == i) false (is_marked n i)) (sym c.self.view_is) ∙ none_less c.self.inside.bits c.args.place i c.requires low c.if-rest-eq0.true;
}

pub returns : goal.returns
returns c = record {
  left = λ i low. marked_less c.self.inside.bits c.args.place i c.requires low ∙ ap (λ (n : ℕ). cond (c.args.place == i) false (is_marked n i)) c.self.view_is;
}
