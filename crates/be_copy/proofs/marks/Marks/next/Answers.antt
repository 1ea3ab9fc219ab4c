use Rattle.std.proofs.Common.{ℕ, ap, ◌∙◌, sym, subst}
use Rattle.be_copy.specs.Bitmaps.{is_marked}
use Rattle.be_copy.proofs.MarkedBits.{next_mark, no_mark, IsNextMark}
use Rattle.be_copy.proofs.marks.Marks.next.Goals as goal

pub returns-then-rest-eq0-clause-none : goal.returns-then-rest-eq0-clause-none
returns-then-rest-eq0-clause-none c = λ i low high.
    ap (λ (n : ℕ). is_marked n i) (sym c.self.view_is) ∙ no_mark c.self.inside.bits c.args.from c.requires c.if-rest-eq0.true i low high

pub returns-clause-next : goal.returns-clause-next
returns-clause-next c =
    let at : IsNextMark c.args.self.now c.args.from c.lowest.result =
    subst (λ (n : ℕ). IsNextMark n c.args.from c.lowest.result) c.self.view_is
    (next_mark c.self.inside.bits c.args.from c.lowest.result c.requires c.lowest.ensures.block c.lowest.ensures.marked c.lowest.ensures.first) in
    (at.low, at.block, at.marked, at.first)
