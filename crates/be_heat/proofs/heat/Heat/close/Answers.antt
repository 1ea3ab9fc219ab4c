use Rattle.std.proofs.Common.{rules, ◌∙◌, ap, sym, arith}
use Rattle.be_heat.proofs.Keeps.{closed}
use Rattle.be_heat.proofs.Totals.{read_next, are_totals}
use Rattle.be_heat.proofs.heat.Heat.close.Goals as goal

pub loop-word-preserved : goal.loop-word-preserved
loop-word-preserved c = (search rules, read_next c.loop-word.totals.items _ c.loop-word.word c.word.result (search rules) c.word.ensures c.loop-word.invariant.1)

pub returns : goal.returns
returns c =
    let words = ap (λ h. h.words) c.self.view_is in
    let share = c.gathered-home.ensures.share ∙ c.requires.seats.as_many ∙ sym (ap (λ h. h.seats) c.self.view_is) in
    let final = closed c.self.inside.table.shared.key c.gathered-home.result.id c.gathered-home.result.me.0 _ _ c.close_with-closed.ensures.values.2 share in
    record {
      totals = are_totals c.args.seats.items c.args.self.words c.loop-word.totals.items (c.loop-word.invariant.0 ∙ words)
          (λ word less. c.loop-word.invariant.1 word (omega (arith, less, words, c.loop-word-test.false)) ∙ final word ∙ c.gathered-home.ensures.counts word);
    }
