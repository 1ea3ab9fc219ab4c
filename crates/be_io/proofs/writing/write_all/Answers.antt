-- The bytes so far and those of one more call are the first bytes of the text.
use Rattle.std.proofs.Common.{arith, ℕ, ◌∙◌, length-drop, length-take}
use Rattle.be_io.proofs.ToldLemmas.{HoldsMore-take}
use Rattle.be_io.proofs.writing.write_all.Goals as goal

pub loop-from-preserved : goal.loop-from-preserved
loop-from-preserved g c =
    let from = c.loop-from.from in
    let k = c.in_ok-from.field-0 in record {
      within = omega (arith, c.in_ok-from.ensures.within, length-take {A = ℕ}, length-drop {A = ℕ});
      held = HoldsMore-take (g.K.Sink.held c.args.sink.now) (g.K.Sink.held c.loop-from.sink) (g.K.Sink.held c.write.new.self) c.args.bytes.now from k c.loop-from.invariant.held c.in_ok-from.ensures.held;
      faults = c.in_ok-from.ensures.sound.0 ∙ c.loop-from.invariant.faults;
      refusals = c.in_ok-from.ensures.sound.1 ∙ c.loop-from.invariant.refusals;
      beside = c.write.ensures.beside ∙ c.loop-from.invariant.beside;
    }
