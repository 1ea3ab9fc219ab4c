-- The bytes that are handed on so far and those that are kept still are what was kept at first.
use Rattle.std.proofs.Common.{arith, ℕ, List, ◌+◌, ◌-◌, ◌≤◌, length, drop, take, ap, ◌∙◌, subst, length-drop, length-take}
use Rattle.be_io.specs.Told.{HoldsMore}
use Rattle.be_io.proofs.GatheredLemmas.{with_kept-handed}
use Rattle.be_io.proofs.gathered.Gathered.hand_on.Goals as goal

pub invariant_of-self : goal.invariant_of-self
invariant_of-self g c = (c.loop-self.invariant.some, c.loop-self.invariant.within, c.loop-self.invariant.few, c.loop-self.invariant.there)

pub invariant_of-self-2 : goal.invariant_of-self-2
invariant_of-self-2 g c = (c.loop-self.invariant.some, omega arith, omega (arith, c.clear.ensures.len), omega (arith, c.clear.ensures.capacity, c.loop-self.invariant.there))

pub loop-self-preserved : goal.loop-self-preserved
loop-self-preserved g c =
    let n : ℕ = c.loop-self.self-inside.handed in
    let k : ℕ = c.in_ok-self-inside.field-0 in
    let bytes : List ℕ = c.loop-self.self-inside.bytes.items in
    let before = g.K.Sink.held c.loop-self.self-inside.sink in
    let after = g.K.Sink.held c.write.new.self in
    let within : k ≤ length bytes - n = omega (arith, c.in_ok-self-inside.ensures.within, ap length c.deref.ensures.value, length-take {A = ℕ}, length-drop {A = ℕ}) in
    let handed : HoldsMore before after (take k (take (length bytes - n) (drop n bytes))) = subst (λ (d : List ℕ). HoldsMore before after (take k (take (length d - n) (drop n d)))) c.deref.ensures.value c.in_ok-self-inside.ensures.held in
    record {
      within = omega (arith, within, c.deref.ensures.len, ap length c.deref.ensures.value, c.loop-self.invariant.within);
      room = c.loop-self.invariant.room;
      some = c.loop-self.invariant.some;
      few = c.loop-self.invariant.few;
      there = c.loop-self.invariant.there;
      held = with_kept-handed before after bytes n k handed ∙ c.loop-self.invariant.held;
      back = omega (arith, c.in_ok-self-inside.ensures.back, c.loop-self.invariant.back, within, length-drop n bytes, length-drop (n + k) bytes);
      faults = c.in_ok-self-inside.ensures.sound.0 ∙ c.loop-self.invariant.faults;
      refusals = c.in_ok-self-inside.ensures.sound.1 ∙ c.loop-self.invariant.refusals;
      beside = c.write.ensures.beside ∙ c.loop-self.invariant.beside;
    }
