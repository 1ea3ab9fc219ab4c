-- The unread bytes were moved to the front, and the read wrote behind them.
use Rattle.std.proofs.Common.{arith, ◌≡◌, ℕ, ◌-◌, ◌≤◌, ◌++◌, length, take, drop, ap, ◌∙◌, length-take-le, length-take, length-drop}
use Rattle.be_io.proofs.FillLemmas.{WhereTold-from_read, unread-after_read}
use Rattle.be_io.proofs.buffer.Buffer.fill.Goals as goal

pub returns-clause-takes : goal.returns-clause-takes
returns-clause-takes g c =
    let start = c.self.inside.start in
    let end = c.self.inside.end in
    let bytes = c.self.inside.bytes.items in
    let k = c.in_ok-count.count in
    let part = c.read.new.buf in
    let unread = take (end - start) (drop start bytes) in
    let long : length unread ≡ end - start = length-take-le (end - start) (drop start bytes) (omega (arith, length-drop start bytes, c.self.invariant.end, c.self.invariant.start)) in
    let front : take (end - start) c.deref_mut.result.now ≡ unread = rw c.deref_mut.ensures.value c.move_to_front.ensures.front in
    let within : k ≤ length part = c.in_ok-count.ensures.bytes.0 in (
      take k part,
      length-take-le k part within,
      unread-after_read (take (end - start) c.deref_mut.result.now) part _ _ (end - start) k c.move_to_front.new.bytes.len (ap length front ∙ long) within (omega (arith, length-take {A = ℕ}, length-drop {A = ℕ})) ∙ ap (λ u. u ++ take k part) (front ∙ ap (λ r. r.unread) c.self.view_is),
      WhereTold-from_read (g.S.Source.left c.args.src.now) (g.S.Source.left c.read.new.self) part k c.in_ok-count.ensures.bytes,
    )
