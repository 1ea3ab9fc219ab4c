use Rattle.std.proofs.Common.{rules, ◌≡◌, ◌++◌, ◌∷◌, [], ◌-◌, take, drop, sym, ap, ◌∙◌, append_assoc}
use Rattle.std.specs.Arc.{arc_value}
use Rattle.std.proofs.lemmas.List.{map-append}
use Rattle.be_base.proofs.Beginnings.{BeginsWith-along}
use Rattle.be_change.specs.Entries.{entry_of, entries_in}
use Rattle.be_copy.proofs.TailChanges.{tail_more}
use Rattle.be_copy.proofs.tails.push_tail.Goals as goal

pub loop-place-preserved : goal.loop-place-preserved
loop-place-preserved c =
    let h = c.args.log.now.list in
    let e = entry_of (arc_value c.at.result.now) in
    let more = tail_more h c.args.from c.loop-place.place e (search rules) c.at.ensures in
    let same : arc_value c.in_ok-try_clone.field-0 ≡ arc_value c.at.result.now = search rules in
    let pushed : c.push.new.self.items ≡ c.loop-place.changes.items ++ c.in_ok-try_clone.field-0 ∷ [] = search rules in
    record {
      put = ap entries_in pushed ∙ (map-append (λ x. entry_of (arc_value x)) c.loop-place.changes.items (c.in_ok-try_clone.field-0 ∷ [])
          ∙ (ap (λ x. entries_in c.loop-place.changes.items ++ entry_of x ∷ []) same
          ∙ (ap (λ l. l ++ e ∷ []) c.loop-place.invariant.put
          ∙ (append_assoc (entries_in c.args.changes.now.items) (take (c.loop-place.place - c.args.from) (drop c.args.from h)) (e ∷ []) ∙ ap (λ l. entries_in c.args.changes.now.items ++ l) (sym more)))));
      front = BeginsWith-along c.push.new.self.items c.loop-place.changes.items c.args.changes.now.items (c.in_ok-try_clone.field-0 ∷ [], pushed) c.loop-place.invariant.front;
    }
