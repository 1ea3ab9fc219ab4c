use Rattle.std.proofs.Common.{sym, ap, subst, ◌∙◌, arith, length-append, append_assoc, rules, ◌≡◌, ◌+◌, ◌<◌, ◌≤◌, ◌++◌, [], true, length, map, All, OnOk, IfOk, ℕ, ◌-◌, ◌*◌, ◌/◌, ◌%◌, Bool, false, nat_eq, nat_lt, List, ◌∷◌, slice_index_or, slice_set, bit_and, bit_or, Fits, w8, w32, w64, Bor, MutBor}
use Rattle.std.specs.List.{list_all, range_with_len}
use Rattle.be_base.specs.declared.limits.TheConstants.{SEATS}
use Rattle.be_model.specs.Lies.{row_lies}
use Rattle.be_change.specs.Entries.{entries_in}
use Rattle.be_change.specs.History.{IsWellFormed, IsWellFormedAfter}
use Rattle.be_change.specs.Opening.{IsTable, opening_of}
use Rattle.be_mail.specs.Passes.{new_passes}
use Rattle.be_published.specs.States.{GlassState, settled, new_glass}
use Rattle.be_desk.specs.Desks.{new_desk}
use Rattle.be_desk.specs.Seats.{first_seat}
use Rattle.std.proofs.lemmas.List.FromFn.{length-map-range_with_len}
use Rattle.std.proofs.lemmas.List.{map-append, append-nil}
use Rattle.be_desk.specs.Seats.{new_seat, seat_for}
use Rattle.be_desk.proofs.Openings.{map_seats, is_new, all_new, all_here, all_front}
use Rattle.be_desk.proofs.opening.seated.Goals as goal

pub loop-pass-init : goal.loop-pass-init
loop-pass-init g c =
    let count = length-map-range_with_len (new_passes g.J.BoxNames.boxes) 0 (length g.J.BoxNames.boxes) in
    let passes = ap (λ l. length l) c.requires.passes in
    let rest = ap (λ l. length l) c.into_iter-pass-iterator.ensures.into_iter_gives.0 in
    (tt, tt, sym c.into_iter-pass-iterator.ensures.into_iter_gives.0, c.requires.glasses, c.requires.count ∙ (sym count ∙ (sym passes ∙ sym rest)), c.new-seats.ensures.items)

pub unreachable-requires : goal.unreachable-requires
unreachable-requires g c =
    let i = c.loop-pass.invariant in
    let rest = ap (λ l. length l) c.in-Some.ensures.steps.0 in
    let none = c.in_default.ensures.cases in
    absurd (omega (arith, rest, none, i.4))

pub make-requires-clause-glass : goal.make-requires-clause-glass
make-requires-clause-glass g c =
    let i = c.loop-pass.invariant in
    let is = all_here (λ glass. glass ≡ new_glass c.args.press.now.list) c.pop.new.self.items c.in-Some-pop.glass [] (subst (All (λ glass. glass ≡ new_glass c.args.press.now.list)) c.in-Some-pop.ensures.items i.3) in
    is ∙ ap new_glass (sym (ap (λ x. x.known) is))

pub make-requires-clause-boxes : goal.make-requires-clause-boxes
make-requires-clause-boxes g c =
    let i = c.loop-pass.invariant in
    let all = i.2 ∙ ap (λ l. c.loop-pass.yielded ++ l) c.in-Some.ensures.steps.0 in
    let new = all_here (is_new g.J.BoxNames.boxes) c.loop-pass.yielded c.in-Some.pass c.next.new.self.rest.items
    (subst (All (is_new g.J.BoxNames.boxes)) (sym c.requires.passes ∙ all) (all_new g.J.BoxNames.boxes (range_with_len 0 (length g.J.BoxNames.boxes)))) in
    ap (λ p. p.boxes) new

pub make-requires-clause-new : goal.make-requires-clause-new
make-requires-clause-new g c =
    let i = c.loop-pass.invariant in
    let all = i.2 ∙ ap (λ l. c.loop-pass.yielded ++ l) c.in-Some.ensures.steps.0 in
    let new = all_here (is_new g.J.BoxNames.boxes) c.loop-pass.yielded c.in-Some.pass c.next.new.self.rest.items
    (subst (All (is_new g.J.BoxNames.boxes)) (sym c.requires.passes ∙ all) (all_new g.J.BoxNames.boxes (range_with_len 0 (length g.J.BoxNames.boxes)))) in
    new

pub loop-pass-preserved : goal.loop-pass-preserved
loop-pass-preserved g c =
    let i = c.loop-pass.invariant in
    let all = i.2 ∙ ap (λ l. c.loop-pass.yielded ++ l) c.in-Some.ensures.steps.0 in
    let P : GlassState → Type 0 = λ glass. glass ≡ new_glass c.args.press.now.list in
    let glasses = subst (All P) c.in-Some-pop.ensures.items i.3 in
    let rest = ap (λ l. length l) c.in-Some.ensures.steps.0 in
    let popped = ap (λ l. length l) c.in-Some-pop.ensures.items in
    let is = all_here P c.pop.new.self.items c.in-Some-pop.glass [] glasses in
    let made : c.make.result ≡ seat_for c.args.press.now.list c.in-Some.pass =
    c.make.ensures ∙ (ap (λ x. new_seat x.known (c.from.result + 1) c.in-Some.pass) is ∙ ap (λ n. new_seat c.args.press.now.list (n + 1) c.in-Some.pass) (c.from.ensures ∙ c.seat.ensures.seat)) in (
      tt,
      tt,
      all ∙ sym (append_assoc c.loop-pass.yielded (c.in-Some.pass ∷ []) c.next.new.self.rest.items),
      all_front P c.pop.new.self.items (c.in-Some-pop.glass ∷ []) glasses,
      omega (arith, rest, popped, i.4, length-append c.pop.new.self.items (c.in-Some-pop.glass ∷ [])),
      c.in_ok-push.ensures.items ∙ (ap (λ l. l ++ c.make.result ∷ []) i.5 ∙ (ap (λ x. map (seat_for c.args.press.now.list) c.loop-pass.yielded ++ x ∷ []) made ∙ sym (map-append (seat_for c.args.press.now.list) c.loop-pass.yielded (c.in-Some.pass ∷ [])))),
    )
