use Rattle.std.proofs.Common.{◌≡◌, ℕ, ◌<◌, ◌≤◌, List, [], ◌∷◌, ◌++◌, length, sym, ap, ◌∙◌, subst, append_assoc, arith}
use Rattle.std.proofs.lemmas.List.{length-map}
use mathlib.Core.Logic.{dite}
use native.Mathlib.Decide.{ℕ_discrete}
use Rattle.crossbeam_queue.specs.Passes.{view}
use mathlib.Core.Option.{some}
use lib.ListN.{get_elem?}
use Rattle.atomic_table.specs.Seated.{TableId}
use Rattle.crossbeam_queue.proofs.Lists.{at_index, at_map}
use Rattle.be_mail.specs.Passes.{Passes, box_of}
use Rattle.be_mail.specs.Boxes.{name_of}
use Rattle.be_mail.specs.Settled.{AreAll, IsSum}
use Rattle.be_mail.proofs.Moves.{learns}
use Rattle.be_mail.proofs.Hands.{same_box, same_length}
use Rattle.be_mail.proofs.Sums.{of_mail, others, first_of_all, next_of_all, can_join, looked, some_seat, kept, taken_were_put}
use Rattle.be_mail.proofs.mail.Mail.settle.Goals as goal

pub loop-other-init : goal.loop-other-init
loop-other-init g c =
    let q = c.in-Some.first in
    let os = c.first.inside in
    let all : c.args.passes.items ≡ q ∷ c.next.new.self.rest.items = sym c.into_iter-seats.ensures.rest ∙ c.in-Some.ensures.items in (
      tt,
      tt,
      (
        q,
        all ∙ ap (λ r. q ∷ r.rest.items) (sym c.into_iter-other-iterator.ensures.into_iter_gives),
        first_of_all c.args.self.now os.passes.items os.seat os.fulls os.empties q c.first.view_is (of_mail c.args.self.now [] c.next.new.self.rest.items q (subst (AreAll c.args.self.now) all c.requires)) c.first.invariant,
      ),
    )

pub take_in-requires-clause-boxes : goal.take_in-requires-clause-boxes
take_in-requires-clause-boxes g c =
    let i = c.loop-other.invariant.2 in
    let qs = i.0 ∷ c.loop-other.yielded in
    let rest = c.next-in-loop-other.new.self.rest.items in
    let q = c.in-Some-other.other in
    let all : c.args.passes.items ≡ qs ++ (q ∷ rest) = i.1 ∙ ap (λ l. qs ++ l) c.in-Some-other.ensures.steps.0 in
    (i.2.boxes, ap (λ (x : Passes). x.boxes) c.other.view_is ∙ of_mail c.args.self.now qs rest q (subst (AreAll c.args.self.now) all c.requires))

pub take_in-requires-clause-join : goal.take_in-requires-clause-join
take_in-requires-clause-join g c =
    let i = c.loop-other.invariant.2 in
    let os = c.other.inside in
    can_join c.args.self.now (i.0 ∷ c.loop-other.yielded) c.loop-other.sum.items os.passes.items os.seat i.2 (take_in-requires-clause-boxes g c).1 c.other.invariant

pub loop-other-preserved : goal.loop-other-preserved
loop-other-preserved g c =
    let i = c.loop-other.invariant.2 in
    let qs = i.0 ∷ c.loop-other.yielded in
    let rest = c.next-in-loop-other.new.self.rest.items in
    let q = c.in-Some-other.other in
    let mail = c.args.self.now in
    let all : c.args.passes.items ≡ qs ++ (q ∷ rest) = i.1 ∙ ap (λ l. qs ++ l) c.in-Some-other.ensures.steps.0 in
    let whole = subst (AreAll mail) all c.requires in
    let os = c.other.inside in (
      tt,
      tt,
      (
        i.0,
        all ∙ sym (append_assoc qs (q ∷ []) rest),
        next_of_all mail qs c.loop-other.sum.items os.passes.items c.take_in.new.sum.items os.seat os.fulls os.empties q c.other.view_is (of_mail mail qs rest q whole) (others mail qs rest q whole) c.other.invariant i.2 c.take_in.ensures.boxes c.take_in.ensures.joined,
      ),
    )

pub learn_as-requires-clause-queue : goal.learn_as-requires-clause-queue
learn_as-requires-clause-queue g c =
    let i = c.loop-place.invariant in
    let bs = c.self.inside.boxes.items in
    let n : ℕ = c.loop-place.place in
    let ps = c.loop-place.sum.items in
    let names = i.0.boxes ∙ sym c.self.view_is in
    let same = same_length ps bs names in
    let less : n < length bs = let h = c.loop-place-test.true in let e = c.len-boxes.ensures in let o = c.self.inside.boxes.ok.0 in omega arith in
    let at_p = at_index ps n c.index_mut.result.now (omega arith) c.index_mut.ensures.value in
    let at_b = at_index bs n c.index.result.now less c.index.ensures in
    (same_box ps bs n c.index_mut.result.now c.index.result.now names at_p at_b, (i.0.each n c.index_mut.result.now at_p).home)

pub learn_as-requires-clause-rule : goal.learn_as-requires-clause-rule
learn_as-requires-clause-rule g c =
    let i = c.loop-place.invariant in
    let bs = c.self.inside.boxes.items in
    let n : ℕ = c.loop-place.place in
    let p = c.index_mut.result.now in
    let ps = c.loop-place.sum.items in
    let same = same_length ps bs (i.0.boxes ∙ sym c.self.view_is) in
    let less : n < length bs = let h = c.loop-place-test.true in let e = c.len-boxes.ensures in let o = c.self.inside.boxes.ok.0 in omega arith in
    let at_p = at_index ps n p (omega arith) c.index_mut.ensures.value in
    let some = some_seat c.args.passes.items n p i.0.nonempty (i.0.each n p at_p) in
    learns g.S.Post.schema g.S.Post.seats g.S.Post.found p.id (view p) some.0 some.1 some.2

pub loop-place-preserved : goal.loop-place-preserved
loop-place-preserved g c =
    let i = c.loop-place.invariant in
    let bs = c.self.inside.boxes.items in
    let qs = c.args.passes.items in
    let n : ℕ = c.loop-place.place in
    let p = c.index_mut.result.now in
    let ps = c.loop-place.sum.items in
    let same = same_length ps bs (i.0.boxes ∙ sym c.self.view_is) in
    let less : n < length bs = let h = c.loop-place-test.true in let e = c.len-boxes.ensures in let o = c.self.inside.boxes.ok.0 in omega arith in
    let at_p = at_index ps n p (omega arith) c.index_mut.ensures.value in
    let sum = i.0.each n p at_p in
    let named = subst (λ (l : List TableId). get_elem? l n ≡ some (box_of p)) i.0.boxes (at_map box_of ps n p at_p) in
    let e = c.learn_as.ensures in (
      looked c.args.self.now qs ps n p c.learn_as.new.pass i.0 at_p e.queue.0.0 e.queue.0.2 e.queue.1,
      λ w h. dite (ℕ_discrete w n)
          (λ is. kept g.S.Post.schema g.S.Post.seats g.S.Post.found c.args.self.now qs w p (subst (λ k. get_elem? c.args.self.now k ≡ some (box_of p)) (sym is) named) (subst (λ k. IsSum qs k p) (sym is) sum) e.rule)
          (λ ne. i.1 w (omega arith)),
    )

pub returns-clause-kept : goal.returns-clause-kept
returns-clause-kept g c w h =
    let bs = c.self.inside.boxes.items in
    let end : length bs ≤ c.loop-place.place = let h = c.loop-place-test.false in let e = c.len-boxes.ensures in let o = c.self.inside.boxes.ok.0 in omega arith in
    let n = c.self.invariant.count in
    c.loop-place.invariant.1 w (omega arith)

pub returns-clause-taken : goal.returns-clause-taken
returns-clause-taken g c =
    let bs = c.self.inside.boxes.items in
    let n : length c.args.self.now ≡ g.S.Post.seats = ap length (sym c.self.view_is) ∙ length-map bs name_of ∙ c.self.invariant.count in
    taken_were_put g.S.Post.schema g.S.Post.seats g.S.Post.found c.args.self.now c.args.passes.items n c.requires c.loop-place.invariant.0.within (returns-clause-kept g c)

-- there is a seat, and so there are passes
pub returns-in_default-clause-kept : goal.returns-in_default-clause-kept
returns-in_default-clause-kept g c w h =
    let n : length c.args.self.now ≡ g.S.Post.seats = ap length (sym c.self.view_is) ∙ length-map c.self.inside.boxes.items name_of ∙ c.self.invariant.count in
    let own = c.requires.seats 0 (let x = c.self.invariant.some in omega arith) in
    absurd (let a = own.2 in let o = c.args.passes.ok.0 in let l = c.into_iter-seats.ensures.len in let none = c.in_default.ensures.cases.0 in omega arith)
