use Rattle.std.proofs.Common.{◌≡◌, ℕ, ◌+◌, [], ◌∷◌, ◌++◌, length, sym, ap, ◌∙◌, subst, append_assoc, arith}
use Rattle.std.proofs.lemmas.List.{length-append}
use mathlib.Core.Option.{some}
use lib.ListN.{get_elem?}
use Rattle.crossbeam_queue.specs.Passes.{view}
use Rattle.be_mail.proofs.Moves.{merges}
use Rattle.be_mail.proofs.Places.{at_middle, within, map_same}
use Rattle.be_mail.specs.Passes.{box_of}
use Rattle.be_mail.proofs.Sums.{Meets, meets, joined_more, kept_rest}
use Rattle.be_mail.proofs.mail.Mail.take_in.Given as given
use Rattle.be_mail.proofs.mail.Mail.take_in.Goals as goal
use Rattle.be_mail.proofs.mail.Mail.take_in.Goals.{After-index_mut}

-- the pass to be joined, and it with the pass of the sum and their mailbox
next : (g : given.Over) (c : After-index_mut g) → get_elem? c.args.other.items c.loop-pass.place ≡ some c.in-Some.pass
next g c =
    let i = c.loop-pass.invariant in
    let o = c.in-Some.pass in
    let all = i.2 ∙ ap (λ l. c.loop-pass.yielded ++ l) c.in-Some.ensures.steps.0 in
    subst (λ k. get_elem? c.args.other.items k ≡ some o) i.3 (subst (λ l. get_elem? l (length c.loop-pass.yielded) ≡ some o) (sym all) (at_middle c.loop-pass.yielded o c.next.new.self.rest.items))

met : (g : given.Over) (c : After-index_mut g) → Meets c.args.sum.now.items c.args.other.items c.loop-pass.sum.items c.loop-pass.place c.index_mut.result.now c.in-Some.pass c.index.result.now
met g c =
    let i = c.loop-pass.invariant in
    meets c.args.self.now c.args.sum.now.items c.args.other.items c.loop-pass.sum.items c.self.inside.boxes.items c.loop-pass.place c.index_mut.result.now c.in-Some.pass c.index.result.now c.requires.boxes.0 c.requires.boxes.1 i.4 c.self.view_is c.requires.join i.5 (next g c) c.index_mut.ensures.value c.index.ensures

pub absorb-requires-clause-queue : goal.absorb-requires-clause-queue
absorb-requires-clause-queue g c =
    let m = met g (goal.at.absorb-requires-clause-queue g c).After-index_mut in ((m.box_p, m.can.home), (m.box_o, m.can.other_home))

pub absorb-requires-clause-rule : goal.absorb-requires-clause-rule
absorb-requires-clause-rule g c =
    let p = c.index_mut.result.now in
    let o = c.in-Some.pass in
    merges g.S.Post.schema g.S.Post.seats g.S.Post.found p.id (view p) o.id (view o) (met g (goal.at.absorb-requires-clause-rule g c).After-index_mut).can.place

pub loop-pass-preserved : goal.loop-pass-preserved
loop-pass-preserved g c =
    let at = (goal.at.loop-pass-preserved g c).After-index_mut in
    let i = c.loop-pass.invariant in
    let n : ℕ = c.loop-pass.place in
    let p = c.index_mut.result.now in
    let o = c.in-Some.pass in
    let m = met g at in
    let q = c.absorb.ensures.queue in
    let p' = c.absorb.new.pass in (
      tt,
      tt,
      i.2 ∙ ap (λ l. c.loop-pass.yielded ++ l) c.in-Some.ensures.steps.0 ∙ sym (append_assoc c.loop-pass.yielded (o ∷ []) c.next.new.self.rest.items),
      length-append c.loop-pass.yielded (o ∷ []) ∙ ap (λ k. k + 1) i.3,
      map_same box_of c.loop-pass.sum.items n p p' m.at_now q.0 ∙ i.4,
      kept_rest c.args.sum.now.items c.loop-pass.sum.items n p' i.5,
      joined_more c.args.sum.now.items c.args.other.items c.loop-pass.sum.items n p o p' m.at_p (next g at) (record { home = q.2 ∙ m.can.home; shows = c.absorb.ensures.rule }) i.6,
    )

pub returns-clause-joined : goal.returns-clause-joined
returns-clause-joined g c w p o p' at_p at_o at_now =
    let i = c.loop-pass.invariant in
    let e = c.loop-pass.pass-iterator.rest.ok.0 in
    let a = ap length i.2 ∙ length-append c.loop-pass.yielded c.loop-pass.pass-iterator.rest.items in
    let z = c.in-None.ensures.steps.0 in
    i.6 w p o p' at_p at_o at_now (let h = within c.args.other.items w o at_o in let b = i.3 in omega arith)
