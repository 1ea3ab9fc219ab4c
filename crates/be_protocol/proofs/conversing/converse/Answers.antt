-- The lines were answered one after another, up to the end of the conversation.
use Rattle.std.proofs.Common.{◌≡◌, ◌+◌, Ok, length, sym, ap, ◌∙◌, refl, subst, arith}
use Rattle.be_io.specs.Outside.{LinkState, link_state}
use Rattle.be_io.specs.Reader.{ReaderState}
use Rattle.be_protocol.specs.Conduct.{Conduct, KeptByReplier, is_sixteenth, LeavesIf, TendsIf}
use Rattle.be_protocol.specs.Ends.{has_not_ended}
use Rattle.be_protocol.specs.Turns.{TurnState, Turned, GivenOn}
use Rattle.be_protocol.specs.declared.replier.Turn.{Turn}
use Rattle.be_protocol.proofs.Going.{going_first, going_on, taken_within}
use Rattle.be_protocol.proofs.Ended.{ended_unread, ended_cut, ended_so, kept_along}
use Rattle.be_protocol.proofs.conversing.converse.Goals as goal

pub lines-init : goal.lines-init
lines-init g c = record {
  answered = going_first (g.A.Replier.conduct (g.A.Replier.kept c.args.replier.now).schema) (link_state g.L.Source g.L.Sink c.args.link.now) (g.A.Replier.state c.args.replier.now) c.in-Ok.reader c.in-Ok.ensures;
  ready = c.requires.ready;
  kept = refl;
  bound = let none = ap (λ (r : ReaderState). r.taken) c.in-Ok.ensures in omega (arith, none);
  counted = let none = ap (λ (r : ReaderState). length r.unread) c.in-Ok.ensures in omega (arith, none);
  beside = record { whole = refl; references = refl };
}

pub returns-in-Err-clause-ends : goal.returns-in-Err-clause-ends
returns-in-Err-clause-ends g c =
    let m : Conduct g.A.Replier.State = g.A.Replier.conduct (g.A.Replier.kept c.args.replier.now).schema in
    let before : TurnState g.A.Replier.State = record { reader = c.lines.reader; link = link_state g.L.Source g.L.Sink c.lines.link; state = g.A.Replier.state c.lines.replier } in
    let after : TurnState g.A.Replier.State = record { reader = c.next_turn.new.reader; link = link_state g.L.Source g.L.Sink c.next_turn.new.link; state = g.A.Replier.state c.next_turn.new.replier } in
    ended_unread ((c.next_turn.new.link ≡ c.args.link.now) × (c.leave.new.self ≡ c.args.replier.now)) m (link_state g.L.Source g.L.Sink c.args.link.now) (g.A.Replier.state c.args.replier.now) before after (g.A.Replier.state c.leave.new.self)
    c.lines.invariant.answered.going (GivenOn (g.A.Replier.conduct (g.A.Replier.kept c.lines.replier).schema) before after) c.in-Err.end c.in-Err.ensures.turned c.in-Err.ensures.alike
    (subst (λ (k : KeptByReplier). (g.A.Replier.conduct k.schema).Leaves after.state (g.A.Replier.state c.leave.new.self)) (c.next_turn.ensures.kept ∙ c.lines.invariant.kept) c.leave.ensures.leaves)

pub returns-in-Err-clause-within : goal.returns-in-Err-clause-within
returns-in-Err-clause-within g c =
    let m : Conduct g.A.Replier.State = g.A.Replier.conduct (g.A.Replier.kept c.args.replier.now).schema in
    let before : TurnState g.A.Replier.State = record { reader = c.lines.reader; link = link_state g.L.Source g.L.Sink c.lines.link; state = g.A.Replier.state c.lines.replier } in
    let after : TurnState g.A.Replier.State = record { reader = c.next_turn.new.reader; link = link_state g.L.Source g.L.Sink c.next_turn.new.link; state = g.A.Replier.state c.next_turn.new.replier } in
    taken_within m (link_state g.L.Source g.L.Sink c.args.link.now) (g.A.Replier.state c.args.replier.now) before after c.lines.invariant.answered.going c.next_turn.ensures.alike c.next_turn.ensures.bound

pub returns-in-Err-clause-kept : goal.returns-in-Err-clause-kept
returns-in-Err-clause-kept g c = c.leave.ensures.kept ∙ (c.next_turn.ensures.kept ∙ c.lines.invariant.kept)

pub returns-in-Err-clause-beside : goal.returns-in-Err-clause-beside
returns-in-Err-clause-beside g c =
    kept_along (g.L.Source.kept_by_read c.args.link.now) (g.L.Source.kept_by_read c.lines.link) (g.L.Source.kept_by_read c.next_turn.new.link) c.lines.invariant.beside c.next_turn.ensures.beside

pub returns-in-Err-written-clause-ends : goal.returns-in-Err-written-clause-ends
returns-in-Err-written-clause-ends g c =
    let m : Conduct g.A.Replier.State = g.A.Replier.conduct (g.A.Replier.kept c.args.replier.now).schema in
    let before : TurnState g.A.Replier.State = record { reader = c.lines.reader; link = link_state g.L.Source g.L.Sink c.lines.link; state = g.A.Replier.state c.lines.replier } in
    let after : TurnState g.A.Replier.State = record { reader = c.next_turn.new.reader; link = link_state g.L.Source g.L.Sink c.next_turn.new.link; state = g.A.Replier.state c.next_turn.new.replier } in
    let turn : Turn = c.in-Ok-next_turn.turn in
    ended_cut ((c.next_turn.new.link ≡ c.args.link.now) × (c.leave_unless.new.replier ≡ c.args.replier.now)) m (link_state g.L.Source g.L.Sink c.args.link.now) (g.A.Replier.state c.args.replier.now) before after (g.A.Replier.state c.leave_unless.new.replier)
    c.lines.invariant.answered.going turn c.in-Err-written.fault c.end_of.result
    (subst (λ (k : KeptByReplier). Turned (GivenOn (g.A.Replier.conduct k.schema) before after) before after (Ok turn)) c.lines.invariant.kept c.in-Ok-next_turn.ensures.turned) c.in-Err-written.is
    (subst (λ (k : KeptByReplier). LeavesIf (g.A.Replier.conduct k.schema) (has_not_ended turn.by) after.state (g.A.Replier.state c.leave_unless.new.replier)) (c.next_turn.ensures.kept ∙ c.lines.invariant.kept) c.leave_unless.ensures.leaves)
    c.end_of.ensures

pub returns-in-Err-written-clause-within : goal.returns-in-Err-written-clause-within
returns-in-Err-written-clause-within g c =
    let m : Conduct g.A.Replier.State = g.A.Replier.conduct (g.A.Replier.kept c.args.replier.now).schema in
    let before : TurnState g.A.Replier.State = record { reader = c.lines.reader; link = link_state g.L.Source g.L.Sink c.lines.link; state = g.A.Replier.state c.lines.replier } in
    let after : TurnState g.A.Replier.State = record { reader = c.next_turn.new.reader; link = link_state g.L.Source g.L.Sink c.next_turn.new.link; state = g.A.Replier.state c.next_turn.new.replier } in
    taken_within m (link_state g.L.Source g.L.Sink c.args.link.now) (g.A.Replier.state c.args.replier.now) before after c.lines.invariant.answered.going c.next_turn.ensures.alike c.next_turn.ensures.bound

pub returns-in-Err-written-clause-kept : goal.returns-in-Err-written-clause-kept
returns-in-Err-written-clause-kept g c = c.leave_unless.ensures.kept ∙ (c.next_turn.ensures.kept ∙ c.lines.invariant.kept)

pub returns-in-Err-written-clause-beside : goal.returns-in-Err-written-clause-beside
returns-in-Err-written-clause-beside g c =
    kept_along (g.L.Source.kept_by_read c.args.link.now) (g.L.Source.kept_by_read c.lines.link) (g.L.Source.kept_by_read c.next_turn.new.link) c.lines.invariant.beside c.next_turn.ensures.beside

pub returns-in-Some-clause-ends : goal.returns-in-Some-clause-ends
returns-in-Some-clause-ends g c =
    let m : Conduct g.A.Replier.State = g.A.Replier.conduct (g.A.Replier.kept c.args.replier.now).schema in
    let before : TurnState g.A.Replier.State = record { reader = c.lines.reader; link = link_state g.L.Source g.L.Sink c.lines.link; state = g.A.Replier.state c.lines.replier } in
    let after : TurnState g.A.Replier.State = record { reader = c.next_turn.new.reader; link = link_state g.L.Source g.L.Sink c.next_turn.new.link; state = g.A.Replier.state c.next_turn.new.replier } in
    let turn : Turn = c.in-Ok-next_turn.turn in
    ended_so ((c.next_turn.new.link ≡ c.args.link.now) × (c.next_turn.new.replier ≡ c.args.replier.now)) m (link_state g.L.Source g.L.Sink c.args.link.now) (g.A.Replier.state c.args.replier.now) before after after.state
    c.lines.invariant.answered.going turn c.in-Some.end
    (subst (λ (k : KeptByReplier). Turned (GivenOn (g.A.Replier.conduct k.schema) before after) before after (Ok turn)) c.lines.invariant.kept c.in-Ok-next_turn.ensures.turned) c.in-Some.is c.in-Ok-written.is refl

pub returns-in-Some-clause-within : goal.returns-in-Some-clause-within
returns-in-Some-clause-within g c =
    let m : Conduct g.A.Replier.State = g.A.Replier.conduct (g.A.Replier.kept c.args.replier.now).schema in
    let before : TurnState g.A.Replier.State = record { reader = c.lines.reader; link = link_state g.L.Source g.L.Sink c.lines.link; state = g.A.Replier.state c.lines.replier } in
    let after : TurnState g.A.Replier.State = record { reader = c.next_turn.new.reader; link = link_state g.L.Source g.L.Sink c.next_turn.new.link; state = g.A.Replier.state c.next_turn.new.replier } in
    taken_within m (link_state g.L.Source g.L.Sink c.args.link.now) (g.A.Replier.state c.args.replier.now) before after c.lines.invariant.answered.going c.next_turn.ensures.alike c.next_turn.ensures.bound

pub returns-in-Some-clause-beside : goal.returns-in-Some-clause-beside
returns-in-Some-clause-beside g c =
    kept_along (g.L.Source.kept_by_read c.args.link.now) (g.L.Source.kept_by_read c.lines.link) (g.L.Source.kept_by_read c.next_turn.new.link) c.lines.invariant.beside c.next_turn.ensures.beside

pub lines-preserved : goal.lines-preserved
lines-preserved g c =
    let m : Conduct g.A.Replier.State = g.A.Replier.conduct (g.A.Replier.kept c.args.replier.now).schema in
    let before : TurnState g.A.Replier.State = record { reader = c.lines.reader; link = link_state g.L.Source g.L.Sink c.lines.link; state = g.A.Replier.state c.lines.replier } in
    let after : TurnState g.A.Replier.State = record { reader = c.next_turn.new.reader; link = link_state g.L.Source g.L.Sink c.next_turn.new.link; state = g.A.Replier.state c.next_turn.new.replier } in
    let turn : Turn = c.in-Ok-next_turn.turn in
    record {
      answered = going_on m (link_state g.L.Source g.L.Sink c.args.link.now) (g.A.Replier.state c.args.replier.now) before after (g.A.Replier.state c.tend_behind.new.replier) c.lines.lines turn c.lines.invariant.answered
          (subst (λ (k : KeptByReplier). Turned (GivenOn (g.A.Replier.conduct k.schema) before after) before after (Ok turn)) c.lines.invariant.kept c.in-Ok-next_turn.ensures.turned) c.in-None.is c.in-Ok-written.is c.next_turn.ensures.alike
          (subst (λ (k : KeptByReplier). TendsIf (g.A.Replier.conduct k.schema) (is_sixteenth (c.lines.lines + 1)) after.state (g.A.Replier.state c.tend_behind.new.replier)) (c.next_turn.ensures.kept ∙ c.lines.invariant.kept) c.tend_behind.ensures.tends);
      ready = c.tend_behind.ensures.ready;
      kept = c.tend_behind.ensures.kept ∙ (c.next_turn.ensures.kept ∙ c.lines.invariant.kept);
      bound = c.next_turn.ensures.bound;
      counted = omega (arith, c.lines.invariant.counted, c.in-Ok-next_turn.ensures.progress);
      beside = kept_along (g.L.Source.kept_by_read c.args.link.now) (g.L.Source.kept_by_read c.lines.link) (g.L.Source.kept_by_read c.next_turn.new.link) c.lines.invariant.beside c.next_turn.ensures.beside;
    }
