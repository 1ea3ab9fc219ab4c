-- Each answer is a reply that its request may have.
use Rattle.std.proofs.Common.{Some, refl, sym, subst}
use Rattle.be_io.specs.Outside.{sink_state}
use Rattle.be_change.specs.Requests as asked
use Rattle.be_published.specs.States.{GlassState}
use Rattle.be_protocol.specs.Conduct.{GivesReply}
use Rattle.be_protocol.specs.Replies.{reply_text}
use Rattle.be_protocol.specs.Requests.{plain_refusal}
use Rattle.be_protocol.specs.Short.{plain_reply}
use Rattle.be_protocol.specs.declared.ends.SessionEnd.TheVariants as ends
use Rattle.be_mirror.specs.Asked.{plain_mirror_ask}
use Rattle.be_mirror.specs.Sessions.{mirror_conduct}
use Rattle.be_mirror.specs.declared.asking.Ask.{Ask}
use Rattle.be_mirror.proofs.Said.{says_text, says_short, says_built}
use Rattle.be_mirror.proofs.Stepping.{refused_replies}
use Rattle.be_mirror.proofs.session.Session.reply.Goals as goal

pub returns-in-Publish-clause-gives : goal.returns-in-Publish-clause-gives
returns-in-Publish-clause-gives g c =
    let s = g.J.Naming.schema in
    let r = asked.publish c.in-Publish.event in
    let glass' = c.hits-built.new.glass in
    let before = sink_state g.K.Sink c.args.out.now in
    let after = sink_state g.K.Sink c.tell_built.new.out in
    let turn = c.tell_built.result in
    subst (λ (ask : Ask). GivesReply (mirror_conduct s) (plain_mirror_ask ask) c.args.self.now glass' before after turn.by turn.written) (sym c.in-Publish.is)
    (subst (λ (v : GlassState). GivesReply (mirror_conduct s) r v glass' before after turn.by turn.written) c.self.view_is
    (says_built s r c.hits-built.result c.hits-built.new.room.reply.items c.self.inside.glass glass' before after turn refl c.hits-built.ensures.told c.hits-built.ensures.refused c.tell_built.ensures.built c.tell_built.ensures.refused))

pub returns-in-Costing-clause-gives : goal.returns-in-Costing-clause-gives
returns-in-Costing-clause-gives g c =
    let s = g.J.Naming.schema in
    let r = asked.costing c.in-Costing.event in
    let glass' = c.cost.new.glass in
    let before = sink_state g.K.Sink c.args.out.now in
    let after = sink_state g.K.Sink c.tell.new.out in
    let turn = c.tell.result in
    subst (λ (ask : Ask). GivesReply (mirror_conduct s) (plain_mirror_ask ask) c.args.self.now glass' before after turn.by turn.written) (sym c.in-Costing.is)
    (subst (λ (v : GlassState). GivesReply (mirror_conduct s) r v glass' before after turn.by turn.written) c.self.view_is
    (says_short s r (plain_reply c.cost.result) c.self.inside.glass glass' before after turn refl c.cost.ensures c.tell.ensures.says))

pub returns-in-Dumping-clause-gives : goal.returns-in-Dumping-clause-gives
returns-in-Dumping-clause-gives g c =
    let s = g.J.Naming.schema in
    let r = asked.dumping in
    let glass' = c.dumped-built.new.glass in
    let before = sink_state g.K.Sink c.args.out.now in
    let after = sink_state g.K.Sink c.tell_built-in-Dumping.new.out in
    let turn = c.tell_built-in-Dumping.result in
    subst (λ (ask : Ask). GivesReply (mirror_conduct s) (plain_mirror_ask ask) c.args.self.now glass' before after turn.by turn.written) (sym c.in-Dumping.is)
    (subst (λ (v : GlassState). GivesReply (mirror_conduct s) r v glass' before after turn.by turn.written) c.self.view_is
    (says_built s r c.dumped-built.result c.dumped-built.new.room.reply.items c.self.inside.glass glass' before after turn refl c.dumped-built.ensures.told c.dumped-built.ensures.refused c.tell_built-in-Dumping.ensures.built c.tell_built-in-Dumping.ensures.refused))

pub returns-in-Tailing-clause-gives : goal.returns-in-Tailing-clause-gives
returns-in-Tailing-clause-gives g c =
    let s = g.J.Naming.schema in
    let r = asked.tailing c.in-Tailing.place c.in-Tailing.max in
    let glass' = c.tail-built.new.glass in
    let before = sink_state g.K.Sink c.args.out.now in
    let after = sink_state g.K.Sink c.tell_built-in-Tailing.new.out in
    let turn = c.tell_built-in-Tailing.result in
    subst (λ (ask : Ask). GivesReply (mirror_conduct s) (plain_mirror_ask ask) c.args.self.now glass' before after turn.by turn.written) (sym c.in-Tailing.is)
    (subst (λ (v : GlassState). GivesReply (mirror_conduct s) r v glass' before after turn.by turn.written) c.self.view_is
    (says_built s r c.tail-built.result c.tail-built.new.room.reply.items c.self.inside.glass glass' before after turn refl c.tail-built.ensures.told c.tail-built.ensures.refused c.tell_built-in-Tailing.ensures.built c.tell_built-in-Tailing.ensures.refused))

pub returns-in-Quit-clause-gives : goal.returns-in-Quit-clause-gives
returns-in-Quit-clause-gives g c =
    let s = g.J.Naming.schema in
    let glass' = c.length-n.new.glass in
    let before = sink_state g.K.Sink c.args.out.now in
    let after = sink_state g.K.Sink c.tell-in-Quit.new.out in
    let turn = c.tell-in-Quit.result in
    let reply = asked.bye c.length-n.result in
    subst (λ (ask : Ask). GivesReply (mirror_conduct s) (plain_mirror_ask ask) c.args.self.now glass' before after turn.by turn.written) (sym c.in-Quit.is)
    (subst (λ (v : GlassState). GivesReply (mirror_conduct s) asked.quit v glass' before after turn.by turn.written) c.self.view_is
    (says_text s asked.quit reply c.self.inside.glass glass' before after (Some ends.Quit) (reply_text s reply) turn refl c.length-n.ensures refl (c.tell-in-Quit.ensures.says s)))

pub returns-in-Refused-clause-gives : goal.returns-in-Refused-clause-gives
returns-in-Refused-clause-gives g c =
    let s = g.J.Naming.schema in
    let why = plain_refusal c.in-Refused.refusal in
    let glass = c.args.self.now in
    let before = sink_state g.K.Sink c.args.out.now in
    let after = sink_state g.K.Sink c.tell-in-Refused.new.out in
    let turn = c.tell-in-Refused.result in
    subst (λ (ask : Ask). GivesReply (mirror_conduct s) (plain_mirror_ask ask) glass glass before after turn.by turn.written) (sym c.in-Refused.is)
    (says_short s (asked.refused why) (asked.refusal why) glass glass before after turn refl (refused_replies s why glass) c.tell-in-Refused.ensures.says)
