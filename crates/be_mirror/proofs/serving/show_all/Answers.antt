use Rattle.std.proofs.Common.{◌++◌, [], ◌∷◌, sym, ap, subst, ◌∙◌, arith, append_assoc}
use Rattle.std.specs.List.{All}
use Rattle.std.proofs.lemmas.List.Elements.{All-nil, All-push}
use Rattle.be_base.specs.Lists.{BeginsWith}
use Rattle.be_published.specs.States.{GlassState}
use Rattle.be_hub.proofs.Pairs.{gone_through}
use Rattle.be_mirror.proofs.serving.show_all.Goals as goal

pub loop-session-init : goal.loop-session-init
loop-session-init g c = (tt, tt, sym c.into_iter-session-iterator.ensures.into_iter_gives.0, All-nil (λ (x : GlassState). BeginsWith c.args.feeder.now.published x.known))

pub loop-session-preserved : goal.loop-session-preserved
loop-session-preserved g c =
    let i = c.loop-session.invariant in (
      tt,
      tt,
      i.2 ∙ (ap (λ l. c.loop-session.yielded ++ l) c.in-Some.ensures.steps.0 ∙ sym (append_assoc c.loop-session.yielded (c.in-Some.session ∷ []) c.next.new.self.rest.items)),
      All-push (λ (x : GlassState). BeginsWith c.args.feeder.now.published x.known) c.loop-session.yielded c.in-Some.session i.3 c.in_ok-show.ensures.shown,
    )

pub returns-clause-shown : goal.returns-clause-shown
returns-clause-shown g c =
    let i = c.loop-session.invariant in
    subst (All (λ (x : GlassState). BeginsWith c.args.feeder.now.published x.known))
    (gone_through c.args.sessions.items c.loop-session.yielded c.loop-session.session-iterator.rest.items i.2 (omega (arith, c.loop-session.session-iterator.rest.ok.0, c.in-None.ensures.steps.0))) i.3
