use Rattle.std.proofs.Common.{◌≡◌, false, ap, sym, ◌∙◌, subst}
use Rattle.std.specs.List.{list_any}
use Rattle.be_core.specs.Acts.{deeds_of}
use Rattle.be_core.specs.World.{State, run, is_split, IsWorld}
use Rattle.be_core.specs.Sessions.{EachIsLegal, ReshapesChangeNothing}
use Rattle.be_core.specs.Memory.{state_of}
use Rattle.be_core.proofs.Runs.{led, each_legal, acts_whole, acts_kept, shape_unseen}
use Rattle.be_core.proofs.world.World.run.Goals as goal

pub invariant_of-self : goal.invariant_of-self
invariant_of-self c =
    led (λ r. IsWorld r.0) (state_of c.in_ok-core.core) (state_of c.run_all.new.core) c.in_ok-replies.replies.items (deeds_of c.args.acts.now) c.in_ok-replies.ensures
    (acts_kept (state_of c.in_ok-core.core) (deeds_of c.args.acts.now) c.requires (subst IsWorld (sym c.in_ok-core.ensures) c.self.invariant))

pub returns-clause-legal : goal.returns-clause-legal
returns-clause-legal c =
    led (EachIsLegal c.args.self.now (deeds_of c.args.acts.now)) c.args.self.now (state_of c.run_all.new.core) c.in_ok-replies.replies.items (deeds_of c.args.acts.now)
    (c.in_ok-replies.ensures ∙ ap (λ (s : State). run s (deeds_of c.args.acts.now)) (c.in_ok-core.ensures ∙ c.self.view_is))
    (each_legal c.args.self.now (deeds_of c.args.acts.now) c.requires (subst IsWorld c.self.view_is c.self.invariant))

pub returns-clause-whole : goal.returns-clause-whole
returns-clause-whole c =
    led (λ r. list_any is_split r.1 ≡ false) c.args.self.now (state_of c.run_all.new.core) c.in_ok-replies.replies.items (deeds_of c.args.acts.now)
    (c.in_ok-replies.ensures ∙ ap (λ (s : State). run s (deeds_of c.args.acts.now)) (c.in_ok-core.ensures ∙ c.self.view_is))
    (acts_whole c.args.self.now (deeds_of c.args.acts.now) c.requires (subst IsWorld c.self.view_is c.self.invariant))

pub returns-clause-kept : goal.returns-clause-kept
returns-clause-kept c =
    led (λ r. IsWorld r.0) (state_of c.in_ok-core.core) (state_of c.run_all.new.core) c.in_ok-replies.replies.items (deeds_of c.args.acts.now) c.in_ok-replies.ensures
    (acts_kept (state_of c.in_ok-core.core) (deeds_of c.args.acts.now) c.requires (subst IsWorld (sym c.in_ok-core.ensures) c.self.invariant))

pub returns-clause-shape : goal.returns-clause-shape
returns-clause-shape c =
    led (ReshapesChangeNothing c.args.self.now (deeds_of c.args.acts.now)) c.args.self.now (state_of c.run_all.new.core) c.in_ok-replies.replies.items (deeds_of c.args.acts.now)
    (c.in_ok-replies.ensures ∙ ap (λ (s : State). run s (deeds_of c.args.acts.now)) (c.in_ok-core.ensures ∙ c.self.view_is))
    (shape_unseen c.args.self.now (deeds_of c.args.acts.now))
