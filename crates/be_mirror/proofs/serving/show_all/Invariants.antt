-- None of the sessions so far knows more than what is published.
use Rattle.std.proofs.Common.{◌≡◌, ◌++◌}
use Rattle.std.specs.List.{All}
use Rattle.be_base.specs.Lists.{BeginsWith}
use Rattle.be_published.specs.States.{GlassState}
use Rattle.be_mirror.proofs.serving.show_all.Given as goal

abbrev pub invariant-loop-session : goal.invariant-loop-session
invariant-loop-session g l =
    (goal.iterator-loop-session g).can_next l.session-iterator
    × (goal.iterator-loop-session g).is_finite l.session-iterator
    × (l.fn.sessions.items ≡ l.yielded ++ l.session-iterator.rest.items)
    × All (λ (x : GlassState). BeginsWith l.fn.feeder.published x.known) l.yielded
