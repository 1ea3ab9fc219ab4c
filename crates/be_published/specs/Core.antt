-- What a read is among the acts of the core.
use Rattle.std.specs.Prelude.{◌≡◌, ℕ, ◌≤◌, false, List, length}
use Rattle.be_base.specs.Lists.{BeginsWith}
use Rattle.be_model.specs.Matching.{Assignments}
use Rattle.be_change.specs.History.{Entry, has_left, hits}
use Rattle.be_core.specs.Acts.{reads}
use Rattle.be_core.specs.World.{State, seen_by, after_seeing, step}
use Rattle.be_core.specs.declared.acts.CoreReply.TheVariants.{Hits}
use Rattle.be_published.specs.States.{GlassState}
use Rattle.be_published.specs.Reads.{IsReadAt}

-- in a world of which what is read is a published beginning, a session that has seen what the reader knew reads,
-- at the length that the reader answered, the hits of the list that it read
abbrev pub ReadsAreTheCores : Type 0
ReadsAreTheCores =
    (g g' : GlassState) (n : ℕ) (w : State) (k : ℕ) (e : Assignments)
    → IsReadAt g g' n → BeginsWith w.list g'.known → n ≤ w.published → has_left k w.list ≡ false → seen_by k w.seen ≡ length g.known
    → step w (reads k n e) ≡ (after_seeing k n w, Hits n (hits g'.known e))
