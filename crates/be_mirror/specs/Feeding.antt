-- A feed that is being taken from an input.
use Rattle.std.specs.Prelude.{◌≡◌, ◌≢◌, ℕ, ◌<◌, ◌≤◌, ◌++◌, List, length, None, Result, Err, IfOk, IfErr, OnOk}
use Rattle.be_base.specs.Counts.{RisesBy}
use Rattle.be_base.specs.Lists.{BeginsWith}
use Rattle.be_io.specs.Source.{SourceState}
use Rattle.be_io.specs.Told.{WhereTold}
use Rattle.be_model.specs.Schemas.{Attributes}
use Rattle.be_follow.specs.Followers.{FollowerState, Follows}
use Rattle.be_mirror.specs.Serving.{FeedEnds}
use Rattle.be_mirror.specs.declared.feeding.FeedEnd.{FeedEnd}
use Rattle.be_mirror.specs.declared.feeding.FeedEnd.TheVariants as feed

-- these bytes were taken from the input, and a follower took them
pub record IsFed (s : Attributes) (before after : SourceState) (f : FollowerState) : Type 0 where
  pub bytes : List ℕ
  pub given : WhereTold before.left after.left (λ b a. b ≡ bytes ++ a)
  pub follows : Follows bytes f
  pub schema : f.schema ≡ s

-- behind these bytes one piece more was taken, of at most so many
pub record IsFedOn (most : ℕ) (s : Attributes) (bytes : List ℕ) (before after : SourceState) (f : FollowerState) : Type 0 where
  pub piece : List ℕ
  pub few : length piece ≤ most
  pub given : WhereTold before.left after.left (λ b a. b ≡ (bytes ++ piece) ++ a)
  pub follows : Follows (bytes ++ piece) f
  pub schema : f.schema ≡ s

-- the input gave at most so many bytes
abbrev pub GivesAtMost : ℕ → SourceState → SourceState → Type 0
GivesAtMost most before after = (taken : ℕ) × (taken ≤ most) × RisesBy taken before.taken after.taken

-- the next piece was read from the input, at most so many bytes, and the follower took it: the answer is its length, or why the feed
-- goes no further. Where memory was wanting the list has grown at most
pub record TakesNext (most : ℕ) (before after : SourceState) (f g : FollowerState) (r : Result ℕ FeedEnd) : Type 0 where
  -- what was fed from first to last, whatever came before
  pub fed : r ≢ Err feed.NoMemory → (s : Attributes) (first : SourceState) → (was : IsFed s first before f) → IsFedOn most s was.bytes first after g
  pub taken : IfOk r (λ k. (0 < k) × (k ≤ most) × RisesBy k before.taken after.taken)
  pub sound : OnOk r ((after.faults ≡ before.faults) × (g.fed.fault ≡ None))
  pub ends : IfErr r (λ end. end ≢ feed.NoMemory → FeedEnds before after end g.fed)
  pub stays : r ≢ Err feed.Left
  pub still : r ≡ Err feed.Ended → RisesBy 0 before.taken after.taken
  pub within : GivesAtMost most before after
  pub schema : g.schema ≡ f.schema
  pub grows : BeginsWith g.fed.list f.fed.list
