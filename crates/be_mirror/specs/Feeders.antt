-- What contracts see of the side of a mirror that is fed.
use Rattle.std.specs.Prelude.{◌≡◌, List, []}
use Rattle.be_model.specs.Schemas.{Attributes}
use Rattle.be_change.specs.History.{Entry}
use Rattle.be_follow.specs.Followers.{FollowerState, new_follower}

pub record FeederState : Type 0 where
  -- what a follower has that took the same bytes
  pub took : FollowerState
  -- what readers see of its list
  pub published : List Entry

abbrev pub new_feeder : Attributes → FeederState
new_feeder s = record { took = new_follower s; published = [] }

abbrev pub IsAllPublished : FeederState → Type 0
IsAllPublished f = f.published ≡ f.took.fed.list
