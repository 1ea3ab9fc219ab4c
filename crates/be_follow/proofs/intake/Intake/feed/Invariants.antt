-- What was taken of the piece so far came behind what was taken before it.
use Rattle.std.proofs.Common.{◌≡◌, ◌-◌, ◌≤◌, ◌++◌, List, ℕ, length, take, IfSome}
use Rattle.be_base.specs.Lists.{BeginsWith}
use Rattle.be_follow.specs.Followers.{with_list, Follows}
use Rattle.be_follow.proofs.intake.Intake.feed.Given as goal

abbrev pub invariant-loop-taken : goal.invariant-loop-taken
invariant-loop-taken g l = record {
  within : l.taken ≤ length l.piece;
  follows : (bytes : List ℕ) → Follows bytes (with_list (g.F.FeedList.list l.fn.list) l.fn.self) → Follows (bytes ++ take l.taken l.piece) (with_list (g.F.FeedList.list l.list) l.self);
  schema : l.self.schema ≡ l.fn.self.schema;
  listed : g.F.FeedList.schema l.list ≡ l.fn.self.schema;
  grows : BeginsWith (g.F.FeedList.list l.list) (g.F.FeedList.list l.fn.list);
  stays : IfSome l.fn.self.fault (λ kind. (l.self ≡ l.fn.self) × (g.F.FeedList.list l.list ≡ g.F.FeedList.list l.fn.list));
}

abbrev pub decreases-loop-taken : goal.decreases-loop-taken
decreases-loop-taken g l = length l.piece - l.taken
