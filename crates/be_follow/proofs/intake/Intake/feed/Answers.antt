-- One more part of the piece was taken.
use Rattle.std.proofs.Common.{ℕ, List, subst, arith, ◌∙◌, length-drop, length-take}
use Rattle.be_base.proofs.Beginnings.{BeginsWith-along}
use Rattle.be_follow.specs.Followers.{with_list, Follows}
use Rattle.be_follow.proofs.Taken.{taken_then, stays_on}
use Rattle.be_follow.proofs.intake.Intake.feed.Goals as goal

pub loop-taken-preserved : goal.loop-taken-preserved
loop-taken-preserved g c = record {
  within = omega (arith, c.in-Ok.ensures.taken.1, length-drop {A = ℕ}, length-take {A = ℕ}, c.loop-taken.invariant.within);
  follows = λ bytes f.
      subst (λ (x : List ℕ). Follows x (with_list (g.F.FeedList.list c.take_line.new.list) c.take_line.new.self)) (taken_then bytes c.args.piece.now c.loop-taken.taken c.in-Ok.count)
      (c.in-Ok.ensures.taken.2 _ (c.loop-taken.invariant.follows bytes f));
  schema = c.take_line.ensures.schema.0 ∙ c.loop-taken.invariant.schema;
  listed = c.take_line.ensures.schema.1 ∙ c.loop-taken.invariant.schema;
  grows = BeginsWith-along (g.F.FeedList.list c.take_line.new.list) (g.F.FeedList.list c.loop-taken.list) (g.F.FeedList.list c.args.list.now) c.take_line.ensures.grows c.loop-taken.invariant.grows;
  stays = stays_on c.args.self.now c.loop-taken.self c.take_line.new.self _ _ _ c.loop-taken.invariant.stays c.take_line.ensures.stays;
}

pub returns-in-Err-clause-follows : goal.returns-in-Err-clause-follows
returns-in-Err-clause-follows g c = λ bytes f.
    subst (λ (x : List ℕ). Follows x (with_list (g.F.FeedList.list c.take_line.new.list) c.take_line.new.self)) (taken_then bytes c.args.piece.now c.loop-taken.taken c.in-Err.wanting.taken)
    (c.in-Err.ensures.wanting.2 _ (c.loop-taken.invariant.follows bytes f))
