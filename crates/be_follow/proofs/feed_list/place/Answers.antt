-- The change is compared with the one at its place, or put last where it may follow.
use Rattle.std.proofs.Common.{rules, ◌≡◌, ◌++◌, ◌∷◌, [], List, length, arith, ap}
use Rattle.be_change.specs.Entries.{entry_of}
use Rattle.be_change.specs.History.{Entry, MayFollow}
use Rattle.be_follow.proofs.Placed.{placed_again, placed_unfit, placed_last}
use Rattle.be_follow.proofs.feed_list.place.Goals as goal

pub returns-then-place-len-2-clause-places : goal.returns-then-place-len-2-clause-places
returns-then-place-len-2-clause-places g c =
    let h = g.F.FeedList.list c.args.list.now in
    let len : c.len-len.result ≡ length h = omega (arith, c.len-len.ensures.len, ap (λ (l : List Entry). length l) c.log.ensures.list) in
    placed_again h c.args.place (entry_of c.args.change) c.again.result (omega (arith, len)) c.again.ensures.same c.again.ensures.other

pub returns-then-not-may_follow-clause-places : goal.returns-then-not-may_follow-clause-places
returns-then-not-may_follow-clause-places g c =
    let h = g.F.FeedList.list c.args.list.now in
    let len : c.len-len.result ≡ length h = omega (arith, c.len-len.ensures.len, ap (λ (l : List Entry). length l) c.log.ensures.list) in
    let unfit : MayFollow h (entry_of c.args.change) → ⊥ = search rules in
    placed_unfit h c.args.place (entry_of c.args.change) (omega (arith, len)) unfit

pub returns-clause-places : goal.returns-clause-places
returns-clause-places g c =
    let h = g.F.FeedList.list c.args.list.now in
    let len : c.len-len.result ≡ length h = omega (arith, c.len-len.ensures.len, ap (λ (l : List Entry). length l) c.log.ensures.list) in
    let may : MayFollow h (entry_of c.args.change) = search rules in
    let put : g.F.FeedList.list c.append.new.self ≡ h ++ entry_of c.args.change ∷ [] = search rules in
    placed_last h (g.F.FeedList.list c.append.new.self) c.args.place (entry_of c.args.change) (omega (arith, len)) may put
