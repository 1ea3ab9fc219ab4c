-- The list after the change is a list that follows a leader's.
use Rattle.std.proofs.Common.{◌≡◌, ℕ, ◌≤◌, length, ◌&&◌, rules, subst, ◌∙◌}
use Rattle.std.specs.Arc.{arc_value}
use Rattle.be_base.specs.declared.limits.TheConstants.{LOG_CHANGES}
use Rattle.be_change.specs.Entries.{entry_of}
use Rattle.be_change.specs.History.{serial_of, session_of, is_opening}
use Rattle.be_copy.specs.Edits.{with_entry}
use Rattle.be_follow.specs.Placing.{IsFollowed}
use Rattle.be_follow.specs.Stands.{stand_in, stand_by}
use Rattle.be_follow.proofs.Placed.{taken_last, followed_on}
use Rattle.be_follow.proofs.Standing.{serial_low}
use Rattle.be_follow.proofs.followed.FollowedFeedList.append.Goals as goal

pub stand_by-stand-requires : goal.stand_by-stand-requires
stand_by-stand-requires g c =
    let h = c.args.self.now.list in
    let e = entry_of (arc_value c.args.change) in
    let few : length h ≤ LOG_CHANGES = search rules in
    let low : serial_of e ≤ LOG_CHANGES = serial_low (session_of e) h (serial_of e) few c.requires.follows.serial in
    search rules

pub invariant_of-self-2 : goal.invariant_of-self-2
invariant_of-self-2 g c =
    let s = g.I.Index.schema c.args.self.now.index in
    let h = c.args.self.now.list in
    let e = entry_of (arc_value c.args.change) in
    let put : c.absorb.new.self.list ≡ with_entry s h e = search rules in
    let whose : c.session_of-session.result.0 ≡ session_of e = search rules in
    let stood : c.stand_by-stand.result ≡ stand_by e = search rules in
    let opens : c.stays_open-opening.result ≡ (c.self.inside.opening && is_opening e) = search rules in
    followed_on h c.absorb.new.self.list e c.self.inside.opening c.stays_open-opening.result c.self.inside.stands c.make_room.new.self c.set.new.self
    (subst (λ v. IsFollowed v.list c.self.inside.opening c.self.inside.stands) c.self.view_is c.self.invariant)
    c.requires.follows (taken_last s h c.absorb.new.self.list e c.requires.follows c.requires.lies put) opens c.make_room.ensures.same
    (subst (λ (k : ℕ). stand_in c.set.new.self k ≡ stand_by e) whose (c.set.ensures.set ∙ stood))
    (λ k apart. c.set.ensures.others k (λ same. apart (same ∙ whose)))
