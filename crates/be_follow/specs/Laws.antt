-- What a follower has where it is given a leader's own bytes.
use Rattle.std.specs.Prelude.{◌≡◌, ℕ, ◌+◌, ◌<◌, ◌≤◌, ◌++◌, true, List, [], ◌∷◌, length, take, max, fold, All, None}
use Rattle.std.specs.List.{flat_map}
use Rattle.be_base.specs.Lists.{BeginsWith}
use Rattle.be_base.specs.Text.{Text}
use Rattle.be_base.specs.declared.limits.TheConstants.{COUNT_END}
use Rattle.be_io.specs.Lines.{closed_lines}
use Rattle.be_model.specs.Schemas.{Attributes, IsSchema}
use Rattle.be_model.specs.Texts.{NamesAreNames}
use Rattle.be_change.specs.History.{Entry, session_of, serial_of, IsWellFormed}
use Rattle.be_change.specs.Requests.{tailed}
use Rattle.be_change.specs.Sound.{all_lie}
use Rattle.be_change.specs.Walk.{tail_from}
use Rattle.be_expr.specs.Changes.{IsFormed}
use Rattle.be_protocol.specs.Replies.{change_lines, reply_lines, with_lf}
use Rattle.be_follow.specs.Feeds.{Fed, Means}

-- a leader's feed: for each place of its list, in order, a line with the change there
abbrev pub feed : Attributes → List Entry → List ℕ
feed s h = flat_map with_lf (change_lines s 0 h)

-- its name is a name, its condition has the form of one, and its numbers are those that a text may have
pub record IsWritten (e : Entry) : Type 0 where
  pub form : IsFormed e
  pub session : session_of e < COUNT_END
  pub serial : serial_of e < COUNT_END

-- a leader's list, whose rows lie in the schema
pub record IsLeaders (s : Attributes) (h : List Entry) : Type 0 where
  pub formed : IsWellFormed h
  pub lies : all_lie s h ≡ true
  pub written : All IsWritten h
  pub few : length h ≤ COUNT_END

-- the first bytes of a leader's feed mean the beginning of its list that has a change for each whole line, and no fault
abbrev pub FeedsAreFollowed : Type 0
FeedsAreFollowed =
    (s : Attributes) (h : List Entry) (bytes : List ℕ) (f : Fed) → IsSchema s → NamesAreNames s → IsLeaders s h → BeginsWith (feed s h) bytes → Means s bytes f
    → (f.list ≡ take (length (closed_lines bytes)) h) × (f.fault ≡ None)

-- the first lines of a leader's reply to `TAIL place max`
pub record Captured : Type 0 where
  pub place : ℕ
  pub max : ℕ
  -- how many changes the leader had then
  pub told : ℕ
  -- how many lines there are, where the reply has so many
  pub lines : ℕ

-- the changes that the reply names
abbrev pub named_in : List Entry → Captured → List Entry
named_in h c = tail_from c.place c.max (take c.told h)

abbrev pub captured_lines : Attributes → List Entry → Captured → List Text
captured_lines s h c = take c.lines (reply_lines s (tailed c.told c.place (named_in h c)))

-- the bytes of such lines, reply after reply
abbrev pub capture : Attributes → List Entry → List Captured → List ℕ
capture s h cs = flat_map with_lf (flat_map (captured_lines s h) cs)

-- how far the lines of changes reach: each one behind its change
abbrev pub reaches_from : ℕ → List Entry → List ℕ
reaches_from place [] = []
reaches_from place (e ∷ es) = (place + 1) ∷ reaches_from (place + 1) es

-- the same of the captured lines. The last line of a reply reaches nowhere
abbrev pub reaches_of : List Entry → Captured → List ℕ
reaches_of h c = take c.lines (reaches_from c.place (named_in h c) ++ 0 ∷ [])

-- how much of a list is covered by lines that reach so far, where so much was covered before
abbrev pub covered : ℕ → List ℕ → ℕ
covered before reaches = fold max before reaches

-- each reply was given over a beginning of the list, and begins no later than where what is covered ends
abbrev pub AreCaptured : List Entry → ℕ → List Captured → Type 0
AreCaptured h before [] = Unit {0}
AreCaptured h before (c ∷ cs) =
    (c.told ≤ length h) × (c.place ≤ before) × AreCaptured h (covered before (reaches_of h c)) cs

-- the first bytes of captured replies mean the beginning of the leader's list that their whole lines cover, and no fault,
-- however the replies overlap, come again or break off behind a line. All bytes mean what all lines cover
abbrev pub CapturesAreFollowed : Type 0
CapturesAreFollowed =
    (s : Attributes) (h : List Entry) (cs : List Captured) (bytes : List ℕ) (f : Fed) → IsSchema s → NamesAreNames s → IsLeaders s h → length h < COUNT_END
    → AreCaptured h 0 cs → BeginsWith (capture s h cs) bytes → Means s bytes f
    → (f.list ≡ take (covered 0 (take (length (closed_lines bytes)) (flat_map (reaches_of h) cs))) h) × (f.fault ≡ None)
    × (bytes ≡ capture s h cs → f.list ≡ take (covered 0 (flat_map (reaches_of h) cs)) h)

-- what bytes mean is one thing
abbrev pub FeedsMeanOne : Type 0
FeedsMeanOne = (s : Attributes) (bytes : List ℕ) (f g : Fed) → Means s bytes f → Means s bytes g → f ≡ g
