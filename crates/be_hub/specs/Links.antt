-- What a worker leaves of the links of a door that it served, one session after another.
use Rattle.std.specs.Prelude.{◌≡◌, ℕ, ◌+◌, ◌-◌, ◌*◌, ◌<◌, ◌≤◌, ◌++◌, true, List, [], ◌∷◌, length, map, All, Some, slice_get}
use Rattle.std.specs.List.{sum_by}
use Rattle.atomic_table.specs.Seated.{TableId}
use Rattle.be_base.specs.Counts.{HasRisen}
use Rattle.be_base.specs.Lists.{BeginsWith}
use Rattle.be_base.specs.declared.limits.TheConstants.{SOURCE_BYTES}
use Rattle.be_base.specs.declared.names.SessionNo.{SessionNo}
use Rattle.be_io.specs.Outside.{LinkState}
use Rattle.be_model.specs.Schemas.{Attributes}
use Rattle.be_change.specs.History.{Entry, session_of}
use Rattle.be_mail.specs.Letters.{seat_of, letter_in}
use Rattle.be_board.specs.Word.{own_of, own_in}
use Rattle.be_desk.specs.Boards.{board_of, put_count}
use Rattle.be_desk.specs.Emptied.{IsEmptied}
use Rattle.be_desk.specs.Seats.{SeatState, word_of}
use Rattle.be_door.specs.Counts.{CountState, IsSound, sums_of}
use Rattle.be_door.specs.Door.{DoorState, IsOf, IsNew}
use Rattle.be_door.specs.Links.{IsUnused}
use Rattle.be_door.specs.declared.sums.Sums.{Sums}
use Rattle.be_hub.specs.Files.{is_split_end}
use Rattle.be_hub.specs.declared.links.TheConstants.{FIRST_END}
use Rattle.be_protocol.specs.declared.ends.SessionEnd.{SessionEnd}
use Rattle.be_protocol.specs.declared.ends.SessionEnd.TheVariants.{ReadFault, WriteFault, Spent}
use Rattle.be_session.specs.Served.{SessionEnds, BoardLeft}

-- the session of a worker's link i, from 0: each one is the number of seats above the last
abbrev pub session_at : ℕ → ℕ → ℕ → ℕ
session_at seats first i = first + i * seats

-- the seat's session was served over the link, by a board that is to tend. It counts on from the tends that were asked for before it
pub record SessionServed (s : Attributes) (asked asked' : ℕ) (seat seat' : SeatState) (before after : LinkState) (end : SessionEnd) : Type 0 where
  pub session : SessionEnds ((after ≡ before) × (seat' ≡ seat) × (asked' ≡ asked)) s before after (board_of 1 s asked seat) (board_of 1 s asked' seat') end
  pub board : BoardLeft (board_of 1 s asked seat) (board_of 1 s asked' seat')
  -- all bytes that the link gives from first to last are the same ones
  pub whole : after.source.whole ≡ before.source.whole

-- the seat went on to later sessions: what it knows and what it took only grew, and what it had accepted since isn't session k's
pub record WentOn (k : ℕ) (s s' : SeatState) : Type 0 where
  pub seat : s'.passes.seat ≡ s.passes.seat
  pub session : s.session ≤ s'.session
  pub known : BeginsWith s'.glass.known s.glass.known
  pub own : own_of k s'.own ≡ own_of k s.own
  pub notes : BeginsWith (map letter_in s'.passes.taken) (map letter_in s.passes.taken)
  pub shuts : s.glass.shuts ≤ s'.glass.shuts
  pub splits : s.splits ≤ s'.splits

-- a link that was served at a seat: the seat as the session found it and left it, how many tends its worker's boards had been asked
-- for by then and by its end, the link as it stands now, and how the session ended
pub record SeatVisit : Type 0 where
  pub entered : SeatState
  pub left : SeatState
  pub asked_before : ℕ
  pub asked_after : ℕ
  pub link : LinkState
  pub end : SessionEnd

-- after a session that left the seat so its mailbox was emptied, and then the seat's next session was entered
pub record EntersNext (s : Attributes) (seats : ℕ) (left entered : SeatState) : Type 0 where
  pub emptied : SeatState
  pub box : IsEmptied s seats left emptied
  pub next : entered ≡ record emptied { session = emptied.session + seats }

-- the visits to a seat that a session left so, one after another: before each the mailbox was emptied
abbrev pub FollowLeft : Attributes → (seats : ℕ) → SeatState → List SeatVisit → SeatState → Type 0
FollowLeft s seats left [] last = last ≡ left
FollowLeft s seats left (v ∷ vs) last = EntersNext s seats left v.entered × FollowLeft s seats v.left vs last

-- the visits to one seat, one after another: the first finds it as it was, and each other one as the one before it left it, but for
-- what was taken out of its mailbox between the two, and its session's number
abbrev pub FollowOn : Attributes → (seats : ℕ) → SeatState → List SeatVisit → SeatState → Type 0
FollowOn s seats first [] last = last ≡ first
FollowOn s seats first (v ∷ vs) last = (v.entered ≡ first) × FollowLeft s seats v.left vs last

-- the visits' boards were asked for tends from this number on, and up to that one. Each counts on from the one before it
abbrev pub AskOn : (before : ℕ) → List SeatVisit → (after : ℕ) → Type 0
AskOn before [] after = after ≡ before
AskOn before (v ∷ vs) after = (v.asked_before ≡ before) × AskOn v.asked_after vs after

-- a link that nobody had used was served as session k, and stands so now. The seat began as `first`, knew no less when the
-- session began, and stands at `last`
pub record LinkServed (s : Attributes) (boxes : List TableId) (k : ℕ) (first last : SeatState) (visit : SeatVisit) : Type 0 where
  pub unused : LinkState
  pub is_unused : IsUnused unused
  pub somebody : 0 < k
  pub session_is : visit.entered.session ≡ k
  pub seat_is : seat_of (length boxes) k ≡ last.passes.seat
  pub known : BeginsWith visit.entered.glass.known first.glass.known
  pub served : SessionServed s visit.asked_before visit.asked_after visit.entered visit.left unused visit.link visit.end
  pub went_on : WentOn k visit.left last

-- what the visits added to a count of the seat, together
abbrev pub added_by : (SeatState → ℕ) → List SeatVisit → ℕ
added_by count visits = sum_by (λ (v : SeatVisit). count v.left - count v.entered) visits

-- what was added to it between the visits, together, where the first finds the seat so
abbrev pub added_between : (SeatState → ℕ) → SeatState → List SeatVisit → ℕ
added_between count before [] = 0
added_between count before (v ∷ vs) = (count v.entered - count before) + added_between count v.left vs

-- what the visits added to a count of the seat is what was added to it from first to last
abbrev pub AddUp : (SeatState → ℕ) → List SeatVisit → SeatState → SeatState → Type 0
AddUp count visits first last = count last ≡ count first + added_by count visits

-- so it is with what was added between them
abbrev pub AddUpWith : (SeatState → ℕ) → List SeatVisit → SeatState → SeatState → Type 0
AddUpWith count visits first last = count last ≡ count first + added_between count first visits + added_by count visits

-- so it is of each count of the seat to which a session's replies are tied: no rise of it belongs to two visits. Between two visits
-- only the look that found the mailbox empty is counted
pub record CountsAddUp (visits : List SeatVisit) (first last : SeatState) : Type 0 where
  pub reads : AddUp (λ x. x.glass.reads) visits first last
  pub shuts : AddUp (λ x. x.glass.shuts) visits first last
  pub splits : AddUp (λ x. x.splits) visits first last
  pub fulls : AddUp (λ x. x.passes.fulls) visits first last
  pub empties : AddUpWith (λ x. x.passes.empties) visits first last
  pub puts : AddUp (λ x. put_count x.passes) visits first last

-- a session ends so only where these numbers say it
abbrev pub IsCounted : Sums → SessionEnd → Type 0
IsCounted sums ReadFault = 0 < sums.read_faults
IsCounted sums WriteFault = 0 < sums.write_faults
IsCounted sums Spent = SOURCE_BYTES ≤ sums.most
IsCounted sums end = Unit {0}

-- the accepted change is of the session of one of so many links
abbrev pub IsOfLink : (seats first links : ℕ) → ℕ × Entry → Type 0
IsOfLink seats first links p = (i : ℕ) × (i < links) × (session_of p.1 ≡ session_at seats first i)

-- each change that was accepted meanwhile is of the session of one of so many links
abbrev pub AddsOfLinks : (seats links : ℕ) → SeatState → SeatState → Type 0
AddsOfLinks seats links first last =
    (new : List (ℕ × Entry)) × (last.own ≡ first.own ++ new) × All (IsOfLink seats first.session links) new

module _ {L : Type 0} (told : L → LinkState) where
  -- the link that is kept at this place, with its session, is the one of the visit there
  pub record IsOfVisit (visits : List SeatVisit) (place : ℕ) (kept : SessionNo × L) : Type 0 where
    pub visit : SeatVisit
    pub there : slice_get visits place ≡ Some visit
    pub session : visit.entered.session ≡ kept.0.0
    pub link : visit.link ≡ told kept.1

  -- the links that came back were served one after another, each as a session of its own, whether they are kept or not. Those
  -- that are kept stand with their sessions, in order. It is so while a link is out, too
  pub record LinksServed (s : Attributes) (boxes : List TableId) (first last : SeatState) (count : CountState L) (ends : List SessionEnd) (calls asked : ℕ) : Type 0 where
    pub back : count.back ≡ length ends
    pub seat : last.passes.seat ≡ first.passes.seat
    -- the session is the last link's, or the first one of all
    pub session : last.session ≡ session_at (length boxes) first.session (length ends - 1)
    pub known : BeginsWith last.glass.known first.glass.known
    pub splits : first.splits ≤ last.splits
    pub own : AddsOfLinks (length boxes) (length ends) first last
    -- one a link, in order
    pub visits : List SeatVisit
    pub ends_are : ends ≡ map (λ (v : SeatVisit). v.end) visits
    pub chain : FollowOn s (length boxes) first visits last
    -- between replies the boards of all sessions were asked for so many tends, all told
    pub tends : AskOn 0 visits asked
    pub served : (i : ℕ) (visit : SeatVisit) → slice_get visits i ≡ Some visit → LinkServed s boxes (session_at (length boxes) first.session i) first last visit
    pub kept : (i : ℕ) (kept : SessionNo × L) → slice_get count.kept i ≡ Some kept → IsOfVisit visits i kept
    pub counted : All (IsCounted (sums_of count)) ends
    pub split : All (λ (end : SessionEnd). is_split_end end ≡ true → HasRisen first.splits last.splits) ends
    -- an accept failed only where the count of faults says it
    pub failed : 0 < count.failed → 0 < count.read_faults
    -- behind the sessions the desk was tended at least as often as sessions have ended
    pub swept : length ends ≤ calls

  -- a worker has met the end of the links, and all that it was given are back
  pub record WorkerServed (s : Attributes) (boxes : List TableId) (door : DoorState L) (first last : SeatState) (count : CountState L) (ends : List SessionEnd) (calls asked between : ℕ) : Type 0 where
    pub links : LinksServed s boxes first last count ends calls asked
    -- no more of their tends than that reached the desk
    pub reached : between ≤ asked
    pub counts : CountsAddUp links.visits first last
    pub all_back : count.given ≡ count.back
    pub ended : count.ended ≡ true
    pub is_of : IsOf door count
    pub sound : IsSound count

-- the seat's session has no accepted change yet, and others can follow it
abbrev pub MayStart : SeatState → Type 0
MayStart seat = (own_in (word_of seat) ≡ []) × (seat.session < FIRST_END)

-- a worker may begin: its seat may start, and its count is new
abbrev pub MayBegin : {L : Type 0} → DoorState L → SeatState → CountState L → Type 0
MayBegin door seat count = MayStart seat × IsNew door count
