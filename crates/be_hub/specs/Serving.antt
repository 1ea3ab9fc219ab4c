-- What the links of a door gave and hold, over one list of changes, and what was made of the door.
use Rattle.std.specs.Prelude.{◌≡◌, ℕ, ◌+◌, ◌<◌, ◌≤◌, ◌++◌, ◌⊎◌, Bool, true, false, List, [], ◌∷◌, length, map, All, Any, None, Some, slice_get}
use Rattle.std.specs.List.{flat_map, list_any, sum_by}
use Rattle.be_base.specs.Counts.{raised, HasRisen, HasRisenBy}
use Rattle.be_base.specs.Lists.{BeginsWith}
use Rattle.be_base.specs.declared.limits.TheConstants.{SOURCE_BYTES}
use Rattle.be_base.specs.declared.names.SessionNo.{SessionNo}
use Rattle.be_io.specs.Lines.{TextLine}
use Rattle.be_io.specs.Outside.{LinkState}
use Rattle.be_model.specs.Schemas.{Attributes}
use Rattle.be_change.specs.History.{Entry, session_of, IsWellFormed}
use Rattle.be_change.specs.Requests.{Note, Exchange}
use Rattle.be_mail.specs.Letters.{seat_of}
use Rattle.be_door.specs.Door.{DoorState, after_try}
use Rattle.be_door.specs.Links.{IsUnused}
use Rattle.be_door.specs.declared.sums.Sums.{Sums}
use Rattle.be_protocol.specs.Conversation.{Terms, ConversationEnds}
use Rattle.be_protocol.specs.Readings.{reading}
use Rattle.be_protocol.specs.Transcript.{AreExchanges}
use Rattle.be_protocol.specs.declared.ends.SessionEnd.{SessionEnd}
use Rattle.be_protocol.specs.declared.ends.SessionEnd.TheVariants.{Split, NoMemory}
use Rattle.be_session.specs.Given.{letters_given}
use Rattle.be_session.specs.Tied.{letters_put}
use Rattle.be_hub.specs.Files.{IsRead}
use Rattle.be_hub.specs.Links.{IsCounted}
use Rattle.be_hub.specs.Posted.{Mailed, LetterBox, all_in, count_from, taken_for, StandAmong, IsLetterBox}
use Rattle.be_hub.specs.Transcripts.{says_shut}
use Rattle.be_hub.specs.declared.close.CloseFault.{CloseFault}
use Rattle.be_hub.specs.declared.close.CloseFault.TheVariants as close
use Rattle.be_io.specs.declared.faults.ListenFault.{ListenFault}
use Rattle.be_io.specs.declared.faults.ListenFault.TheVariants as listen
use Rattle.be_hub.specs.declared.serving.ServeFault.{ServeFault}
use Rattle.be_hub.specs.declared.serving.ServeFault.TheVariants as fault

-- what the replies of a session tell: whether one says that a reader was refused, the letters that FETCH gave, in order, and how many
-- letters SEND says were put
pub record Told : Type 0 where
  pub shut : Bool
  pub given : List Note
  pub put : ℕ

abbrev pub told_in : List Exchange → Told
told_in ps = record { shut = says_shut ps; given = letters_given ps; put = sum_by letters_put ps }

-- these exchanges are session k's over the list, of which it was told z entries before, and of which it had seen n at most in the end.
-- Its replies tell this
abbrev pub AreTold : Attributes → (k z n : ℕ) → List Entry → Told → List TextLine → List Exchange → Type 0
AreTold s k z n h told lines ps = (e : AreExchanges s k z h lines ps) × (e.session.end.seen ≤ n) × (told_in ps ≡ told)

-- a conversation of such exchanges. A last reply of which a part may be missing counts as the others
abbrev pub legal_terms : Attributes → (k z n : ℕ) → List Entry → Told → Terms
legal_terms s k z n h told = record {
  schema = s;
  asks = reading s;
  Whole = λ end lines ps. AreTold s k z n h told lines ps;
  InPart = λ lines ps p out. AreTold s k z n h told lines (ps ++ p ∷ []);
}

-- how the conversation with a link that is told of may have ended: memory wasn't wanting to it, and it didn't end by two numbers that
-- differ
abbrev pub LinkEnds : Terms → LinkState → LinkState → SessionEnd → Type 0
LinkEnds t before after (Split seen written) = ⊥
LinkEnds t before after NoMemory = ⊥
LinkEnds t before after end = ConversationEnds ⊥ t before after end

-- a link that nobody had used was served under these terms, and stands so now. These numbers of all links say it where that ended by a
-- fault
pub record IsServedUnder (t : Terms) (sums : Sums) (link : LinkState) (end : SessionEnd) : Type 0 where
  pub unused : LinkState
  pub is_unused : IsUnused unused
  -- all bytes that the link gives from first to last are the same ones
  pub whole : link.source.whole ≡ unused.source.whole
  pub ends : LinkEnds t unused link end
  pub counted : IsCounted sums end

-- so many links were to be given out. Each that was given out came back, and for each other one an accept failed
abbrev pub AllCameBack : (links : ℕ) → Sums → Type 0
AllCameBack links sums = (sums.back ≡ sums.given) × (sums.given + sums.failed ≡ links)

-- no fault of any link was counted, and none gave 2^40 bytes
abbrev pub AreFaultless : Sums → Type 0
AreFaultless sums = (sums.read_faults ≡ 0) × (sums.write_faults ≡ 0) × (sums.most < SOURCE_BYTES)

-- a link that was given out and served: its session, how many entries this was told of before, how many it had seen at most in the end,
-- the link as it stood when it came back, how the session ended, and what its replies tell
pub record ServedLink : Type 0 where
  pub session : ℕ
  pub known : ℕ
  pub seen : ℕ
  pub link : LinkState
  pub end : SessionEnd
  pub told : Told

-- the link was served over the list as the session that it names. Session 0 is nobody
pub record IsServedLink (s : Attributes) (h : List Entry) (sums : Sums) (l : ServedLink) : Type 0 where
  pub somebody : 0 < l.session
  pub legal : IsServedUnder (legal_terms s l.session l.known l.seen h l.told) sums l.link l.end

-- no two of these links have the same session
abbrev pub AreApart : List ServedLink → Type 0
AreApart ls = (i j : ℕ) (x y : ServedLink) → slice_get ls i ≡ Some x → slice_get ls j ≡ Some y → x.session ≡ y.session → i ≡ j

-- each was read to its end or to a QUIT, and none says that a reader was refused
abbrev pub AreRead : List ServedLink → Type 0
AreRead ls = All (λ (l : ServedLink). IsRead l.end × (l.told.shut ≡ false)) ls

-- a worker: the links that it served, in order, and its box of letters
pub record Worker : Type 0 where
  pub links : List ServedLink
  pub box : LetterBox

abbrev pub boxes_of : List Worker → List LetterBox
boxes_of workers = map (λ (w : Worker). w.box) workers

-- of so many workers, one served these links in turn, the first as session k, and each other one as the session that is so many above
-- the last. The first was told of z entries before, at least, and each other one of all that the one before it had seen
abbrev pub TakeTurns : (workers k z : ℕ) → List ServedLink → Type 0
TakeTurns workers k z [] = Unit {0}
TakeTurns workers k z (l ∷ ls) = (l.session ≡ k) × (z ≤ l.known) × TakeTurns workers (k + workers) l.seen ls

-- of so many workers, worker k, from 1, has the session
abbrev pub IsOfWorker : (workers k session : ℕ) → Type 0
IsOfWorker workers k session = seat_of workers session + 1 ≡ k

-- the letters of worker k among the boxes of all workers, over the list
pub record HasLetters (h : List Entry) (boxes : List LetterBox) (k : ℕ) (w : Worker) : Type 0 where
  -- the letters that FETCH gave to a link stand in one piece, in order, among those that were taken out of the worker's box for the
  -- link's session
  pub given : All (λ (l : ServedLink). StandAmong l.told.given (taken_for l.session w.box)) w.links
  -- as many letters as SEND said to all of its links lie in all boxes from the worker
  pub sent : sum_by (λ (l : ServedLink). l.told.put) w.links ≡ sum_by (count_from k) boxes
  -- each letter in its box is for a session that it has
  pub readers : All (λ (x : Mailed). IsOfWorker (length boxes) k x.reader) (all_in w.box)
  pub box_is : IsLetterBox h boxes w.box

abbrev pub session_and_link : ServedLink → ℕ × LinkState
session_and_link l = (l.session, l.link)

module _ {L : Type 0} (told : L → LinkState) where
  abbrev pub told_of : SessionNo × L → ℕ × LinkState
  told_of x = (x.0.0, told x.1)

  -- a door that keeps its links has these with their sessions, in this order, and one that doesn't keep them has none
  abbrev pub AreKept : Bool → List (SessionNo × L) → List ServedLink → Type 0
  AreKept true kept ls = map told_of kept ≡ map session_and_link ls
  AreKept false kept ls = kept ≡ []

  -- so many seats had a worker each, so many links were to be given out, and what came of them has these numbers. Each that was given
  -- out was served as a session of its own, over one well formed list that begins with the opening and has the changes of these sessions
  -- alone behind it. Each worker served its links in turn, and has a box of letters. The replies to its links say how many letters were
  -- put, and to each link a piece of what was taken out
  pub record LinksAreServed (s : Attributes) (opening h : List Entry) (shuts : Bool) (seats links : ℕ) (sums : Sums) (keeps : Bool) (kept : List (SessionNo × L)) : Type 0 where
    pub formed : IsWellFormed h
    pub begins : BeginsWith h opening
    pub came_back : AllCameBack links sums
    pub none_refused : sums.refused ≡ 0
    -- an accept failed only where the count of faults says it
    pub failed : 0 < sums.failed → 0 < sums.read_faults
    -- as many as links were given out. A door that keeps its links has these; of one that keeps none it is known that there are such
    pub served : List ServedLink
    pub count : length served ≡ sums.given
    pub apart : AreApart served
    pub each : All (IsServedLink s h sums) served
    -- a session's read was refused its entry exactly where a reply to some link says so
    pub some_shut : shuts ≡ list_any (λ (l : ServedLink). l.told.shut) served
    pub sessions : (place : ℕ) (e : Entry) → length opening ≤ place → slice_get h place ≡ Some e → Any (λ (l : ServedLink). l.session ≡ session_of e) served
    pub kept_are : AreKept keeps kept served
    -- one a seat, and the links are theirs, one worker's behind another's
    pub workers : List Worker
    pub worker_count : length workers ≡ seats
    pub by_workers : served ≡ flat_map (λ (w : Worker). w.links) workers
    -- worker 1 begins with session 1, and each other one with the session of its number
    pub turns : (i : ℕ) (w : Worker) → slice_get workers i ≡ Some w → TakeTurns (length workers) (i + 1) (length opening) w.links
    pub letters : (i : ℕ) (w : Worker) → slice_get workers i ≡ Some w → HasLetters h (boxes_of workers) (i + 1) w

-- all links were given out and came back, each was read to its end or to a QUIT, and none says that a reader was refused
pub record WereRead (links : ℕ) (sums : Sums) (served : List ServedLink) : Type 0 where
  pub given : sums.given ≡ links
  pub back : sums.back ≡ links
  pub each : AreRead served

module _ {L : Type 0} where
  -- the door after one listen that was settled, with these numbers and these links
  abbrev pub served_door : DoorState L → (port links workers : ℕ) → Sums → List (SessionNo × L) → DoorState L
  served_door door port links workers sums kept = record (after_try door port) {
    listens = raised 1 door.listens;
    «open» = None;
    links = links;
    workers = workers;
    given = sums.given;
    back = sums.back;
    failed = sums.failed;
    refused = sums.refused;
    most = sums.most;
    kept = kept;
    read_faults = raised sums.read_faults door.read_faults;
    write_faults = raised sums.write_faults door.write_faults;
  }

  -- the door was tried once, and no count of its faults fell
  pub record IsTried (before after : DoorState L) (port : ℕ) : Type 0 where
    pub tries : after.tries ≡ raised 1 before.tries
    pub port_is : after.port ≡ port
    pub listens : (after.listens ≡ before.listens) ⊎ (after.listens ≡ raised 1 before.listens)
    pub keeps : after.keeps ≡ before.keeps
    pub read_faults : HasRisenBy 0 before.read_faults after.read_faults
    pub write_faults : HasRisenBy 0 before.write_faults after.write_faults

  -- what is known of the door where no list is given
  abbrev pub LeavesDoor : DoorState L → DoorState L → (port links workers : ℕ) → ServeFault → Type 0
  -- it can't listen, and no more has changed
  LeavesDoor before after port links workers fault.Failed =
      HasRisen before.read_faults after.read_faults × (after ≡ record (after_try before port) { read_faults = after.read_faults })
  LeavesDoor before after port links workers fault.NoMemory = IsTried before after port
  -- all links that were given out were served
  LeavesDoor before after port links workers fault =
      (sums : Sums) × AllCameBack links sums × (after ≡ served_door before port links workers sums after.kept)

-- the fault where the door didn't listen, and where the hub gave no list
abbrev pub fault_of_listen : ListenFault → ServeFault
fault_of_listen listen.Failed = fault.Failed
fault_of_listen listen.NoMemory = fault.NoMemory

abbrev pub fault_of_close : CloseFault → ServeFault
fault_of_close (close.Split rift) = fault.Split rift
fault_of_close (close.Stray stray) = fault.Stray stray
fault_of_close close.NoMemory = fault.NoMemory
