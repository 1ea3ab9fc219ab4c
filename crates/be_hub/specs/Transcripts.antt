-- What all files together were given, over one list of changes.
use Rattle.std.specs.Prelude.{◌≡◌, ℕ, ◌+◌, ◌<◌, ◌≤◌, ◌⊎◌, Bool, true, false, not, List, length, Some, slice_get}
use Rattle.std.specs.List.{list_all, list_any}
use Rattle.be_base.specs.Lists.{BeginsWith}
use Rattle.be_base.specs.declared.limits.TheConstants.{LINE_BYTES}
use Rattle.be_io.specs.Lines.{TextLine, lines}
use Rattle.be_model.specs.Schemas.{Attributes}
use Rattle.be_change.specs.History.{Entry, session_of, IsWellFormed}
use Rattle.be_change.specs.Requests.{Exchange}
use Rattle.be_protocol.specs.Runs.{HasNoQuit, EndsWithQuit}
use Rattle.be_protocol.specs.Transcript.{AreExchanges, texts}
use Rattle.be_session.specs.Tied.{is_shut, is_split}
use Rattle.be_hub.specs.Posted.{LetterBox, IsBoxOf}

-- these are all lines of the file, none of which is a QUIT, or those up to the first QUIT
abbrev pub AreServedLines : Attributes → List ℕ → List TextLine → Type 0
AreServedLines s file served =
    ((served ≡ lines LINE_BYTES true file) × HasNoQuit s served) ⊎ (BeginsWith (lines LINE_BYTES true file) served × EndsWithQuit s served)

-- some reply says that a reader was refused
abbrev pub says_shut : List Exchange → Bool
says_shut ps = list_any is_shut ps

-- where no session's read was refused, no reply says so
abbrev pub ShutsOnly : (shuts : Bool) → List Exchange → Type 0
ShutsOnly shuts ps = shuts ≡ false → says_shut ps ≡ false

-- the transcript of session k's file, legal over the list, of which the session was told z entries before: one reply a line, in
-- order, and no other byte
pub record IsTranscript (s : Attributes) (k z : ℕ) (h : List Entry) (shuts : Bool) (file transcript : List ℕ) : Type 0 where
  pub served : List TextLine
  pub read : AreServedLines s file served
  pub exchanges : List Exchange
  pub legal : AreExchanges s k z h served exchanges
  pub text : transcript ≡ texts s exchanges
  pub whole : list_all (λ (p : Exchange). not (is_split p)) exchanges ≡ true
  pub refused : ShutsOnly shuts exchanges

-- file i, from 1, was served as session i, over one well formed list that begins with the opening and has changes of these
-- sessions alone behind it. Where a session's read was refused its entry, the transcript of some file says so. Each session has a box
-- of letters, and its transcript says what was put and what was taken out
pub record AreServed (s : Attributes) (opening h : List Entry) (shuts : Bool) (files transcripts : List (List ℕ)) : Type 0 where
  pub formed : IsWellFormed h
  pub begins : BeginsWith h opening
  pub sessions : (place : ℕ) (e : Entry) → length opening ≤ place → slice_get h place ≡ Some e → (0 < session_of e) × (session_of e ≤ length files)
  pub count : length transcripts ≡ length files
  pub each : (i : ℕ) (file transcript : List ℕ) → slice_get files i ≡ Some file → slice_get transcripts i ≡ Some transcript
      → IsTranscript s (i + 1) (length opening) h shuts file transcript
  pub some_shut : shuts ≡ true
      → (i : ℕ) × (file : List ℕ) × (transcript : List ℕ) × (here : slice_get files i ≡ Some file) × (there : slice_get transcripts i ≡ Some transcript)
      × (says_shut (each i file transcript here there).exchanges ≡ true)
  -- one a session
  pub boxes : List LetterBox
  pub box_count : length boxes ≡ length files
  pub letters : (i : ℕ) (file transcript : List ℕ) (box : LetterBox) (here : slice_get files i ≡ Some file) (there : slice_get transcripts i ≡ Some transcript)
      → slice_get boxes i ≡ Some box → IsBoxOf h boxes (i + 1) (each i file transcript here there).exchanges box
