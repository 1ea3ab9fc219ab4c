-- The promise of a session over a board and a link: for each way in which it may end, what was read, what was written, which call
-- failed, and what every list of changes that keeps the board's word at return says of it.
use Rattle.std.specs.Prelude.{◌≡◌, ℕ, ◌≤◌, ◌++◌, ◌⊎◌, Bool, true, false, List, [], ◌∷◌, length, IfSome, is_some}
use Rattle.std.specs.List.{list_all}
use Rattle.be_base.specs.Lists.{BeginsWith}
use Rattle.be_io.specs.Lines.{TextLine}
use Rattle.be_io.specs.Outside.{LinkState}
use Rattle.be_model.specs.Schemas.{Attributes}
use Rattle.be_change.specs.Box.{KeepsBox}
use Rattle.be_change.specs.History.{Entry, left, is_opening, entries_of, IsWellFormed}
use Rattle.be_change.specs.Made.{made}
use Rattle.be_change.specs.Requests.{Note, Exchange}
use Rattle.be_protocol.specs.declared.ends.SessionEnd.{SessionEnd}
use Rattle.be_protocol.specs.Conversation.{Terms, ConversationEnds}
use Rattle.be_protocol.specs.Ends.{end_after, has_not_ended}
use Rattle.be_protocol.specs.Readings.{reading}
use Rattle.be_protocol.specs.Runs.{AreAlone}
use Rattle.be_protocol.specs.Transcript.{AreExchanges}
use Rattle.be_board.specs.State.{BoardState, HasGoneOn}
use Rattle.be_board.specs.Word.{Keeps}
use Rattle.be_session.specs.Given.{GivesLetters, GivesInPart}
use Rattle.be_session.specs.Bearing.{AddsOwn}
use Rattle.be_session.specs.Tied.{Tied, TiedFull, TiedPuts, TiedTends}

-- every list that keeps the word at return bears the exchanges out, as those of a session that was told of any of the
-- changes known at entry
abbrev pub AreBorneOut : Attributes → List TextLine → List Exchange → BoardState → BoardState → Type 0
AreBorneOut s lines ps b b' =
    (h : List Entry) (z : ℕ) → Keeps h b'.word → z ≤ length b.word.known
    → AreExchanges s b.word.session z h lines ps × TiedFull h ps b.counts b'.counts

-- told of all that was known at entry, the session has seen in the end no more than what is known at return
abbrev pub SeesWhatIsKnown : Attributes → List TextLine → List Exchange → BoardState → BoardState → Type 0
SeesWhatIsKnown s lines ps b b' =
    (h : List Entry) → Keeps h b'.word → (e : AreExchanges s b.word.session (length b.word.known) h lines ps) × (e.session.end.seen ≤ length b'.word.known)

-- nobody else changes the board's list, which is an opening so far, and its box is told
pub record BeginsAlone (b : BoardState) : Type 0 where
  pub alone : b.alone ≡ true
  pub told : is_some b.box ≡ true
  pub opening : list_all is_opening b.word.known ≡ true
  pub keeps : Keeps b.word.known b.word

-- without a reply that ended it the session's Bye is put last, or the list is as before
abbrev pub Leaves : (on : Bool) → ℕ → List Entry → List Entry → Type 0
Leaves false k before after = after ≡ before
Leaves true k before after = (after ≡ before) ⊎ (after ≡ before ++ left k (length (entries_of k before)) ∷ [])

-- the session ran alone: the exchanges are legal over the list that they made behind the opening, and that list was left
pub record RanOver (s : Attributes) (on : Bool) (lines : List TextLine) (ps : List Exchange) (b b' : BoardState) : Type 0 where
  pub formed : IsWellFormed (made b.word.known b.word.session ps)
  pub exchanges : AreExchanges s b.word.session (length b.word.known) (made b.word.known b.word.session ps) lines ps
  pub replies : AreAlone b.word.known b.word.session ps
  -- where the board tells its box
  pub boxed : IfSome b.box (λ box. (box' : List Note) × KeepsBox (made b.word.known b.word.session ps) ps box box')
  pub leaves : Leaves on b.word.session (made b.word.known b.word.session ps) b'.word.known

-- what the board's word and counts say of exchanges that were written whole, the last of which ended the session or none did
pub record Upheld (s : Attributes) (on : Bool) (lines : List TextLine) (ps : List Exchange) (b b' : BoardState) : Type 0 where
  pub borne : AreBorneOut s lines ps b b'
  pub seen : SeesWhatIsKnown s lines ps b b'
  pub tied : Tied on ps ps b.counts b'.counts
  pub puts : TiedPuts ps b b'
  pub tends : TiedTends ps b b'
  pub letters : GivesLetters b.box ps b b'
  pub alone : BeginsAlone b → RanOver s on lines ps b b'

-- the same where the output broke off at the last reply
pub record UpheldInPart (s : Attributes) (lines : List TextLine) (ps : List Exchange) (last : Exchange) (out : List ℕ) (b b' : BoardState) : Type 0 where
  pub borne : AreBorneOut s lines (ps ++ last ∷ []) b b'
  pub seen : SeesWhatIsKnown s lines (ps ++ last ∷ []) b b'
  pub tied : Tied (has_not_ended (end_after last.0 last.1)) (ps ++ last ∷ []) ps b.counts b'.counts
  pub puts : TiedPuts (ps ++ last ∷ []) b b'
  pub tends : TiedTends ps b b'
  pub letters : GivesInPart b.box s ps last out b b'
  pub alone : BeginsAlone b → RanOver s (has_not_ended (end_after last.0 last.1)) lines (ps ++ last ∷ []) b b'

abbrev pub session_terms : Attributes → BoardState → BoardState → Terms
session_terms s b b' = record {
  schema = s;
  asks = reading s;
  Whole = λ end lines ps. Upheld s (has_not_ended end) lines ps b b';
  InPart = λ lines ps last out. UpheldInPart s lines ps last out b b';
}

-- how a session may end. Untouched says that the link and the board are as they were
abbrev pub SessionEnds : Type 0 → Attributes → LinkState → LinkState → BoardState → BoardState → SessionEnd → Type 0
SessionEnds Untouched s before after b b' end = ConversationEnds Untouched (session_terms s b b') before after end

-- how the board went on: its list and its letters only grew, and what was accepted is the session's
pub record BoardLeft (b b' : BoardState) : Type 0 where
  pub goes : HasGoneOn b b'
  pub own : AddsOwn b.word b'.word
  pub notes : BeginsWith b'.word.notes b.word.notes
