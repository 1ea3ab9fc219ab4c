-- The turns of a conversation, from line to line.
use Rattle.std.specs.Prelude.{◌≡◌, ℕ, ◌+◌, ◌<◌, ◌≤◌, ◌++◌, ◌⊎◌, Bool, true, false, not, List, [], length, map, None, Some, Result, Ok, Err, Option}
use Rattle.std.specs.List.{list_all}
use Rattle.be_base.specs.declared.limits.TheConstants.{LINE_BYTES, SOURCE_BYTES}
use Rattle.be_base.specs.Counts.{HasRisen, RisesBy}
use Rattle.be_io.specs.Told.{WhereTold, HoldsMore}
use Rattle.be_io.specs.Lines.{TextLine, has_lf, lines, read_line}
use Rattle.be_io.specs.Outside.{LinkState}
use Rattle.be_io.specs.Reader.{ReaderState, NextLine, BreaksOff}
use Rattle.be_io.specs.Sink.{SinkState, Flushed}
use Rattle.be_io.specs.declared.faults.SinkFault.{SinkFault}
use Rattle.be_change.specs.Requests.{Request, Reply, Exchange}
use Rattle.be_protocol.specs.LinesRead.{read_ahead}
use Rattle.be_protocol.specs.Replies.{reply_text}
use Rattle.be_protocol.specs.Transcript.{requests, texts}
use Rattle.be_protocol.specs.declared.ends.SessionEnd.{SessionEnd}
use Rattle.be_protocol.specs.declared.ends.SessionEnd.TheVariants as ends
use Rattle.be_protocol.specs.declared.replier.Turn.{Turn}
use Rattle.be_protocol.specs.Conduct.{Conduct, Trace, RepliesSoFar, Refused, RepliedTo, GivesReply}
use Rattle.be_protocol.specs.Conversation.{RefusedOnce}
use Rattle.be_protocol.specs.Ends.{end_after, goes_on}

-- a conversation goes on over these
pub record TurnState (S : Type 0) : Type 0 where
  pub reader : ReaderState
  pub link : LinkState
  pub state : S

-- a reader that has met no fault, with the limit of a conversation
pub record IsReading (r : ReaderState) : Type 0 where
  pub limit : r.limit ≡ LINE_BYTES
  pub sound : r.stopped ≡ None

-- what the reader took since is what the source gave since
abbrev pub TakesAlike : (reader reader' source source' : ℕ) → Type 0
TakesAlike reader reader' source source' = (taken : ℕ) × (reader + taken ≡ reader') × RisesBy taken source source'

-- of all bytes that are left, the line is the first, and these are left after it; whether it was the last
abbrev pub IsFirstLine : TextLine → Bool → List ℕ → List ℕ → Type 0
IsFirstLine line ended before after =
    (bytes : List ℕ) × (line ≡ read_line LINE_BYTES ended bytes) × NextLine ended before bytes after

-- the next line was read
pub record TookLine {S : Type 0} (before after : TurnState S) (line : TextLine) : Type 0 where
  pub going : before.reader.ended ≡ false
  pub next : WhereTold before.link.source.left after.link.source.left
      (λ b a. IsFirstLine line after.reader.ended (before.reader.unread ++ b) (after.reader.unread ++ a))
  pub faults : after.link.source.faults ≡ before.link.source.faults
  pub reads : IsReading after.reader
  pub buffered : length after.reader.unread ≤ read_ahead

-- where the input is at its end, nothing is left
abbrev pub EndsAt : Bool → List ℕ → List ℕ → List ℕ → Type 0
EndsAt true unread b a = a ≡ b
EndsAt false unread b a = (unread ++ b ≡ []) × (a ≡ [])

-- the input is at its end
pub record TookEnd {S : Type 0} (before after : TurnState S) : Type 0 where
  pub next : WhereTold before.link.source.left after.link.source.left (λ b a. EndsAt before.reader.ended before.reader.unread b a)
  pub faults : after.link.source.faults ≡ before.link.source.faults
  pub none_ahead : has_lf before.reader.unread ≡ false

-- the input broke off, within a line or before one
pub record TookBreak {S : Type 0} (before after : TurnState S) : Type 0 where
  pub going : before.reader.ended ≡ false
  pub next : WhereTold before.link.source.left after.link.source.left (λ b a. BreaksOff (before.reader.unread ++ b) a)
  pub none_ahead : has_lf before.reader.unread ≡ false

-- nothing was answered
pub record IsSilent {S : Type 0} (before after : TurnState S) : Type 0 where
  pub sink : after.link.sink ≡ before.link.sink
  pub state : after.state ≡ before.state

-- what a turn did: a line was read and given an answer, or none was read and the conversation is over
abbrev pub Turned : {S : Type 0} → (Given : TextLine → Turn → Type 0) → TurnState S → TurnState S → Result Turn SessionEnd → Type 0
Turned {S} Given before after (Ok turn) = (line : TextLine) × TookLine before after line × Given line turn
Turned Given before after (Err ends.Eof) = TookEnd before after × IsSilent before after
Turned Given before after (Err ends.ReadFault) =
    TookBreak before after × IsSilent before after × HasRisen before.link.source.faults after.link.source.faults
Turned Given before after (Err ends.Spent) =
    TookBreak before after × IsSilent before after × (after.reader.taken ≡ SOURCE_BYTES) × (after.link.source.faults ≡ before.link.source.faults)
Turned Given before after (Err _) = ⊥

-- the line was answered, as far as the sink took the reply
abbrev pub Given : {S : Type 0} → Conduct S → TurnState S → TurnState S → TextLine → Turn → Type 0
Given m before after line turn = GivesReply m (m.asks line) before.state after.state before.link.sink after.link.sink turn.by turn.written

-- what was written is to be handed on: a reply ended the conversation, or the next read may wait, since no whole line was read
-- ahead
abbrev pub is_due : (ahead : Bool) → Option SessionEnd → Bool
is_due ahead None = not ahead
is_due ahead (Some end) = true

-- it was handed on, or the sink refused that, where it was due
abbrev pub HandsOn : (due : Bool) → SinkState → SinkState → Result (Unit {0}) SinkFault → Type 0
HandsOn true before after handed = Flushed before after handed
HandsOn false before after handed = (after ≡ before) × (handed ≡ Ok tt)

-- the same behind an answer
abbrev pub HandsOver : (due : Bool) → SinkState → SinkState → Result (Unit {0}) SinkFault → Result (Unit {0}) SinkFault → Type 0
HandsOver due before after (Ok _) handed = HandsOn due before after handed
HandsOver due before after (Err fault) handed = (after ≡ before) × (handed ≡ Err fault)

-- the output broke off at this text: a part is missing, or it was taken whole and something is kept back
pub record StopsAt (text : List ℕ) (fault : SinkFault) (out : List ℕ) (before after : SinkState) : Type 0 where
  pub written : HoldsMore before.held after.held out
  pub missing : List ℕ
  pub some : (0 < length missing) ⊎ ((missing ≡ []) × (0 < after.kept_back))
  pub is_text : text ≡ out ++ missing
  pub refused : Refused fault before after
  pub once : RefusedOnce before after

-- a request was given a reply, at which the output broke off
pub record BrokeOffAt {S : Type 0} (m : Conduct S) (r : Request) (by : Option SessionEnd) (fault : SinkFault) (a b : S) (before after : SinkState) : Type 0 where
  pub reply : Reply
  pub out : List ℕ
  pub replies : RepliesSoFar m (r, reply) out a b
  pub ends : end_after r reply ≡ by
  pub wrote : StopsAt (reply_text m.schema reply) fault out before after

-- a request was answered and what was written was handed on where that was due, or the output broke off
abbrev pub AnswersOn : {S : Type 0} → Conduct S → Request → (due : Bool) → S → S → SinkState → SinkState → Option SessionEnd → Result (Unit {0}) SinkFault → Type 0
AnswersOn m r due a b before after by (Ok _) = RepliedTo m r by a b before after × (due ≡ true → after.kept_back ≡ 0)
AnswersOn m r due a b before after by (Err fault) = BrokeOffAt m r by fault a b before after

abbrev pub GivenOn : {S : Type 0} → Conduct S → TurnState S → TurnState S → TextLine → Turn → Type 0
GivenOn m before after line turn =
    AnswersOn m (m.asks line) (is_due (has_lf after.reader.unread) turn.by) before.state after.state before.link.sink after.link.sink turn.by turn.written

-- a reader of a conversation's lines that has read nothing
abbrev pub new_reader : ReaderState
new_reader = record { limit = LINE_BYTES; unread = []; text = []; taken = 0; ended = false; stopped = None }

-- these lines are those of the bytes read so far, and the rest goes on where they end
abbrev pub LinesGoOn : Bool → List ℕ → List ℕ → List ℕ → List TextLine → Type 0
LinesGoOn true start unread rest done = (rest ≡ []) × (lines LINE_BYTES true start ≡ done)
LinesGoOn false start unread rest done =
    (front : List ℕ) × (start ≡ front ++ (unread ++ rest))
    × ((ended : Bool) (x : List ℕ) → lines LINE_BYTES ended (front ++ x) ≡ done ++ lines LINE_BYTES ended x)

-- these lines of the source were answered, and the conversation goes on
pub record IsGoingOn {S : Type 0} (m : Conduct S) (link : LinkState) (a : S) (now : TurnState S) : Type 0 where
  pub ps : List Exchange
  pub done : List TextLine
  pub trace : Trace m 0 ps a now.state
  pub asked : requests ps ≡ map m.asks done
  pub on : list_all goes_on ps ≡ true
  pub written : HoldsMore link.sink.held now.link.sink.held (texts m.schema ps)
  pub quiet : now.link.sink.faults ≡ link.sink.faults
  pub unrefused : now.link.sink.refusals ≡ link.sink.refusals
  pub handed : has_lf now.reader.unread ≡ false → now.link.sink.kept_back ≤ link.sink.kept_back
  pub sound : now.link.source.faults ≡ link.source.faults
  pub taken : RisesBy now.reader.taken link.source.taken now.link.source.taken
  pub reads : IsReading now.reader
  pub lines_read : WhereTold link.source.left now.link.source.left (λ b a. LinesGoOn now.reader.ended b now.reader.unread a done)
