-- What answers the lines of a conversation: what a line asks of it, what each of its calls makes of its state, and what a whole
-- conversation makes of it.
use Rattle.std.specs.Prelude.{◌≡◌, ℕ, ◌+◌, ◌<◌, ◌%◌, ◌==◌, ◌++◌, ◌⊎◌, ◌&&◌, Bool, true, false, List, [], ◌∷◌, length, Option, Result, Ok, Err}
use Rattle.be_base.specs.Counts.{HasRisen}
use Rattle.be_io.specs.Lines.{TextLine}
use Rattle.be_io.specs.Told.{HoldsMore}
use Rattle.be_io.specs.Sink.{SinkState}
use Rattle.be_io.specs.declared.faults.SinkFault.{SinkFault}
use Rattle.be_io.specs.declared.faults.SinkFault.TheVariants.{Failed, NoMemory}
use Rattle.be_model.specs.Schemas.{Attributes}
use Rattle.be_change.specs.Requests.{Request, Reply, Exchange}
use Rattle.be_protocol.specs.Replies.{reply_text}
use Rattle.be_protocol.specs.Transcript.{texts}
use Rattle.be_protocol.specs.declared.ends.SessionEnd.{SessionEnd}
use Rattle.be_protocol.specs.Conversation.{Terms, RefusedOnce}
use Rattle.be_protocol.specs.Ends.{end_after, has_not_ended, goes_on}
use Rattle.be_protocol.specs.declared.conversing.TheConstants.{REPLIES_TENDED}

-- what answers lines, over its state
pub record Conduct (S : Type 0) : Type 1 where
  pub schema : Attributes
  -- what a line asks
  pub asks : TextLine → Request
  -- a request was given this reply, and its text is written whole
  pub Replies : Exchange → S → S → Type 0
  -- a request was given this reply, of which only these bytes were written
  pub RepliesInPart : Exchange → List ℕ → S → S → Type 0
  -- it was tended, between two lines
  pub Tends : S → S → Type 0
  -- no reply ended the conversation, and it has left
  pub Leaves : S → S → Type 0

-- what no call changes in something that answers lines
pub record KeptByReplier : Type 0 where
  pub schema : Attributes
  -- the objects that it borrows to change them
  pub references : List ℕ

-- of n replies the last one is a sixteenth
abbrev pub is_sixteenth : ℕ → Bool
is_sixteenth n = n % REPLIES_TENDED == 0

-- where it is due it was tended, and else nothing happened
abbrev pub TendsIf : {S : Type 0} → Conduct S → (due : Bool) → S → S → Type 0
TendsIf m true a b = m.Tends a b
TendsIf m false a b = b ≡ a

-- these exchanges, one after another, lead from the one state to the other, behind n others of the conversation. It was tended behind
-- each sixteenth reply that didn't end the conversation, and never else
abbrev pub Trace : {S : Type 0} → Conduct S → (n : ℕ) → List Exchange → S → S → Type 0
Trace m n [] a b = b ≡ a
Trace {S} m n (p ∷ ps) a d =
    (b c : S) × m.Replies p a b × TendsIf m (goes_on p && is_sixteenth (n + 1)) b c × Trace m (n + 1) ps c d

-- this much was written of the reply: all of its text, or a part
abbrev pub RepliesSoFar : {S : Type 0} → Conduct S → Exchange → List ℕ → S → S → Type 0
RepliesSoFar m p part a b = (m.Replies p a b × (part ≡ reply_text m.schema p.1)) ⊎ m.RepliesInPart p part a b

-- where no reply ended the conversation it has left
abbrev pub LeavesIf : {S : Type 0} → Conduct S → (on : Bool) → S → S → Type 0
LeavesIf m true a b = m.Leaves a b
LeavesIf m false a b = b ≡ a

-- these exchanges, and the end, lead from the one state to the other
pub record Led {S : Type 0} (m : Conduct S) (on : Bool) (ps : List Exchange) (a d : S) : Type 0 where
  pub last : S
  pub trace : Trace m 0 ps a last
  pub left : LeavesIf m on last d

-- the same where the output broke off at the last reply
pub record LedInPart {S : Type 0} (m : Conduct S) (ps : List Exchange) (p : Exchange) (out : List ℕ) (a d : S) : Type 0 where
  pub before : S
  pub trace : Trace m 0 ps a before
  pub part : List ℕ
  pub is_out : out ≡ texts m.schema ps ++ part
  pub last : S
  pub replies : RepliesSoFar m p part before last
  pub left : LeavesIf m (has_not_ended (end_after p.0 p.1)) last d

-- the exchanges of a conversation lead from the one state to the other
abbrev pub leading : {S : Type 0} → Conduct S → S → S → Terms
leading m a d = record {
  schema = m.schema;
  asks = m.asks;
  Whole = λ end lines ps. Led m (has_not_ended end) ps a d;
  InPart = λ lines ps p out. LedInPart m ps p out a d;
}

-- the sink refused a call, and counted it
abbrev pub Refused : SinkFault → SinkState → SinkState → Type 0
Refused Failed before after = HasRisen before.faults after.faults
Refused NoMemory before after = HasRisen before.refusals after.refusals

-- this part of the text was written, before the sink refused more
pub record WroteInPart (text : List ℕ) (fault : SinkFault) (out : List ℕ) (before after : SinkState) : Type 0 where
  pub written : HoldsMore before.held after.held out
  pub missing : List ℕ
  pub some : 0 < length missing
  pub is_text : text ≡ out ++ missing
  pub refused : Refused fault before after
  pub once : RefusedOnce before after

-- a request was given a reply, which was written whole, and ends the conversation so or doesn't
pub record RepliedTo {S : Type 0} (m : Conduct S) (r : Request) (by : Option SessionEnd) (a b : S) (before after : SinkState) : Type 0 where
  pub reply : Reply
  pub replies : m.Replies (r, reply) a b
  pub ends : end_after r reply ≡ by
  pub written : HoldsMore before.held after.held (reply_text m.schema reply)
  pub faults : after.faults ≡ before.faults
  pub refusals : after.refusals ≡ before.refusals

-- a request was given a reply, which was written in part, and would end the conversation so or not
pub record RepliedInPartTo {S : Type 0} (m : Conduct S) (r : Request) (by : Option SessionEnd) (fault : SinkFault) (a b : S) (before after : SinkState) : Type 0 where
  pub reply : Reply
  pub out : List ℕ
  pub replies : m.RepliesInPart (r, reply) out a b
  pub ends : end_after r reply ≡ by
  pub wrote : WroteInPart (reply_text m.schema reply) fault out before after

-- a request was answered, as far as the sink took it
abbrev pub GivesReply : {S : Type 0} → Conduct S → Request → S → S → SinkState → SinkState → Option SessionEnd → Result (Unit {0}) SinkFault → Type 0
GivesReply m r a b before after by (Ok _) = RepliedTo m r by a b before after
GivesReply m r a b before after by (Err fault) = RepliedInPartTo m r by fault a b before after
