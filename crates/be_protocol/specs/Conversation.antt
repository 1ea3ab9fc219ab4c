-- A conversation over a link: lines are read, and each has a reply. For each way in which it may end, what was read, what was
-- written and which call failed. What its exchanges fulfil beside that is a parameter.
use Rattle.std.specs.Prelude.{◌≡◌, ℕ, ◌≤◌, ◌++◌, ◌⊎◌, List, [], ◌∷◌, map, Option, Some, None}
use Rattle.be_base.specs.Counts.{HasRisen, HasRisenBy, RisesBy}
use Rattle.be_base.specs.declared.limits.TheConstants.{SOURCE_BYTES}
use Rattle.be_io.specs.Kept.{KeptByRead}
use Rattle.be_io.specs.Told.{HoldsMore}
use Rattle.be_io.specs.Lines.{TextLine}
use Rattle.be_io.specs.Outside.{LinkState}
use Rattle.be_io.specs.Sink.{SinkState}
use Rattle.be_model.specs.Schemas.{Attributes}
use Rattle.be_change.specs.Requests.{Request, Exchange}
use Rattle.be_protocol.specs.LinesRead.{ReadToEnd, ReadInPart, ReadFirstLines}
use Rattle.be_protocol.specs.Transcript.{requests, texts, OutputBroke}
use Rattle.be_protocol.specs.declared.ends.SessionEnd.{SessionEnd}
use Rattle.be_protocol.specs.declared.ends.SessionEnd.TheVariants.{Eof, Quit, ReadFault, WriteFault, Spent, Split, NoMemory}
use Rattle.be_protocol.specs.Ends.{EndsBy}

-- what a line asks, and what the exchanges of a conversation fulfil
pub record Terms : Type 1 where
  pub schema : Attributes
  pub asks : TextLine → Request
  -- these lines have these exchanges, and the last reply ended the conversation so, or none did
  pub Whole : Option SessionEnd → List TextLine → List Exchange → Type 0
  -- these lines have these exchanges and a last one, of whose reply a part may be missing behind all this output
  pub InPart : List TextLine → List Exchange → Exchange → List ℕ → Type 0

-- each of these lines was answered, one reply a line in order, and the last reply ended the conversation so, or none did
pub record Replied (t : Terms) (lines : List TextLine) (end : Option SessionEnd) (before after : SinkState) : Type 0 where
  pub exchanges : List Exchange
  pub asked : requests exchanges ≡ map t.asks lines
  -- what was written is these replies, and no other byte
  pub written : HoldsMore before.held after.held (texts t.schema exchanges)
  pub ends : EndsBy end exchanges
  pub legal : t.Whole end lines exchanges

-- each of these lines was answered, but that the output broke off at the reply to the last one
pub record RepliedInPart (t : Terms) (lines : List TextLine) (before after : SinkState) : Type 0 where
  pub exchanges : List Exchange
  pub last : Exchange
  pub asked : requests (exchanges ++ last ∷ []) ≡ map t.asks lines
  pub out : List ℕ
  pub written : HoldsMore before.held after.held out
  pub broke : OutputBroke t.schema exchanges last out after.kept_back
  pub ends : EndsBy None exchanges
  pub legal : t.InPart lines exchanges last out

-- no read failed
abbrev pub NoReadFailed : LinkState → LinkState → Type 0
NoReadFailed before after = after.source.faults ≡ before.source.faults

-- no write failed, none was refused for want of memory, and no more is kept back than before
pub record NoWriteFailed (before after : LinkState) : Type 0 where
  pub faults : after.sink.faults ≡ before.sink.faults
  pub refusals : after.sink.refusals ≡ before.sink.refusals
  pub handed : after.sink.kept_back ≤ before.sink.kept_back

-- of the counts of a sink's refusals one at least is as before
abbrev pub RefusedOnce : SinkState → SinkState → Type 0
RefusedOnce before after = (after.faults ≡ before.faults) ⊎ (after.refusals ≡ before.refusals)

-- the input was read to its end, and all its lines were answered
pub record ReachedEnd (t : Terms) (before after : LinkState) : Type 0 where
  pub lines : List TextLine
  pub read : ReadToEnd before.source.left after.source.left lines
  pub reads : NoReadFailed before after
  pub writes : NoWriteFailed before after
  pub replied : Replied t lines None before.sink after.sink

-- a reply ended the conversation so, and the lines up to its own were answered
pub record EndedByReply (t : Terms) (end : SessionEnd) (before after : LinkState) : Type 0 where
  pub lines : List TextLine
  pub read : ReadFirstLines before.source.left after.source.left lines
  pub reads : NoReadFailed before after
  pub writes : NoWriteFailed before after
  pub replied : Replied t lines (Some end) before.sink after.sink

-- the input broke off, and the whole lines that were read were answered
pub record BrokeOff (t : Terms) (before after : LinkState) : Type 0 where
  pub lines : List TextLine
  pub read : ReadInPart before.source.left after.source.left lines
  pub writes : NoWriteFailed before after
  pub replied : Replied t lines None before.sink after.sink

-- the output broke off at a reply, and no later line has one
pub record CutShort (t : Terms) (before after : LinkState) : Type 0 where
  pub lines : List TextLine
  pub read : ReadFirstLines before.source.left after.source.left lines
  pub reads : NoReadFailed before after
  -- a write or a flush failed, or memory was wanting to one, and not both
  pub once : RefusedOnce before.sink after.sink
  pub replied : RepliedInPart t lines before.sink after.sink

-- how a conversation may end. Untouched says that nothing was read, written or changed
abbrev pub ConversationEnds : Type 0 → Terms → LinkState → LinkState → SessionEnd → Type 0
ConversationEnds Untouched t before after Eof = ReachedEnd t before after
ConversationEnds Untouched t before after Quit = EndedByReply t Quit before after
ConversationEnds Untouched t before after (Split seen written) = EndedByReply t (Split seen written) before after
ConversationEnds Untouched t before after ReadFault = HasRisen before.source.faults after.source.faults × BrokeOff t before after
ConversationEnds Untouched t before after Spent =
    HasRisenBy SOURCE_BYTES before.source.taken after.source.taken × NoReadFailed before after × BrokeOff t before after
ConversationEnds Untouched t before after WriteFault = HasRisen before.sink.faults after.sink.faults × CutShort t before after
-- before the first line, or in the output
ConversationEnds Untouched t before after NoMemory = Untouched ⊎ (HasRisen before.sink.refusals after.sink.refusals × CutShort t before after)

-- the source gave no more than a conversation takes
abbrev pub TakesWithin : ℕ → ℕ → Type 0
TakesWithin before after = (taken : ℕ) × (taken ≤ SOURCE_BYTES) × RisesBy taken before after

-- all bytes that a link gives from first to last, and the borrowed objects behind it, are the same
pub record KeepsBeside (before after : KeptByRead) : Type 0 where
  pub whole : after.whole ≡ before.whole
  pub references : after.references ≡ before.references
