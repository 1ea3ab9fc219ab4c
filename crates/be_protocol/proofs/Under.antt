-- A conversation that ended under some terms ended under others, where its exchanges fulfil those too.
use Rattle.std.proofs.Common.{◌≡◌, inl, inr, ℕ, List, [], ◌∷◌, ◌++◌, map, Option, Some, None}
use Rattle.be_io.specs.Lines.{TextLine}
use Rattle.be_io.specs.Outside.{LinkState}
use Rattle.be_io.specs.Sink.{SinkState}
use Rattle.be_change.specs.Requests.{Exchange}
use Rattle.be_protocol.specs.Conversation.{Terms, Replied, ReachedEnd, EndedByReply, BrokeOff, CutShort, ConversationEnds}
use Rattle.be_protocol.specs.Ends.{EndsBy}
use Rattle.be_protocol.specs.Transcript.{requests}
use Rattle.be_protocol.specs.declared.ends.SessionEnd.{SessionEnd}
use Rattle.be_protocol.specs.declared.ends.SessionEnd.TheVariants as ends

module _ (U V : Type 0) (t : Terms) (W : Option SessionEnd → List TextLine → List Exchange → Type 0) (I : List TextLine → List Exchange → Exchange → List ℕ → Type 0)
    (untouched : U → V) (whole : (end : Option SessionEnd) (lines : List TextLine) (ps : List Exchange) → requests ps ≡ map t.asks lines → EndsBy end ps → t.Whole end lines ps → W end lines ps)
    (part : (lines : List TextLine) (ps : List Exchange) (p : Exchange) (out : List ℕ) → requests (ps ++ p ∷ []) ≡ map t.asks lines → EndsBy None ps → t.InPart lines ps p out → I lines ps p out) where
  abbrev under : Terms
  under = record { schema = t.schema; asks = t.asks; Whole = W; InPart = I }

  replied : (lines : List TextLine) (end : Option SessionEnd) (before after : SinkState) → Replied t lines end before after → Replied under lines end before after
  replied lines end before after r = record { exchanges = r.exchanges; asked = r.asked; written = r.written; ends = r.ends; legal = whole end lines r.exchanges r.asked r.ends r.legal }

  reached : (before after : LinkState) → ReachedEnd t before after → ReachedEnd under before after
  reached before after e = record { lines = e.lines; read = e.read; reads = e.reads; writes = e.writes; replied = replied e.lines None before.sink after.sink e.replied }

  by_reply : (end : SessionEnd) (before after : LinkState) → EndedByReply t end before after → EndedByReply under end before after
  by_reply end before after e = record { lines = e.lines; read = e.read; reads = e.reads; writes = e.writes; replied = replied e.lines (Some end) before.sink after.sink e.replied }

  broke : (before after : LinkState) → BrokeOff t before after → BrokeOff under before after
  broke before after e = record { lines = e.lines; read = e.read; writes = e.writes; replied = replied e.lines None before.sink after.sink e.replied }

  cut : (before after : LinkState) → CutShort t before after → CutShort under before after
  cut before after e =
      let r = e.replied in
      record {
        lines = e.lines;
        read = e.read;
        reads = e.reads;
        once = e.once;
        replied = record { exchanges = r.exchanges; last = r.last; asked = r.asked; out = r.out; written = r.written; broke = r.broke; ends = r.ends; legal = part e.lines r.exchanges r.last r.out r.asked r.ends r.legal };
      }

  pub ends_under : (before after : LinkState) (end : SessionEnd) → ConversationEnds U t before after end → ConversationEnds V under before after end
  ends_under before after ends.Eof e = reached before after e
  ends_under before after ends.Quit e = by_reply ends.Quit before after e
  ends_under before after (ends.Split i j) e = by_reply (ends.Split i j) before after e
  ends_under before after ends.ReadFault e = (e.0, broke before after e.1)
  ends_under before after ends.Spent e = (e.0, e.1, broke before after e.2)
  ends_under before after ends.WriteFault e = (e.0, cut before after e.1)
  ends_under before after ends.NoMemory (inl u) = inl (untouched u)
  ends_under before after ends.NoMemory (inr e) = inr (e.0, cut before after e.1)

-- whatever follows from each way in which the exchanges may stand
pub ends_give : (U : Type 0) (t : Terms) (X : Type 0) (before after : LinkState) (end : SessionEnd) → (U → X) → ((by : Option SessionEnd) (lines : List TextLine) (ps : List Exchange) → EndsBy by ps → t.Whole by lines ps → X)
    → ((lines : List TextLine) (ps : List Exchange) (p : Exchange) (out : List ℕ) → EndsBy None ps → t.InPart lines ps p out → X) → ConversationEnds U t before after end → X
ends_give U t X before after ends.Eof u w p e = w None e.lines e.replied.exchanges e.replied.ends e.replied.legal
ends_give U t X before after ends.Quit u w p e = w (Some ends.Quit) e.lines e.replied.exchanges e.replied.ends e.replied.legal
ends_give U t X before after (ends.Split i j) u w p e = w (Some (ends.Split i j)) e.lines e.replied.exchanges e.replied.ends e.replied.legal
ends_give U t X before after ends.ReadFault u w p e = w None e.1.lines e.1.replied.exchanges e.1.replied.ends e.1.replied.legal
ends_give U t X before after ends.Spent u w p e = w None e.2.lines e.2.replied.exchanges e.2.replied.ends e.2.replied.legal
ends_give U t X before after ends.WriteFault u w p e = p e.1.lines e.1.replied.exchanges e.1.replied.last e.1.replied.out e.1.replied.ends e.1.replied.legal
ends_give U t X before after ends.NoMemory u w p (inl s) = u s
ends_give U t X before after ends.NoMemory u w p (inr e) = p e.1.lines e.1.replied.exchanges e.1.replied.last e.1.replied.out e.1.replied.ends e.1.replied.legal
