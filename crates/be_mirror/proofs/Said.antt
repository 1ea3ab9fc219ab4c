-- A reply of a session of reads that was written.
use Rattle.std.proofs.Common.{◌≡◌, ℕ, true, false, List, Option, None, Result, Ok, Err, OnOk, IfErr, refl, sym, ap, ◌∙◌, arith}
use Rattle.be_base.specs.declared.names.NoRead.{NoRead}
use Rattle.be_base.proofs.Beginnings.{BeginsWith-same}
use Rattle.be_io.specs.Sink.{SinkState}
use Rattle.be_model.specs.Schemas.{Attributes}
use Rattle.be_change.specs.History.{Entry}
use Rattle.be_change.specs.Requests.{Request, subscribe, unsubscribe, quit, Reply, split}
use Rattle.be_change.specs.Walk.{Walk, beginning_at}
use Rattle.be_published.specs.States.{GlassState}
use Rattle.be_protocol.specs.Conduct.{GivesReply}
use Rattle.be_protocol.specs.Ends.{end_after}
use Rattle.be_protocol.specs.Replies.{reply_text}
use Rattle.be_protocol.specs.Runs.{is_quit}
use Rattle.be_protocol.specs.Short.{plain_reply, short_of}
use Rattle.be_protocol.specs.declared.ends.SessionEnd.{SessionEnd}
use Rattle.be_protocol.specs.declared.replier.Turn.{Turn}
use Rattle.be_protocol.proofs.Written.{gives_reply}
use Rattle.be_session.specs.Saying.{SaysText, Says}
use Rattle.be_mirror.specs.Sessions.{IsReadOn, ReadSteps, ReadReplies, SaysReply, mirror_conduct}

-- no reply of a mirror tells two numbers that differ
pub no_split : (s : Attributes) (r : Request) (i j : ℕ) (known known' : List Entry) → ReadSteps s (r, split i j) known known' → ⊥
no_split s r i j known known' steps = by r (steps.borne known' (beginning_at 0) (BeginsWith-same known') (omega arith) refl)
  where
    differs : (next : Walk) → next.ended ≡ true → next.ended ≡ false → ⊥
    differs next is on = let f : true ≡ false = sym is ∙ on in absurd cc

    by : (r : Request) → IsReadOn s known' (beginning_at 0) (r, split i j) known' → ⊥
    by (subscribe name conj) led = differs led.next (ap (λ (w : Walk). w.ended) led.answers.1) led.ended
    by (unsubscribe name) led = differs led.next (ap (λ (w : Walk). w.ended) led.answers.1) led.ended
    by quit led = absurd led.answers
    by _ led = absurd led.answers

-- a session goes on behind each reply but a QUIT's
pub goes_on_then : (s : Attributes) (r : Request) (reply : Reply) (g g' : GlassState) → is_quit r ≡ false → ReadReplies s (r, reply) g g' → end_after r reply ≡ None
goes_on_then s r (split i j) g g' on q = absurd (no_split s r i j g.known g'.known q.steps)
goes_on_then s quit reply g g' on q = absurd cc
goes_on_then s _ _ g g' on q = refl

-- a reply, as its text was written
pub says_text : (s : Attributes) (r : Request) (t : Reply) (g g' : GlassState) (before after : SinkState) (by : Option SessionEnd) (bytes : List ℕ) (turn : Turn) → end_after r t ≡ by → ReadReplies s (r, t) g g'
    → bytes ≡ reply_text s t → SaysText by bytes before after turn → GivesReply (mirror_conduct s) r g g' before after turn.by turn.written
says_text s r t g g' before after by bytes turn is q same said =
    gives_reply (mirror_conduct s) r t turn.by g g' before after bytes turn.written q (λ out. q) (is ∙ sym said.0) same said.1

-- a reply of one line
pub says_short : (s : Attributes) (r : Request) (t : Reply) (g g' : GlassState) (before after : SinkState) (turn : Turn) → is_quit r ≡ false → ReadReplies s (r, t) g g' → Says None t before after turn
    → GivesReply (mirror_conduct s) r g g' before after turn.by turn.written
says_short s r t g g' before after turn on q said = says_text s r t g g' before after None (reply_text s t) turn (goes_on_then s r t g g' on q) q refl (said s)

-- a reply that was built, or why there is none
pub says_built : (s : Attributes) (r : Request) (built : Result (Unit {0}) NoRead) (bytes : List ℕ) (g g' : GlassState) (before after : SinkState) (turn : Turn) → is_quit r ≡ false
    → OnOk built (SaysReply s r bytes g g') → IfErr built (λ no. ReadReplies s (r, plain_reply (short_of no)) g g')
    → OnOk built (SaysText None bytes before after turn) → IfErr built (λ no. Says None (plain_reply (short_of no)) before after turn) → GivesReply (mirror_conduct s) r g g' before after turn.by turn.written
says_built s r (Ok u) bytes g g' before after turn on told denied said short =
    says_text s r told.0 g g' before after None bytes turn (goes_on_then s r told.0 g g' on told.1) told.1 told.2 said
says_built s r (Err why) bytes g g' before after turn on told denied said short = says_short s r (plain_reply (short_of why)) g g' before after turn on denied short
