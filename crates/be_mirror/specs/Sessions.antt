-- What an answer to a line makes of a session's glass, and how a session of reads conducts itself.
use Rattle.std.specs.Prelude.{◌≡◌, ℕ, ◌≤◌, ◌⊎◌, false, List, length}
use Rattle.be_base.specs.Lists.{BeginsWith}
use Rattle.be_model.specs.Schemas.{Attributes}
use Rattle.be_change.specs.History.{Entry}
use Rattle.be_change.specs.Requests.{Request, Reply, hit, cost, listed, sent, dumped, tailed, bye, no_memory, shut, Exchange}
use Rattle.be_change.specs.Walk.{Walk}
use Rattle.be_published.specs.States.{GlassState, one_shut, one_read}
use Rattle.be_protocol.specs.Conduct.{Conduct}
use Rattle.be_protocol.specs.Replies.{reply_text}
use Rattle.be_protocol.specs.Runs.{is_quit}
use Rattle.be_mirror.specs.Asked.{mirror_reading}
use Rattle.be_mirror.specs.Legal.{MirrorAnswers}

-- a walk is led on by the exchange over the list, and has seen no more than is known then
pub record IsReadOn (s : Attributes) (h : List Entry) (w : Walk) (p : Exchange) (known : List Entry) : Type 0 where
  pub next : Walk
  pub answers : MirrorAnswers s h p.0 p.1 w next
  pub seen : next.seen ≤ length known
  pub ended : next.ended ≡ is_quit p.0

-- what is known only grows, and each list that goes on from it bears the exchange out
pub record ReadSteps (s : Attributes) (p : Exchange) (known known' : List Entry) : Type 0 where
  pub grows : BeginsWith known' known
  pub borne : (h : List Entry) (w : Walk) → BeginsWith h known' → w.seen ≤ length known → w.ended ≡ false → IsReadOn s h w p known'

-- a reply that tells what a read found was counted as one, and SHUT as an entry that was refused. Memory may be wanting before a
-- read or after it. A QUIT is told what a read found, or what was known before it was refused. No other reply leaves a mark
abbrev pub GlassCounts : Reply → GlassState → GlassState → Type 0
GlassCounts (hit n names) g g' = g' ≡ one_read g'.known g
GlassCounts (cost n c) g g' = g' ≡ one_read g'.known g
GlassCounts (listed n names) g g' = g' ≡ one_read g'.known g
GlassCounts (sent n put dropped) g g' = g' ≡ one_read g'.known g
GlassCounts (dumped n rows) g g' = g' ≡ one_read g'.known g
GlassCounts (tailed n place entries) g g' = g' ≡ one_read g'.known g
GlassCounts shut g g' = g' ≡ one_shut g
GlassCounts (bye n) g g' = (g' ≡ one_read g'.known g) ⊎ (g' ≡ one_shut g)
GlassCounts no_memory g g' = (g' ≡ g) ⊎ (g' ≡ one_read g'.known g)
GlassCounts _ g g' = g' ≡ g

-- the glass was asked what the exchange says
pub record ReadReplies (s : Attributes) (p : Exchange) (g g' : GlassState) : Type 0 where
  pub steps : ReadSteps s p g.known g'.known
  pub counts : GlassCounts p.1 g g'

-- this is the text of a reply to the request
abbrev pub SaysReply : Attributes → Request → List ℕ → GlassState → GlassState → Type 0
SaysReply s r text g g' = (reply : Reply) × ReadReplies s (r, reply) g g' × (text ≡ reply_text s reply)

-- a session of reads over its glass: each reply is one of a session that makes no change, however much of it was written, and
-- between two lines and at the end nothing happens
abbrev pub mirror_conduct : Attributes → Conduct GlassState
mirror_conduct s = record {
  schema = s;
  asks = mirror_reading s;
  Replies = λ p g g'. ReadReplies s p g g';
  RepliesInPart = λ p out g g'. ReadReplies s p g g';
  Tends = λ g g'. g' ≡ g;
  Leaves = λ g g'. g' ≡ g;
}
