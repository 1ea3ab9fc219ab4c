-- What a mirror's session says over a list of changes, from its first line to its last, and how its conversation may end.
use Rattle.std.specs.Prelude.{◌≡◌, ℕ, ◌≤◌, ◌++◌, false, List, [], ◌∷◌, length, filter, map}
use Rattle.be_base.specs.Counts.{HasRisenBy}
use Rattle.be_base.specs.Lists.{BeginsWith}
use Rattle.be_io.specs.Lines.{TextLine}
use Rattle.be_io.specs.Outside.{LinkState}
use Rattle.be_model.specs.Schemas.{Attributes}
use Rattle.be_change.specs.History.{Entry}
use Rattle.be_change.specs.Requests.{Exchange}
use Rattle.be_change.specs.Walk.{Walk, beginning_at}
use Rattle.be_published.specs.States.{GlassState}
use Rattle.be_protocol.specs.declared.ends.SessionEnd.{SessionEnd}
use Rattle.be_protocol.specs.declared.ends.SessionEnd.TheVariants.{Split}
use Rattle.be_protocol.specs.Conversation.{Terms, ConversationEnds}
use Rattle.be_protocol.specs.Transcript.{AnswersEach, requests}
use Rattle.be_session.specs.Tied.{is_read, is_shut}
use Rattle.be_mirror.specs.Asked.{mirror_reading}
use Rattle.be_mirror.specs.Legal.{MirrorAnswers}

-- each request is answered in turn, until the session ends
abbrev pub AreAnswered : Attributes → List Entry → List Exchange → Walk → Walk → Type 0
AreAnswered s h [] w w' = w' ≡ w
AreAnswered s h (p ∷ ps) w w' = (w.ended ≡ false) × (next : Walk) × MirrorAnswers s h p.0 p.1 w next × AreAnswered s h ps next w'

-- these exchanges are those of a session that makes no change, for its lines, over the list h, of which it was shown z entries
-- before
pub record AreReads (s : Attributes) (z : ℕ) (h : List Entry) (ls : List TextLine) (ps : List Exchange) : Type 0 where
  pub end : Walk
  pub answered : AreAnswered s h ps (beginning_at z) end
  pub each : AnswersEach end.ended (map (mirror_reading s) ls) (requests ps)

-- every list that goes on from what is known at return bears the exchanges out, as those of a session that was shown any of the
-- changes known at entry
abbrev pub ReadsAreBorneOut : Attributes → List TextLine → List Exchange → List Entry → List Entry → Type 0
ReadsAreBorneOut s lines ps known known' = (h : List Entry) (z : ℕ) → BeginsWith h known' → z ≤ length known → AreReads s z h lines ps

-- no more of these replies tell of a read, or of an entry that was refused, than the glass counted
pub record AreTied (ps : List Exchange) (g g' : GlassState) : Type 0 where
  pub reads : HasRisenBy (length (filter is_read ps)) g.reads g'.reads
  pub shuts : HasRisenBy (length (filter is_shut ps)) g.shuts g'.shuts

-- what a conversation's exchanges made of the glass
pub record Showed (s : Attributes) (lines : List TextLine) (ps : List Exchange) (g g' : GlassState) : Type 0 where
  pub grows : BeginsWith g'.known g.known
  pub borne : ReadsAreBorneOut s lines ps g.known g'.known
  pub tied : AreTied ps g g'

abbrev pub mirror_terms : Attributes → GlassState → GlassState → Terms
mirror_terms s g g' = record {
  schema = s;
  asks = mirror_reading s;
  Whole = λ end lines ps. Showed s lines ps g g';
  InPart = λ lines ps p out. Showed s lines (ps ++ p ∷ []) g g';
}

-- how a session of a mirror may end. Untouched says that the link and the glass are as they were. No reply tells two numbers that
-- differ
abbrev pub MirrorSessionEnds : Type 0 → Attributes → LinkState → LinkState → GlassState → GlassState → SessionEnd → Type 0
MirrorSessionEnds Untouched s before after g g' (Split seen written) = ⊥
MirrorSessionEnds Untouched s before after g g' end = ConversationEnds Untouched (mirror_terms s g g') before after end
