-- Which bytes a session may be given for its lines.
use Rattle.std.specs.Prelude.{◌≡◌, ◌≢◌, ℕ, ◌<◌, ◌⊎◌, Bool, true, false, List, [], ◌∷◌, ◌++◌, length, map}
use Rattle.std.specs.List.{flat_map}
use Rattle.be_base.specs.Lists.{BeginsWith}
use Rattle.be_io.specs.Lines.{TextLine}
use Rattle.be_model.specs.Schemas.{Attributes}
use Rattle.be_change.specs.History.{Entry}
use Rattle.be_change.specs.Requests.{Request, Exchange}
use Rattle.be_change.specs.Walk.{IsLegalSession}
use Rattle.be_protocol.specs.Readings.{reading}
use Rattle.be_protocol.specs.Replies.{reply_text}

-- each line is answered, up to the one that ended the session
abbrev pub AnswersEach : Bool → List Request → List Request → Type 0
AnswersEach true asked answered = BeginsWith asked answered
AnswersEach false asked answered = answered ≡ asked

abbrev pub requests : List Exchange → List Request
requests ps = map (λ (p : Exchange). p.0) ps

-- the replies, one after another, and no other byte
abbrev pub texts : Attributes → List Exchange → List ℕ
texts s ps = flat_map (λ (p : Exchange). reply_text s p.1) ps

-- out is the text of these replies, but that the last one is cut short
pub record IsCutText (s : Attributes) (ps : List Exchange) (last : Exchange) (out : List ℕ) : Type 0 where
  pub missing : List ℕ
  pub some : 0 < length missing
  pub is_text : texts s (ps ++ last ∷ []) ≡ out ++ missing
  pub whole : BeginsWith out (texts s ps)

-- the output broke off: within the last reply, or with replies that it took and never handed on
abbrev pub OutputBroke : Attributes → List Exchange → Exchange → List ℕ → (kept_back : ℕ) → Type 0
OutputBroke s ps last out kept_back = IsCutText s ps last out ⊎ ((out ≡ texts s (ps ++ last ∷ [])) × (0 < kept_back))

-- these exchanges are session k's for its lines, over the list h, of which it was told z entries before. Session 0 is nobody
pub record AreExchanges (s : Attributes) (k z : ℕ) (h : List Entry) (ls : List TextLine) (ps : List Exchange) : Type 0 where
  pub somebody : k ≢ 0
  pub session : IsLegalSession s k z h ps
  pub each : AnswersEach session.end.ended (map (reading s) ls) (requests ps)
