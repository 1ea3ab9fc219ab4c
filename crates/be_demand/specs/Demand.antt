-- What the events that were answered ask for.
use Rattle.std.specs.Prelude.{◌≡◌, ℕ, ◌&&◌, Bool, true, false, List, [], ◌∷◌, length, map, sum_by}
use Rattle.std.specs.List.{count_by, range_with_len}
use Rattle.be_base.specs.Lists.{BeginsWith}
use Rattle.be_base.specs.declared.limits.TheConstants.{LINE_BYTES}
use Rattle.be_io.specs.Lines.{lines}
use Rattle.be_model.specs.Matching.{is_assigned}
use Rattle.be_model.specs.Schemas.{Attributes, numbered}
use Rattle.be_change.specs.Requests.{Request, refused, publish, Reply, refusal, Exchange}
use Rattle.be_protocol.specs.Readings.{reading}
use Rattle.be_protocol.specs.Transcript.{requests, texts}
use Rattle.be_demand.specs.Texts.{is_hit, HasLines}

abbrev pub is_answered : Exchange → Bool
is_answered p = is_hit p.1

-- the request is a PUB whose event assigns the attribute. An attribute with a set of several values is assigned once
abbrev pub assigns : ℕ → Request → Bool
assigns a (publish e) = is_assigned e (numbered a)
assigns a _ = false

-- a PUB that was answered HIT, whose event assigns the attribute
abbrev pub asks_for : ℕ → Exchange → Bool
asks_for a p = is_answered p && assigns a p.0

-- how many replies are a HIT
abbrev pub hit_replies : List Exchange → ℕ
hit_replies ps = count_by is_answered ps

-- how many of the events that were answered HIT assign the attribute
abbrev pub hits_assigning : ℕ → List Exchange → ℕ
hits_assigning a ps = count_by (asks_for a) ps

-- the same over several sessions: the number of HITs, and for each attribute the number of their events that assign it
pub record DemandState : Type 0 where
  pub hits : ℕ
  pub asked : List ℕ

abbrev pub demand_state : ℕ → List ℕ → DemandState
demand_state hits asked = record { hits = hits; asked = asked }

abbrev pub demand : Attributes → List (List Exchange) → DemandState
demand s sessions = demand_state (sum_by hit_replies sessions) (map (λ a. sum_by (hits_assigning a) sessions) (range_with_len 0 (length s)))

-- the reply is the refusal that the request is, or no line of it has an LF within
abbrev pub IsFit : Attributes → Request → Reply → Type 0
IsFit s r (refusal t) = r ≡ refused t
IsFit s r reply = HasLines s reply

abbrev pub AreFit : Attributes → List Exchange → Type 0
AreFit s [] = Unit {0}
AreFit s (p ∷ ps) = IsFit s p.0 p.1 × AreFit s ps

-- the exchanges are those of the first lines of a file, and the transcript is their texts
pub record IsOver (s : Attributes) (file transcript : List ℕ) (ps : List Exchange) : Type 0 where
  pub lines : BeginsWith (map (reading s) (lines LINE_BYTES true file)) (requests ps)
  pub text : transcript ≡ texts s ps
  pub fit : AreFit s ps

-- the same of each file with its transcript
abbrev pub AreOver : Attributes → List (List ℕ) → List (List ℕ) → List (List Exchange) → Type 0
AreOver s [] [] [] = Unit {0}
AreOver s (file ∷ files) (transcript ∷ transcripts) (ps ∷ sessions) = IsOver s file transcript ps × AreOver s files transcripts sessions
AreOver s _ _ _ = ⊥
