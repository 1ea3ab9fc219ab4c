-- The promise of `heat`: what it prints behind the output of `drill`, how it may end, and what was then written.
use Rattle.std.specs.Prelude.{◌≡◌, ℕ, ◌+◌, ◌-◌, ◌++◌, Bool, List, [], ◌∷◌, length, Some, Result, codes, decimal, slice_get, slice_index}
use Rattle.std.specs.List.{flat_map, range_with_len}
use Rattle.be_base.specs.Text.{Text}
use Rattle.be_change.specs.History.{Entry}
use Rattle.be_change.specs.Opening.{opening_of}
use Rattle.be_change.specs.Requests.{Exchange}
use Rattle.be_demand.specs.Demand.{DemandState, demand}
use Rattle.be_hub.specs.Transcripts.{IsTranscript, AreServed}
use Rattle.be_io.specs.Sink.{SinkState}
use Rattle.be_io.specs.declared.faults.SinkFault.{SinkFault}
use Rattle.be_model.specs.declared.changes.Row.{Row}
use Rattle.be_model.specs.Schemas.{Attributes, numbered}
use Rattle.be_model.specs.Texts.{name_at}
use Rattle.be_protocol.specs.Replies.{number}
use Rattle.be_server.specs.declared.status.Status.{Status}
use Rattle.be_server.specs.Drill.{ToldFiles, Printing, SessionsEnd, FilesEnd, drill_text}
use Rattle.be_server.specs.Outside.{Passage}
use Rattle.be_server.specs.Output.{WroteOut}

-- the transcript is legal, and these are its exchanges
abbrev pub IsTranscriptOf : Attributes → ℕ → ℕ → List Entry → Bool → List ℕ → List ℕ → List Exchange → Type 0
IsTranscriptOf s k z h shuts file transcript ps = (t : IsTranscript s k z h shuts file transcript) × (t.exchanges ≡ ps)

-- the files were served, and the exchanges of each are these. That some reply is SHUT, and the letters, are said of the exchanges in
-- `served`, which have the same texts
pub record AreServedBy (s : Attributes) (opening h : List Entry) (shuts : Bool) (files transcripts : List (List ℕ)) (sessions : List (List Exchange)) : Type 0 where
  pub served : AreServed s opening h shuts files transcripts
  pub count : length sessions ≡ length files
  pub each : (i : ℕ) (file transcript : List ℕ) (ps : List Exchange) → slice_get files i ≡ Some file → slice_get transcripts i ≡ Some transcript → slice_get sessions i ≡ Some ps
      → IsTranscriptOf s (i + 1) (length opening) h shuts file transcript ps

-- an attribute's name, how many of the answered events assign it, and how many don't
abbrev pub asked_line : Attributes → DemandState → ℕ → Text
asked_line s d a = name_at s (numbered a) ++ number (slice_index d.asked a) ++ number (d.hits - slice_index d.asked a) ++ 10 ∷ []

abbrev pub asked_lines : Attributes → DemandState → Text
asked_lines s d = flat_map (asked_line s d) (range_with_len 0 (length s))

-- a line for each attribute in the schema's order, under the number of replies that are a HIT
abbrev pub demand_text : Attributes → DemandState → Text
demand_text s d = codes "== HEAT " ++ (decimal d.hits ++ (10 ∷ asked_lines s d))

abbrev pub heat_text : Attributes → List Text → List Entry → DemandState → Text
heat_text s transcripts h d = drill_text s transcripts h ++ demand_text s d

-- the sessions of the files were served as those of `drill`, and behind its output was printed what their exchanges, the very
-- ones that the transcripts are the texts of, count: whole, or a beginning of it all, or whole and not all handed on
pub record PrintedHeat (s : Attributes) (rows : List Row) (scripts : List Text) (shuts : Bool) (before after : SinkState) (result : Result (Unit {0}) SinkFault) : Type 0 where
  pub list : List Entry
  pub transcripts : List Text
  pub sessions : List (List Exchange)
  pub served : AreServedBy s (opening_of rows) list shuts scripts transcripts sessions
  pub written : WroteOut before after (heat_text s transcripts list (demand s sessions)) result

abbrev pub RunsHeat : Type 0 → Attributes → List Row → List Text → SinkState → SinkState → Status → Type 0
RunsHeat Kept s rows scripts before after status = SessionsEnd Kept (λ shuts result. PrintedHeat s rows scripts shuts before after result) status

module _ {L : Type 0} (p : Passage L) where
  abbrev pub prints_heat : Printing
  prints_heat s rows scripts shuts result = PrintedHeat s rows scripts shuts p.before.link.sink p.after.link.sink result

  -- how it may end
  abbrev pub HeatEnds : ToldFiles → Status → Type 0
  HeatEnds files status = FilesEnd p prints_heat files status
