-- What the texts of a workload mean: its schema, and what its script asks for.
use Rattle.std.specs.Prelude.{◌≡◌, ℕ, pos, ◌+◌, ◌-◌, ◌≤◌, true, List, [], ◌∷◌, ◌++◌, length, map, All, Ok, codes, decimal}
use Rattle.be_base.specs.Text.{Text}
use Rattle.be_base.specs.declared.limits.TheConstants.{LINE_BYTES, GENERATED_SUBSCRIPTIONS}
use Rattle.be_io.specs.FileLines.{file_lines}
use Rattle.be_io.specs.Lines as line
use Rattle.be_io.specs.Lines.{lines}
use Rattle.be_model.specs.declared.preds.Pred.{Pred}
use Rattle.be_model.specs.declared.schemas.Attribute.{Attribute}
use Rattle.be_model.specs.declared.schemas.Domain.TheVariants.{Int}
use Rattle.be_model.specs.Forms.{IsEvent}
use Rattle.be_model.specs.Lies.{event_lies}
use Rattle.be_model.specs.Matching.{Assignments}
use Rattle.be_model.specs.Schemas.{Attributes, attribute_of}
use Rattle.be_change.specs.Requests.{Request, subscribe, publish, costing}
use Rattle.be_event.specs.SchemaTexts.{schema_of}
use Rattle.be_protocol.specs.Readings.{reading}
use Rattle.be_workload.specs.declared.drawing.TheConstants.{VALUES}
use Rattle.be_workload.specs.Workload.{schema_text, script_text}

-- numbers from 0 on, so many
abbrev pub attribute : Text → Attribute
attribute name = attribute_of name (Int (pos 0) (pos (VALUES - 1)))

abbrev pub schema : Attributes
schema =
    attribute (codes "a0")
    ∷ attribute (codes "a1")
    ∷ attribute (codes "a2")
    ∷ attribute (codes "a3")
    ∷ attribute (codes "a4")
    ∷ attribute (codes "a5")
    ∷ attribute (codes "a6")
    ∷ attribute (codes "a7")
    ∷ attribute (codes "a8")
    ∷ attribute (codes "a9")
    ∷ []

-- what the lines of a text ask for, in order
abbrev pub text_asks : Text → List Request
text_asks text = map (reading schema) (lines LINE_BYTES true text)

-- the same of each line, however long
abbrev pub asked_by_lines : Text → List Request
asked_by_lines text = map (λ l. reading schema (line.text l)) (file_lines text)

abbrev pub script_requests : ℕ → ℕ → ℕ → List Request
script_requests number subs events = text_asks (script_text number subs events)

-- the name of a subscription
abbrev pub name_of_sub : ℕ → Text
name_of_sub i = codes "s" ++ decimal i

-- a subscription to each of these conditions, where the first has this number
abbrev pub subscriptions_to : ℕ → List (List Pred) → List Request
subscriptions_to i [] = []
subscriptions_to i (conj ∷ conjs) = subscribe (name_of_sub i) conj ∷ subscriptions_to (i + 1) conjs

-- each event is published, and then its cost is asked for
abbrev pub publishing : List Assignments → List Request
publishing [] = []
publishing (e ∷ es) = publish e ∷ costing e ∷ publishing es

abbrev pub IsOfSchema : Assignments → Type 0
IsOfSchema e = IsEvent e × (event_lies schema e ≡ true)

-- no line is refused: so many subscriptions, each under a name of its own, and then two lines for each event
pub record AreRequests (subs event_count : ℕ) (requests : List Request) : Type 0 where
  pub conjs : List (List Pred)
  pub events : List Assignments
  pub each : requests ≡ subscriptions_to 0 conjs ++ publishing events
  pub conj_for_each : length conjs ≡ subs
  pub event_for_each : length events ≡ event_count
  pub of_schema : All IsOfSchema events

-- the texts of workloads are read so
pub record AreRead : Type 0 where
  pub schema_read : schema_of schema_text ≡ Ok schema
  pub scripts : (number subs events : ℕ) → subs ≤ GENERATED_SUBSCRIPTIONS → AreRequests subs events (script_requests number subs events)
  -- no line is over the limit
  pub short : (number subs events : ℕ) → subs ≤ GENERATED_SUBSCRIPTIONS → asked_by_lines (script_text number subs events) ≡ script_requests number subs events
