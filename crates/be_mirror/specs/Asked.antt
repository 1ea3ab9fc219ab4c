-- What a line asks of a mirror.
use Rattle.std.specs.Prelude.{◌≡◌, ◌||◌, Bool, true, List, [], ◌∷◌, Option, Some, Result, Ok, Err, codes}
use Rattle.be_base.specs.Text.{Text, same_text}
use Rattle.be_base.specs.Tokens.{Lexeme, word, tokens}
use Rattle.be_base.specs.declared.names.NoMemory.{NoMemory}
use Rattle.be_io.specs.Lines as line
use Rattle.be_model.specs.Lies.{event_lies}
use Rattle.be_model.specs.Schemas.{Attributes}
use Rattle.be_change.specs.Requests.{Request, refused, publish, costing, dumping, tailing, quit, bad, long}
use Rattle.be_protocol.specs.Readings.{Command, command, commanded_by, of_event, tail, alone}
use Rattle.be_protocol.specs.Requests.{plain_refusal, TakesMemory}
use Rattle.be_mirror.specs.declared.asking.Ask.{Ask}
use Rattle.be_mirror.specs.declared.asking.Ask.TheVariants.{Publish, Costing, Dumping, Tailing, Quit, Refused}

-- the commands of a mirror's lines
abbrev pub mirror_commands : List Command
mirror_commands =
    command (codes "PUB") (of_event publish)
    ∷ command (codes "COST") (of_event costing)
    ∷ command (codes "DUMP") (λ s. alone dumping)
    ∷ command (codes "TAIL") (λ s. tail)
    ∷ command (codes "QUIT") (λ s. alone quit)
    ∷ []

-- every other line asks nothing, whatever else is wrong with it
abbrev pub mirror_request_of : Attributes → Option (List Lexeme) → Request
mirror_request_of s (Some (word name ∷ ts)) = commanded_by mirror_commands s name (Some ts)
mirror_request_of s _ = refused bad

-- what a line asks for, or why it asks nothing
abbrev pub mirror_reading : Attributes → line.TextLine → Request
mirror_reading s (line.text bytes) = mirror_request_of s (tokens bytes)
mirror_reading s (line.long n) = refused long

-- a word that is one of the commands
abbrev pub is_mirror_command : Text → Bool
is_mirror_command name =
    same_text name (codes "PUB") || same_text name (codes "COST") || same_text name (codes "DUMP") || same_text name (codes "TAIL") || same_text name (codes "QUIT")

-- the requests that a mirror answers, and nothing for the others
abbrev pub mirror_answered : Request → Request
mirror_answered (publish e) = publish e
mirror_answered (costing e) = costing e
mirror_answered dumping = dumping
mirror_answered (tailing place max) = tailing place max
mirror_answered quit = quit
mirror_answered (refused r) = refused r
mirror_answered _ = refused bad

abbrev pub plain_mirror_ask : Ask → Request
plain_mirror_ask (Publish event) = publish event
plain_mirror_ask (Costing event) = costing event
plain_mirror_ask Dumping = dumping
plain_mirror_ask (Tailing place max) = tailing place max
plain_mirror_ask Quit = quit
plain_mirror_ask (Refused r) = refused (plain_refusal r)

-- its event lies in the schema
abbrev pub mirror_ask_lies : Attributes → Ask → Bool
mirror_ask_lies s (Publish event) = event_lies s event
mirror_ask_lies s (Costing event) = event_lies s event
mirror_ask_lies s Dumping = true
mirror_ask_lies s (Tailing place max) = true
mirror_ask_lies s Quit = true
mirror_ask_lies s (Refused r) = true

abbrev pub ReadsMirrorAsk : Result Ask NoMemory → Request → Type 0
ReadsMirrorAsk (Ok ask) r = r ≡ plain_mirror_ask ask
ReadsMirrorAsk (Err _) r = TakesMemory r
