-- What a line asks of a follower, and the reply that is due.
use Rattle.std.specs.Prelude.{◌≡◌, ◌⊎◌, ◌||◌, Bool, true, List, [], ◌∷◌, length, Option, Some, Result, Ok, Err, codes}
use Rattle.be_base.specs.Text.{Text, same_text}
use Rattle.be_base.specs.Tokens.{Lexeme, word, tokens}
use Rattle.be_base.specs.declared.names.NoMemory.{NoMemory}
use Rattle.be_io.specs.Lines as line
use Rattle.be_model.specs.Lies.{event_lies}
use Rattle.be_model.specs.Schemas.{Attributes}
use Rattle.be_change.specs.History.{Entry, hits}
use Rattle.be_change.specs.Requests.{Request, refused, publish, quit, bad, long, Reply, refusal, hit, bye, no_memory}
use Rattle.be_protocol.specs.Readings.{Command, command, commanded_by, of_event, alone}
use Rattle.be_protocol.specs.Requests.{plain_refusal, TakesMemory}
use Rattle.be_follow.specs.declared.asking.Ask.{Ask}
use Rattle.be_follow.specs.declared.asking.Ask.TheVariants.{Publish, Quit, Refused}

-- the commands of a follower's lines
abbrev pub follower_commands : List Command
follower_commands = command (codes "PUB") (of_event publish) ∷ command (codes "QUIT") (λ s. alone quit) ∷ []

-- every other line asks nothing, whatever else is wrong with it
abbrev pub asked_of : Attributes → Option (List Lexeme) → Request
asked_of s (Some (word name ∷ ts)) = commanded_by follower_commands s name (Some ts)
asked_of s _ = refused bad

-- what a line asks for, or why it asks nothing
abbrev pub asked_of_follower : Attributes → line.TextLine → Request
asked_of_follower s (line.text bytes) = asked_of s (tokens bytes)
asked_of_follower s (line.long n) = refused long

-- the reply that a request is due over a list. Memory may be wanting to a PUB
abbrev pub IsDue : List Entry → Request → Reply → Type 0
IsDue h (publish e) reply = (reply ≡ hit (length h) (hits h e)) ⊎ (reply ≡ no_memory)
IsDue h quit reply = reply ≡ bye (length h)
IsDue h (refused r) reply = reply ≡ refusal r
IsDue h _ reply = ⊥

-- a word that is one of the commands
abbrev pub is_command : Text → Bool
is_command name = same_text name (codes "PUB") || same_text name (codes "QUIT")

-- the requests that a follower answers, and nothing for the others
abbrev pub answered : Request → Request
answered (publish e) = publish e
answered quit = quit
answered (refused r) = refused r
answered _ = refused bad

abbrev pub plain_ask : Ask → Request
plain_ask (Publish event) = publish event
plain_ask Quit = quit
plain_ask (Refused r) = refused (plain_refusal r)

-- its event lies in the schema
abbrev pub ask_lies : Attributes → Ask → Bool
ask_lies s (Publish event) = event_lies s event
ask_lies s Quit = true
ask_lies s (Refused r) = true

abbrev pub ReadsAsk : Result Ask NoMemory → Request → Type 0
ReadsAsk (Ok ask) r = r ≡ plain_ask ask
ReadsAsk (Err _) r = TakesMemory r
