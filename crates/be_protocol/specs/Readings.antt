-- What a session's line asks for.
use Rattle.std.specs.Prelude.{ℕ, List, [], ◌∷◌, Option, Some, None, Result, Ok, Err, codes, nat_le, if◌then◌else◌}
use Rattle.be_base.specs.declared.limits.TheConstants.{ASKED, WAIT_MILLIS}
use Rattle.be_base.specs.Numbers.{count_of}
use Rattle.be_base.specs.Text.{Text, same_text, name_of}
use Rattle.be_base.specs.Tokens.{Lexeme, word, tokens}
use Rattle.be_base.specs.declared.names.NameFault.{NameFault}
use Rattle.be_io.specs.Lines as line
use Rattle.be_model.specs.declared.preds.Pred.{Pred}
use Rattle.be_model.specs.Matching.{Assignments}
use Rattle.be_model.specs.Schemas.{Attributes}
use Rattle.be_model.specs.Texts.{name_at}
use Rattle.be_change.specs.Requests.{Refusal, bad, long, unknown_attribute, outside_domain, given_twice, too_many, Request, refused, subscribe, unsubscribe, publish, costing, listing, sending, fetching, dumping, tailing, quit}
use Rattle.be_expr.specs.declared.faults.ExprFault.{ExprFault}
use Rattle.be_expr.specs.declared.faults.ExprFault.TheVariants as expr
use Rattle.be_expr.specs.Named.{named}
use Rattle.be_event.specs.declared.events.EventFault.{EventFault}
use Rattle.be_event.specs.declared.events.EventFault.TheVariants as event
use Rattle.be_event.specs.Events.{event_of}

-- a fault of a condition as a refusal. Want of memory is no fault of a text
abbrev pub expr_refusal : Attributes → ExprFault → Refusal
expr_refusal s expr.Bad = bad
expr_refusal s (expr.Attr name) = unknown_attribute name
expr_refusal s (expr.Dom a) = outside_domain (name_at s a)
expr_refusal s (expr.Many count) = too_many count
expr_refusal s expr.NoMemory = bad

-- a fault of an event as a refusal. Want of memory is no fault of a text
abbrev pub event_refusal : Attributes → EventFault → Refusal
event_refusal s event.Bad = bad
event_refusal s (event.Attr name) = unknown_attribute name
event_refusal s (event.Dom a) = outside_domain (name_at s a)
event_refusal s (event.Twice a) = given_twice (name_at s a)
event_refusal s (event.Many count) = too_many count
event_refusal s event.NoMemory = bad

abbrev pub subscribe_or_refused : Attributes → Result (Text × List Pred) ExprFault → Request
subscribe_or_refused s (Ok read) = subscribe read.0 read.1
subscribe_or_refused s (Err fault) = refused (expr_refusal s fault)

-- a name and a condition
abbrev pub subscription_asked : Attributes → Option (List Lexeme) → Request
subscription_asked s ts = subscribe_or_refused s (named s ts)

abbrev pub unsubscribe_or_refused : Result Text NameFault → Request
unsubscribe_or_refused (Ok name) = unsubscribe name
unsubscribe_or_refused (Err fault) = refused bad

-- a name alone
abbrev pub removal_asked : Option (List Lexeme) → Request
removal_asked (Some (word name ∷ [])) = unsubscribe_or_refused (name_of name)
removal_asked _ = refused bad

abbrev pub asking_of : (Assignments → Request) → Attributes → Result Assignments EventFault → Request
asking_of ask s (Ok e) = ask e
asking_of ask s (Err fault) = refused (event_refusal s fault)

-- an event
abbrev pub of_event : (Assignments → Request) → Attributes → Option (List Lexeme) → Request
of_event ask s ts = asking_of ask s (event_of s ts)

-- a number of letters or changes that a line may ask for
abbrev pub number_asked : Option ℕ → Option ℕ
number_asked None = None
number_asked (Some n) = if nat_le n ASKED then Some n else None

-- how many milliseconds a line may wait for its reply
abbrev pub millis_asked : Option ℕ → Option ℕ
millis_asked None = None
millis_asked (Some n) = if nat_le n WAIT_MILLIS then Some n else None

-- how many milliseconds a line may wait that ends with these words. One that ends with none doesn't wait
abbrev pub wait_in : List Lexeme → Option ℕ
wait_in [] = Some 0
wait_in (word millis ∷ []) = millis_asked (count_of millis)
wait_in _ = None

abbrev pub fetching_at_most : Option ℕ → Request
fetching_at_most (Some max) = fetching max
fetching_at_most None = refused bad

-- a line that may wait asks what the one that doesn't wait asks
abbrev pub within : Option ℕ → Request → Request
within (Some millis) r = r
within None r = refused bad

-- a number of letters, alone or before how long the line may wait
abbrev pub fetch : Option (List Lexeme) → Request
fetch (Some (word max ∷ ts)) = within (wait_in ts) (fetching_at_most (number_asked (count_of max)))
fetch _ = refused bad

abbrev pub tailing_at_most : Option ℕ → Option ℕ → Request
tailing_at_most (Some place) (Some max) = tailing place max
tailing_at_most _ _ = refused bad

-- a place and a number of changes, alone or before how long the line may wait
abbrev pub tail : Option (List Lexeme) → Request
tail (Some (word place ∷ word max ∷ ts)) = within (wait_in ts) (tailing_at_most (count_of place) (number_asked (count_of max)))
tail _ = refused bad

-- the command alone
abbrev pub alone : Request → Option (List Lexeme) → Request
alone r (Some []) = r
alone r _ = refused bad

-- a command's first word, and what the words after it ask for
pub record Command : Type 0 where
  pub name : Text
  pub asks : Attributes → Option (List Lexeme) → Request

abbrev pub command : Text → (Attributes → Option (List Lexeme) → Request) → Command
command name asks = record { name = name; asks = asks }

-- the commands of a session's lines
abbrev pub commands : List Command
commands =
    command (codes "SUB") subscription_asked
    ∷ command (codes "UNSUB") (λ s. removal_asked)
    ∷ command (codes "PUB") (of_event publish)
    ∷ command (codes "COST") (of_event costing)
    ∷ command (codes "LIST") (λ s. alone listing)
    ∷ command (codes "SEND") (of_event sending)
    ∷ command (codes "FETCH") (λ s. fetch)
    ∷ command (codes "DUMP") (λ s. alone dumping)
    ∷ command (codes "TAIL") (λ s. tail)
    ∷ command (codes "QUIT") (λ s. alone quit)
    ∷ []

-- what a command's words ask for. A word that is no command asks nothing
abbrev pub commanded_by : List Command → Attributes → Text → Option (List Lexeme) → Request
commanded_by [] s name ts = refused bad
commanded_by (c ∷ cs) s name ts = if same_text name c.name then c.asks s ts else commanded_by cs s name ts

abbrev pub commanded : Attributes → Text → Option (List Lexeme) → Request
commanded s name ts = commanded_by commands s name ts

abbrev pub request_of : Attributes → Option (List Lexeme) → Request
request_of s (Some (word name ∷ ts)) = commanded s name (Some ts)
request_of s _ = refused bad

-- what a line asks for, or why it asks nothing
abbrev pub reading : Attributes → line.TextLine → Request
reading s (line.text bytes) = request_of s (tokens bytes)
reading s (line.long n) = refused long
