-- What a line was read as, as plain data.
use Rattle.std.specs.Prelude.{◌≡◌, Bool, true, false, List, Option, Some, None, Result, Ok, Err}
use Rattle.be_base.specs.Tokens.{Lexeme}
use Rattle.be_base.specs.declared.names.NoMemory.{NoMemory}
use Rattle.be_change.specs.Requests as asked
use Rattle.be_model.specs.Lies.{conj_lies, event_lies}
use Rattle.be_model.specs.Matching.{Assignments}
use Rattle.be_model.specs.Schemas.{Attributes}
use Rattle.be_protocol.specs.Readings.{subscription_asked, removal_asked, of_event, fetch, tail, alone}
use Rattle.be_protocol.specs.declared.requests.Command.{Command}
use Rattle.be_protocol.specs.declared.requests.Command.TheVariants as command
use Rattle.be_protocol.specs.declared.requests.Refusal.{Refusal}
use Rattle.be_protocol.specs.declared.requests.Refusal.TheVariants.{Bad, Long, Attr, Dom, Twice, Many}
use Rattle.be_protocol.specs.declared.requests.EventCommand.{EventCommand}
use Rattle.be_protocol.specs.declared.requests.EventCommand.TheVariants as event
use Rattle.be_protocol.specs.declared.requests.Request.{Request}
use Rattle.be_protocol.specs.declared.requests.Request.TheVariants.{Subscribe, Unsubscribe, Publish, Costing, Listing, Sending, Fetching, Dumping, Tailing, Quit, Refused}

abbrev pub plain_refusal : Refusal → asked.Refusal
plain_refusal Bad = asked.bad
plain_refusal Long = asked.long
plain_refusal (Attr name) = asked.unknown_attribute name
plain_refusal (Dom name) = asked.outside_domain name
plain_refusal (Twice name) = asked.given_twice name
plain_refusal (Many count) = asked.too_many count

abbrev pub plain_request : Request → asked.Request
plain_request (Subscribe subscription) = asked.subscribe subscription.name subscription.conj
plain_request (Unsubscribe name) = asked.unsubscribe name
plain_request (Publish event) = asked.publish event
plain_request (Costing event) = asked.costing event
plain_request Listing = asked.listing
plain_request (Sending event) = asked.sending event
plain_request (Fetching max millis) = asked.fetching max
plain_request Dumping = asked.dumping
plain_request (Tailing place max millis) = asked.tailing place max
plain_request Quit = asked.quit
plain_request (Refused refusal) = asked.refused (plain_refusal refusal)

-- what is asked of an event
abbrev pub asks : EventCommand → Assignments → asked.Request
asks event.Publish = asked.publish
asks event.Cost = asked.costing
asks event.Send = asked.sending

-- what the words after a command ask for
abbrev pub asked_by : Command → Attributes → Option (List Lexeme) → asked.Request
asked_by command.Sub s ts = subscription_asked s ts
asked_by command.Unsub s ts = removal_asked ts
asked_by (command.OfEvent c) s ts = of_event (asks c) s ts
asked_by command.List s ts = alone asked.listing ts
asked_by command.Fetch s ts = fetch ts
asked_by command.Dump s ts = alone asked.dumping ts
asked_by command.Tail s ts = tail ts
asked_by command.Quit s ts = alone asked.quit ts

-- the same, where a word may be no command
abbrev pub asked_in : Option Command → Attributes → Option (List Lexeme) → asked.Request
asked_in None s ts = asked.refused asked.bad
asked_in (Some command) s ts = asked_by command s ts

-- what the request asks lies in the schema
abbrev pub request_lies : Attributes → Request → Bool
request_lies s (Subscribe subscription) = conj_lies s subscription.conj
request_lies s (Publish event) = event_lies s event
request_lies s (Costing event) = event_lies s event
request_lies s (Sending event) = event_lies s event
request_lies s (Unsubscribe name) = true
request_lies s Listing = true
request_lies s (Fetching max millis) = true
request_lies s Dumping = true
request_lies s (Tailing place max millis) = true
request_lies s Quit = true
request_lies s (Refused refusal) = true

-- the request names neither a condition nor an event
abbrev pub asks_nothing : Request → Bool
asks_nothing (Subscribe subscription) = false
asks_nothing (Publish event) = false
asks_nothing (Costing event) = false
asks_nothing (Sending event) = false
asks_nothing (Unsubscribe name) = true
asks_nothing Listing = true
asks_nothing (Fetching max millis) = true
asks_nothing Dumping = true
asks_nothing (Tailing place max millis) = true
asks_nothing Quit = true
asks_nothing (Refused refusal) = true

-- only a condition and an event take memory
abbrev pub TakesMemory : asked.Request → Type 0
TakesMemory (asked.subscribe name conj) = Unit {0}
TakesMemory (asked.publish event) = Unit {0}
TakesMemory (asked.costing event) = Unit {0}
TakesMemory (asked.sending event) = Unit {0}
TakesMemory _ = ⊥

abbrev pub Reads : Result Request NoMemory → asked.Request → Type 0
Reads (Ok request) r = r ≡ plain_request request
Reads (Err _) r = TakesMemory r

-- a fault as the refusal that it is, or want of memory, which is no fault of a text
abbrev pub Refuses : Result Refusal NoMemory → Type 0 → asked.Refusal → Type 0
Refuses (Ok refusal) WantsMemory r = (WantsMemory → ⊥) × (plain_refusal refusal ≡ r)
Refuses (Err _) WantsMemory r = WantsMemory
