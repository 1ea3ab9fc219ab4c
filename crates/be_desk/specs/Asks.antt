-- What is asked of the desk, as the request of a session.
use Rattle.std.specs.Prelude.{Bool, true}
use Rattle.be_model.specs.Lies.{conj_lies}
use Rattle.be_model.specs.Schemas.{Attributes}
use Rattle.be_change.specs.Requests.{Request, subscribe, unsubscribe, quit}
use Rattle.be_desk.specs.declared.ask.Ask.{Ask}
use Rattle.be_desk.specs.declared.ask.Ask.TheVariants.{Subscribe, Unsubscribe, Leave}

abbrev pub request_of : Ask → Request
request_of (Subscribe name conj) = subscribe name conj
request_of (Unsubscribe name) = unsubscribe name
request_of Leave = quit

-- its condition lies in the schema, where it has one
abbrev pub ask_lies : Attributes → Ask → Bool
ask_lies s (Subscribe name conj) = conj_lies s conj
ask_lies s (Unsubscribe name) = true
ask_lies s Leave = true
