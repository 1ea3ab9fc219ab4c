-- What a session asks, and what it is answered, as plain data.
use Rattle.std.specs.Prelude.{ℕ, List}
use Rattle.be_model.specs.declared.preds.Pred.{Pred}
use Rattle.be_model.specs.declared.changes.Row.{Row}
use Rattle.be_model.specs.declared.costs.Cost.{Cost}
use Rattle.be_model.specs.Matching.{Assignments}
use Rattle.be_change.specs.History.{Text, Entry}

-- why a line asks nothing
pub data Refusal : Type 0 where
  bad : Refusal
  long : Refusal
  unknown_attribute : Text → Refusal
  outside_domain : Text → Refusal
  given_twice : Text → Refusal
  too_many : ℕ → Refusal

-- what a line asks for
pub data Request : Type 0 where
  refused : Refusal → Request
  subscribe : Text → List Pred → Request
  unsubscribe : Text → Request
  publish : Assignments → Request
  -- the cost of a search for the event
  costing : Assignments → Request
  listing : Request
  -- a letter to the session of each live row that the event satisfies
  sending : Assignments → Request
  -- at most so many letters
  fetching : (max : ℕ) → Request
  -- all live rows
  dumping : Request
  -- at most so many changes, from this place on
  tailing : (place max : ℕ) → Request
  quit : Request

-- a letter, as its session reads it: the event, and the name of a row of the session that it satisfied after n changes
pub record Note : Type 0 where
  pub n : ℕ
  pub name : Text
  pub event : Assignments

abbrev pub note : ℕ → Text → Assignments → Note
note n name event = record { n = n; name = name; event = event }

-- what is answered: n and m are lengths of the list, id is the id of a row
pub data Reply : Type 0 where
  refusal : Refusal → Reply
  ok : (n : ℕ) → Reply
  held : (n : ℕ) → Reply
  bye : (n : ℕ) → Reply
  dup : (m id : ℕ) → Reply
  none : (m : ℕ) → Reply
  other : (m id : ℕ) → Reply
  hit : (n : ℕ) → List Text → Reply
  cost : (n : ℕ) → Cost → Reply
  listed : (n : ℕ) → List Text → Reply
  sent : (n put dropped : ℕ) → Reply
  notes : List Note → Reply
  dumped : (n : ℕ) → List Row → Reply
  tailed : (n place : ℕ) → List Entry → Reply
  split : (a b : ℕ) → Reply
  no_memory : Reply
  shut : Reply

-- a line's request, and its reply
abbrev pub Exchange : Type 0
Exchange = Request × Reply
