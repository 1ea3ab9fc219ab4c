-- What a line says as a value, and a change at a place of a list.
use Rattle.std.specs.Prelude.{◌≡◌, ℕ, Bool, true, List, Option, Some, None, option_map, find, Result, Ok, Err, IfSome}
use Rattle.std.specs.List.{list_all}
use Rattle.be_base.specs.declared.names.NoMemory.{NoMemory}
use Rattle.be_model.specs.ByIds.{ByIds}
use Rattle.be_model.specs.Entries.{Entry, entry_of}
use Rattle.be_model.specs.Lies.{entry_lies}
use Rattle.be_model.specs.Schemas.{Attributes}
use Rattle.be_model.specs.declared.changes.Row.{Row}
use Rattle.be_change.specs.History.{Text, has_name, is_opening, IsWellFormed}
use Rattle.be_follow.specs.Stands.{AreStands}
use Rattle.be_follow.specs.declared.stands.Stands.{Stands}
use Rattle.be_follow.specs.declared.faults.FeedKind.{FeedKind}
use Rattle.be_follow.specs.declared.saying.Said.{Said}
use Rattle.be_follow.specs.declared.saying.Said.TheVariants.{Nothing, At, Faulty}
use Rattle.be_follow.specs.Feeds.{PlainSaid, nothing, at, faulty, said, Judges}

-- whose the first row of this name is
abbrev pub owner_of : Text → ByIds → Option ℕ
owner_of name m = option_map (λ (r : ℕ × Row). r.1.session.0) (find (has_name name) m)

abbrev pub plain_said : Said → PlainSaid
plain_said Nothing = nothing
plain_said (At place change) = at place (entry_of change)
plain_said Faulty = faulty

-- only a change takes memory
abbrev pub TakesMemory : PlainSaid → Type 0
TakesMemory (at i e) = Unit {0}
TakesMemory nothing = ⊥
TakesMemory faulty = ⊥

-- what was read is what the line says
abbrev pub Reads : Result Said NoMemory → PlainSaid → Type 0
Reads (Ok said) meant = meant ≡ plain_said said
Reads (Err _) meant = TakesMemory meant

-- a change that was read lies in the schema
abbrev pub SaidLies : Attributes → Said → Type 0
SaidLies s (At place change) = entry_lies s (entry_of change) ≡ true
SaidLies s Nothing = Unit {0}
SaidLies s Faulty = Unit {0}

-- the list after a line, or its fault
abbrev pub list_or_fault : List Entry → Option FeedKind → Result (List Entry) FeedKind
list_or_fault h None = Ok h
list_or_fault h (Some kind) = Err kind

-- a list that follows a leader's, whether it is an opening so far, and where its sessions stand
pub record IsFollowed (h : List Entry) (opening : Bool) (stands : Stands) : Type 0 where
  pub formed : IsWellFormed h
  pub opens : opening ≡ list_all is_opening h
  pub stand : AreStands stands h

-- a line of these bytes was accepted, and left this list, or it has this fault, which leaves the list
abbrev pub Accepts : Attributes → List Entry → List ℕ → List Entry → Option FeedKind → Type 0
Accepts s h line after fault = Judges h (said s line) (list_or_fault after fault) × IfSome fault (λ kind. after ≡ h)
