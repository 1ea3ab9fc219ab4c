-- What a change makes of the desk and of the seat that asks for it, for each answer.
use Rattle.std.specs.Prelude.{◌≡◌, ◌≢◌, ℕ, ◌+◌, ◌<◌, ◌≤◌, ◌⊎◌, false, List, [], ◌∷◌, ◌++◌, length, Some}
use Rattle.be_base.specs.Counts.{raised}
use Rattle.be_base.specs.Lists.{BeginsWith}
use Rattle.be_change.specs.History.{Entry, live, stand, is_live_name, IsWellFormed}
use Rattle.be_change.specs.Made.{change_named}
use Rattle.be_change.specs.Requests.{Request, subscribe, unsubscribe}
use Rattle.be_change.specs.Walk.{HasNameAt, HasNameOfAnotherAt}
use Rattle.be_board.specs.declared.answers.Answer.{Answer}
use Rattle.be_board.specs.declared.answers.Answer.TheVariants.{Done, Held, Dup, NoName, Other, Split, NoMemory}
use Rattle.be_board.specs.Word.{own_in, top}
use Rattle.be_published.specs.States.{knowing}
use Rattle.be_desk.specs.Desks.{DeskState, MayBeFreed}
use Rattle.be_desk.specs.Numbers.{numbers}
use Rattle.be_desk.specs.declared.patience.TheConstants.{WORK_A_CHANGE}
use Rattle.be_desk.specs.Seats.{SeatState, word_of}

-- how many changes the present session had accepted
abbrev pub serial_in : SeatState → ℕ
serial_in s = length (own_in (word_of s))

-- all of the list is published, the seat knows it, has no change behind it, and stands where its session stands in it
pub record Agrees (d : DeskState) (s : SeatState) : Type 0 where
  pub published : d.published ≡ d.list
  pub known : s.glass.known ≡ d.list
  pub within : top s.own ≤ length d.list
  pub stands : stand s.session d.list ≡ serial_in s

-- the two numbers that differ, the first that do: what the seat knows is longer than what is published; its last change
-- lies behind that; or its session stands elsewhere in the list than by its record
abbrev pub IsRift : DeskState → SeatState → ℕ → ℕ → Type 0
IsRift d s a b =
    ((a ≡ length s.glass.known) × (b ≡ length d.published) × (b < a))
    ⊎ ((length s.glass.known ≤ length d.published) × (a ≡ top s.own) × (b ≡ length d.published) × (b < a))
    ⊎ ((length s.glass.known ≤ length d.published) × (top s.own ≤ length d.published) × (a ≡ serial_in s) × (b ≡ stand s.session d.list) × (a ≢ b))

-- neither the list nor the record has grown
pub record Stays (d d' : DeskState) (s s' : SeatState) : Type 0 where
  pub list : d'.list ≡ d.list
  pub own : s'.own ≡ s.own

-- the change that was asked for was put last in the list and in the record, and nothing else was
pub record Grew (d d' : DeskState) (s s' : SeatState) (r : Request) (n : ℕ) : Type 0 where
  pub entry : Entry
  pub named : change_named s.session (serial_in s) (length d.list) r ≡ entry ∷ []
  pub list : d'.list ≡ d.list ++ entry ∷ []
  pub own : s'.own ≡ s.own ++ (length d.list, entry) ∷ []
  pub count : n ≡ length d'.list
  -- the desk and the seat agreed before
  pub known : BeginsWith d.list s.glass.known
  pub within : top s.own ≤ length d.list
  pub stood : stand s.session d.list ≡ serial_in s

-- the entry was put last in the list and in the record
pub record Puts (d d' : DeskState) (s s' : SeatState) (e : Entry) (n : ℕ) : Type 0 where
  pub list : d'.list ≡ d.list ++ e ∷ []
  pub own : s'.own ≡ s.own ++ (length d.list, e) ∷ []
  pub count : n ≡ length d'.list

-- why nothing was put, where the desk and the seat agree
abbrev pub IsRefusal : List Entry → ℕ → Request → Answer → Type 0
IsRefusal h k (subscribe name conj) (Dup m id) = (m ≡ length h) × HasNameAt (live h) id name
IsRefusal h k (unsubscribe name) (NoName m) = (m ≡ length h) × (is_live_name name (live h) ≡ false)
IsRefusal h k (unsubscribe name) (Other m id) = (m ≡ length h) × HasNameOfAnotherAt k (live h) id name
IsRefusal h k r answer = ⊥

abbrev pub Changed : DeskState → DeskState → SeatState → SeatState → Request → Answer → Type 0
-- published, and the seat knows it
Changed d d' s s' r (Done n) = Grew d d' s s' r n × (d'.published ≡ d'.list) × (s'.glass.known ≡ d'.list)
-- all but the change is published, and the seat knows that
Changed d d' s s' r (Held n) = Grew d d' s s' r n × (d'.published ≡ d.list) × (s'.glass.known ≡ d.list)
Changed d d' s s' r (Split a b) = Stays d d' s s' × (d'.published ≡ d'.list) × IsRift d' s' a b
-- nothing was done, but that a held change may have been published
Changed d d' s s' r NoMemory = Stays d d' s s' × MayBeFreed d d'
Changed d d' s s' r answer = Stays d d' s s' × Agrees d' s' × IsRefusal d'.list s.session r answer

-- the entry was put last in the list and in the record, and published, or is held; or there was no memory for it
abbrev pub Took : DeskState → DeskState → SeatState → SeatState → Entry → Answer → Type 0
Took d d' s s' e (Done n) = Puts d d' s s' e n × (d'.published ≡ d'.list) × (s'.glass.known ≡ d'.list)
Took d d' s s' e (Held n) = Puts d d' s s' e n × (d'.published ≡ d.list) × (s'.glass.known ≡ d.list)
Took d d' s s' e NoMemory = Stays d d' s s' × (d' ≡ d)
Took d d' s s' e answer = ⊥

-- no step was planned or put, and those that were pending are published, where it went so far
pub record LeavesSteps (d d' : DeskState) (answer : Answer) : Type 0 where
  pub glass : d'.glass ≡ d.glass
  pub steps : d'.steps ≡ d.steps
  pub reshaped : answer ≢ NoMemory → d'.reshaped ≡ d.steps

-- a change that was accepted earned its part of a look for a step
abbrev pub Earns : DeskState → DeskState → Answer → Type 0
Earns d d' (Done n) = d'.patience ≡ raised WORK_A_CHANGE d.patience
Earns d d' (Held n) = d'.patience ≡ raised WORK_A_CHANGE d.patience
Earns d d' answer = d'.patience ≡ d.patience

-- the desk told the seat two numbers that differ, and the seat counted it
abbrev pub Counts : SeatState → SeatState → Answer → Type 0
Counts s s' (Split a b) = (s'.splits ≡ raised 1 s.splits) × (s'.rift ≡ Some (numbers a b))
Counts s s' answer = (s'.splits ≡ s.splits) × (s'.rift ≡ s.rift)

-- the seat goes on: its list only grew, and its session, its passes and what its reader counted are as before
pub record Continues (s s' : SeatState) : Type 0 where
  pub session : s'.session ≡ s.session
  pub passes : s'.passes ≡ s.passes
  pub known : BeginsWith s'.glass.known s.glass.known
  pub glass : s'.glass ≡ knowing s'.glass.known s.glass
