-- What the close gives, and why it gives none.
use Rattle.std.specs.Prelude.{◌≡◌, ℕ, ◌<◌, List, length, map, All, Any}
use Rattle.atomic_table.specs.Seated.{TableId}
use Rattle.be_base.specs.Lists.{BeginsWith}
use Rattle.be_change.specs.History.{Entry, IsWellFormed}
use Rattle.be_mail.specs.Letters.{seat_of}
use Rattle.be_mail.specs.Mailbox.{BoxId, Mailbox}
use Rattle.be_mail.specs.Passes.{AreOfSeat}
use Rattle.be_mail.specs.Settled.{AreKept, TakenWerePut}
use Rattle.be_board.specs.Word.{Keeps}
use Rattle.be_model.specs.Schemas.{Attributes}
use Rattle.be_desk.specs.Numbers.{Numbers, numbers}
use Rattle.be_desk.specs.Rifts.{numbers_of}
use Rattle.be_desk.specs.Seats.{SeatState, word_of, IsKeptSeat}
use Rattle.be_desk.specs.Closing.{IsStray}
use Rattle.be_desk.specs.Desks.{IsOpened}
use Rattle.be_hub.specs.declared.close.CloseFault.{CloseFault}
use Rattle.be_hub.specs.declared.close.CloseFault.TheVariants.{Split, Stray, NoMemory}

-- for each session that the seat may have, the list keeps its word
abbrev pub KeepsAll : List TableId → List Entry → SeatState → Type 0
KeepsAll boxes h s = (k : ℕ) → 0 < k → seat_of (length boxes) k ≡ s.passes.seat → Keeps h (record (word_of s) { session = k })

-- what the mail shows of the letters of all seats: of what a seat put into a mailbox, the letters that were taken out and then those
-- that are left there are, in order, all, each once; and a seat took no letter that none put into its mailbox. Each seat has a list for
-- each mailbox
pub record AreInOrder (schema : Attributes) (found : BoxId → Mailbox → Type 0) (boxes : List TableId) (seats : List SeatState) : Type 0 where
  pub form : All AreOfSeat (map (λ (s : SeatState). s.passes) seats)
  pub kept : AreKept schema (length boxes) found boxes (map (λ (s : SeatState). s.passes) seats)
  pub taken : TakenWerePut (map (λ (s : SeatState). s.passes) seats)

-- the seat's reader, shown what is published, knows no more than that
pub record IsShown (boxes : List TableId) (published : List Entry) (s : SeatState) : Type 0 where
  pub kept : IsKeptSeat boxes s
  pub known : BeginsWith published s.glass.known

-- the seat's reader, shown what is published, knows more than that, and these are the two lengths
pub record IsAhead (published : List Entry) (r : Numbers) (s : SeatState) : Type 0 where
  pub known : List Entry
  pub more : BeginsWith known s.glass.known
  pub told : BeginsWith known published
  pub longer : length published < length known
  pub numbers_are : r ≡ numbers (length known) (length published)

-- a seat knows more than what is published, or memory is wanting
abbrev pub IsLate : List Entry → List SeatState → CloseFault → Type 0
IsLate published seats (Split rift) = Any (IsAhead published (numbers_of rift)) seats
IsLate published seats (Stray stray) = ⊥
IsLate published seats NoMemory = Unit {0}

-- why no list is given. Want of memory says nothing
abbrev pub IsFault : List TableId → List Entry → List Entry → List SeatState → CloseFault → Type 0
IsFault boxes published h seats (Split rift) = Any (IsAhead published (numbers_of rift)) seats
IsFault boxes published h seats (Stray stray) = All (IsShown boxes published) seats × IsStray h seats stray
IsFault boxes published h seats NoMemory = Unit {0}

-- it is so of the desk's list, which begins with its opening, and what of it is published
pub record IsRefused (opening : List Entry) (boxes : List TableId) (seats : List SeatState) (fault : CloseFault) : Type 0 where
  pub published : List Entry
  pub list : List Entry
  pub formed : IsWellFormed list
  pub opened : IsOpened opening list
  pub begins : BeginsWith list published
  pub why : IsFault boxes published list seats fault
