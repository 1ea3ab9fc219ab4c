-- A seat as contracts see it, and what its type keeps.
use Rattle.std.specs.Prelude.{◌≡◌, ℕ, ◌+◌, ◌<◌, ◌≤◌, Bool, List, [], ◌∷◌, ◌++◌, length, map, All, AllPairs, Option, Some, None, slice_get}
use Rattle.std.specs.List.{list_any}
use Rattle.atomic_table.specs.Seated.{TableId}
use Rattle.be_change.specs.History.{Entry, session_of, is_leave_of}
use Rattle.be_mail.specs.Letters.{seat_of, letter_in}
use Rattle.be_mail.specs.Passes.{Passes, AllPut, new_passes}
use Rattle.be_board.specs.Word.{Word, own_of, own_in, top, IsDelivered}
use Rattle.be_published.specs.States.{GlassState, new_glass}
use Rattle.be_desk.specs.Numbers.{Numbers}

pub record SeatState : Type 0 where
  -- whose turn it is. A seat's sessions follow each other, each the number of seats above the last
  pub session : ℕ
  -- the record: each change that its sessions had accepted, with its place, in order
  pub own : List (ℕ × Entry)
  -- what its reader knows and counted
  pub glass : GlassState
  -- what it put into mailboxes and took out of its own
  pub passes : Passes
  -- how often the desk told it two numbers that differ, and the last ones
  pub splits : ℕ
  pub rift : Option Numbers

-- what the seat vouches for
abbrev pub word_of : SeatState → Word
word_of s = record { session = s.session; known = s.glass.known; own = s.own; notes = map letter_in s.passes.taken }

-- the session has left
abbrev pub is_over : SeatState → Bool
is_over s = list_any (λ (p : ℕ × Entry). is_leave_of s.session p.1) s.own

-- a seat at a new desk whose list is this one
abbrev pub new_seat : List Entry → ℕ → Passes → SeatState
new_seat opening session passes = record {
  session = session;
  own = [];
  glass = new_glass opening;
  passes = passes;
  splits = 0;
  rift = None;
}

-- the first session of the seat that has these passes
abbrev pub seat_for : List Entry → Passes → SeatState
seat_for h pass = new_seat h (pass.seat + 1) pass

-- the first session of the seat with this number, which has put and taken nothing
abbrev pub first_seat : List Entry → List TableId → ℕ → SeatState
first_seat opening boxes seat = seat_for opening (new_passes boxes seat)

-- the place with its entry, where there is one, before the others
abbrev pub put_placed : ℕ → Option Entry → List (ℕ × Entry) → List (ℕ × Entry)
put_placed place None rest = rest
put_placed place (Some e) rest = (place, e) ∷ rest

-- these places of the list, each with its entry
abbrev pub placed_at : List Entry → List ℕ → List (ℕ × Entry)
placed_at h [] = []
placed_at h (p ∷ ps) = put_placed p (slice_get h p) (placed_at h ps)

-- the list, where there is one
abbrev pub list_in : Option (List Entry) → List Entry
list_in None = []
list_in (Some h) = h

-- an accepted change is of one of the seat's sessions, up to the present one
pub record IsOfSeat (seats seat session : ℕ) (p : ℕ × Entry) : Type 0 where
  pub seat_is : seat_of seats (session_of p.1) ≡ seat
  pub somebody : 0 < session_of p.1
  pub present : session_of p.1 ≤ session

-- the record is kept as places in a beginning of the list that ends with the last of them
pub record IsRecord (made : List Entry) (places : List ℕ) : Type 0 where
  pub within : All (λ (p : ℕ). p < length made) places
  pub rising : AllPairs (λ (i j : ℕ). i < j) places
  pub last : length made ≡ top (placed_at made places)

-- what a caller may know of a seat
pub record IsKeptSeat (boxes : List TableId) (s : SeatState) : Type 0 where
  pub boxes_are : s.passes.boxes ≡ boxes
  pub somebody : 0 < s.session
  pub seat_is : seat_of (length boxes) s.session ≡ s.passes.seat
  pub own_all : All (IsOfSeat (length boxes) s.passes.seat s.session) s.own
  -- each letter that it put tells of a row that was live then
  pub delivered : AllPut (IsDelivered s.glass.known) s.passes

-- what a seat's type keeps
pub record IsSeat (boxes : List TableId) (serial : ℕ) (gone : Bool) (s : SeatState) : Type 0 where
  pub kept : IsKeptSeat boxes s
  pub serial_is : serial ≡ length (own_of s.session s.own)
  pub gone_is : gone ≡ is_over s
