-- The rule of one mailbox, over what it holds and what each pass shows. Each seat's puts are shown by one pass, and one pass takes.
use Rattle.std.specs.Prelude.{◌≡◌, ℕ, zero, suc, ◌<◌, ◌≤◌, ◌==◌, ◌&&◌, ◌||◌, not, Bool, true, false, List, [], ◌∷◌, ◌++◌, take, drop, length, All, if◌then◌else◌}
use mathlib.Core.Option.{some}
use lib.ListN.{get_elem?}
use Rattle.atomic_table.specs.Seated.{TableId}
use Rattle.be_base.specs.declared.limits.TheConstants.{BOX_LETTERS}
use Rattle.be_model.specs.Schemas.{Attributes}
use Rattle.be_model.specs.Letters.{PlainLetter}
use Rattle.be_mail.specs.Letters.{Posting, IsFor, letters_from}
use Rattle.be_mail.specs.Mailbox.{BoxId, box_id, Mailbox, ForEachState}

-- a seat, and what it put into the mailbox
abbrev pub SeatPuts : Type 0
SeatPuts = ℕ × List PlainLetter

-- what a pass shows: which mailbox it is, what each of the pass's seats put there, whether the pass takes, and what was taken then
pub record HandState : Type 0 where
  pub at : BoxId
  pub puts : List SeatPuts
  pub takes : Bool
  pub taken : List Posting

abbrev pub hand : BoxId → List SeatPuts → Bool → List Posting → HandState
hand at puts takes taken = record { at = at; puts = puts; takes = takes; taken = taken }

-- the mailbox of a rule that begins, which has no name yet
abbrev pub no_queue : TableId
no_queue = record { words = 0; slots = 0; views_name = 0; atom = 0; block = 0; offset = 0; slot_names = [] }

abbrev pub no_box : BoxId
no_box = box_id no_queue 0

-- a pass that has no seat
abbrev pub idle : HandState
idle = hand no_box [] false []

-- n seats from `low` on, which put nothing
abbrev pub no_puts : ℕ → ℕ → List SeatPuts
no_puts low zero = []
no_puts low (suc n) = (low, []) ∷ no_puts (suc low) n

-- the pass of a new mailbox, which has all seats
abbrev pub first_hand : ℕ → HandState
first_hand seats = hand no_box (no_puts 0 seats) true []

-- the mailbox is this one
abbrev pub named : BoxId → HandState → HandState
named mailbox v = hand mailbox v.puts v.takes v.taken

abbrev pub is_first : ℕ → List SeatPuts → Bool
is_first seat [] = false
is_first seat (e ∷ es) = e.0 == seat

-- the pass of the first seat, which takes where the mailbox is its own
abbrev pub one_seat : HandState → HandState
one_seat v = hand v.at (take 1 v.puts) (v.takes && is_first v.at.seat v.puts) v.taken

abbrev pub later_seats : HandState → HandState
later_seats v = hand v.at (drop 1 v.puts) (v.takes && not (is_first v.at.seat v.puts)) v.taken

-- two passes in one
abbrev pub both : HandState → HandState → HandState
both v w = hand v.at (v.puts ++ w.puts) (v.takes || w.takes) (if w.takes then w.taken else v.taken)

abbrev pub put_first : List SeatPuts → PlainLetter → List SeatPuts
put_first [] letter = []
put_first (e ∷ es) letter = (e.0, e.1 ++ letter ∷ []) ∷ es

abbrev pub with_put : HandState → Posting → HandState
with_put v x = hand v.at (put_first v.puts x.letter) v.takes v.taken

abbrev pub with_taken : HandState → Posting → HandState
with_taken v x = hand v.at v.puts v.takes (v.taken ++ x ∷ [])

-- which mailbox it is, which pass shows each seat's puts, which pass takes, and what was taken
pub record BoxState : Type 0 where
  pub at : BoxId
  pub owner : ℕ → ℕ
  pub taker : ℕ
  pub taken : List Posting

-- this pass shows the seat's puts: of what was taken and what is queued, the letters from the seat, in order
pub record Shows (seats : ℕ) (s : BoxState) (items : List Posting) (pass : ℕ) (at : BoxId) (e : SeatPuts) : Type 0 where
  pub seat : e.0 < seats
  pub place : at ≡ s.at
  pub owner : s.owner e.0 ≡ pass
  pub order : letters_from e.0 (s.taken ++ items) ≡ e.1

-- this pass takes, and shows all that was taken
pub record Takes (s : BoxState) (pass : ℕ) (at : BoxId) (xs : List Posting) : Type 0 where
  pub place : at ≡ s.at
  pub taker : s.taker ≡ pass
  pub taken : s.taken ≡ xs

pub record Fits (seats : ℕ) (s : BoxState) (items : List Posting) (pass : ℕ) (v : HandState) : Type 0 where
  pub puts : All (Shows seats s items pass v.at) v.puts
  pub takes : v.takes ≡ true → Takes s pass v.at v.taken

-- each letter may lie here, there are no more than there is room for, what each pass shows is so, and here the receipts are kept
pub record Keeps (schema : Attributes) (seats : ℕ) (found : BoxId → Mailbox → Type 0) (s : BoxState) (items : List Posting) (views : List HandState) : Type 0 where
  pub receipts : ForEachState found
  pub only : All (IsFor schema seats s.at.seat) (s.taken ++ items)
  pub room : length items ≤ BOX_LETTERS
  pub fits : (pass : ℕ) (v : HandState) → get_elem? views pass ≡ some v → Fits seats s items pass v

abbrev pub Delivers : Attributes → ℕ → (BoxId → Mailbox → Type 0) → List Posting → List HandState → Type 0
Delivers schema seats found items views = (s : BoxState) × Keeps schema seats found s items views

-- what a pass learns of the queued letters, with the receipt of the state that it found
pub record Sees (schema : Attributes) (seats : ℕ) (found : BoxId → Mailbox → Type 0) (v : HandState) (items : List Posting) : Type 0 where
  pub taken : List Posting
  pub only : All (IsFor schema seats v.at.seat) (taken ++ items)
  pub room : length items ≤ BOX_LETTERS
  pub puts : All (λ (e : SeatPuts). letters_from e.0 (taken ++ items) ≡ e.1) v.puts
  pub own : v.takes ≡ true → taken ≡ v.taken
  pub receipt : found v.at (record { taken = taken; queued = items })
