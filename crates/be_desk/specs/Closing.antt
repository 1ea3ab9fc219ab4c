-- What the records of all seats are against the list, when the server closes.
use Rattle.std.specs.Prelude.{◌≡◌, ◌≢◌, ℕ, zero, suc, ◌<◌, ◌≤◌, ◌+◌, ◌==◌, ⊤, List, [], ◌∷◌, ◌++◌, filter, if◌then◌else◌, length, map, All, AllPairs, Any, Contains, min, Option, Some, None, slice_get}
use Rattle.atomic_table.specs.Seated.{TableId}
use Rattle.be_change.specs.History.{Entry, session_of, placed_of}
use Rattle.be_mail.specs.Letters.{seat_of}
use Rattle.be_mail.specs.Settled.{AreAll}
use Rattle.be_board.specs.Word.{own_of}
use Rattle.be_desk.specs.Seats.{SeatState, IsOfSeat}

-- these are all seats, each once, in any order
abbrev pub AreAllSeats : List TableId → List SeatState → Type 0
AreAllSeats boxes seats = AreAll boxes (map (λ (s : SeatState). s.passes) seats)

-- no two of them are the same seat
abbrev pub AreApart : List SeatState → Type 0
AreApart seats = AllPairs (λ (s t : SeatState). s.passes.seat ≢ t.passes.seat) seats

-- for each session that the seat may have, its record has that session's entries of the list, at their places, and no others
abbrev pub KeepsRecord : List TableId → List Entry → SeatState → Type 0
KeepsRecord boxes h s = (k : ℕ) → 0 < k → seat_of (length boxes) k ≡ s.passes.seat → placed_of k h ≡ own_of k s.own

-- each of the first n entries, but those of the opening, stands in the record of one of these seats, at its place
abbrev pub AreRecorded : ℕ → List Entry → List SeatState → Type 0
AreRecorded n h seats = (p : ℕ) (e : Entry) → p < n → slice_get h p ≡ Some e → 0 < session_of e → Any (λ (s : SeatState). Contains s.own (p, e)) seats

-- the records keep the list
pub record AreKept (boxes : List TableId) (h : List Entry) (seats : List SeatState) : Type 0 where
  pub records : All (KeepsRecord boxes h) seats
  pub entries : AreRecorded (length h) h seats

-- the pairs of these records at one place, seat by seat
abbrev pub pairs_at : ℕ → List SeatState → List (ℕ × Entry)
pairs_at n [] = []
pairs_at n (s ∷ ss) = filter (λ (p : ℕ × Entry). p.0 == n) s.own ++ pairs_at n ss

-- the merge of the records, by place and then by seat, up to a place
abbrev pub merged : ℕ → List SeatState → List (ℕ × Entry)
merged zero seats = []
merged (suc n) seats = merged n seats ++ pairs_at n seats

-- the entry with its place, where it isn't one of the opening
abbrev pub pair_of : ℕ → Option Entry → List (ℕ × Entry)
pair_of n None = []
pair_of n (Some e) = if session_of e == 0 then [] else (n, e) ∷ []

-- the list's pairs of place and entry, those of the opening left out, up to a place
abbrev pub pairs_of : ℕ → List Entry → List (ℕ × Entry)
pairs_of zero h = []
pairs_of (suc n) h = pairs_of n h ++ pair_of n (slice_get h n)

-- the record has an entry at this place
abbrev pub HasPlace : ℕ → List (ℕ × Entry) → Type 0
HasPlace n own = Any (λ (p : ℕ × Entry). p.0 ≡ n) own

-- it is the record's first place from `from` on, where there is one
abbrev pub IsNextPlace : ℕ → List (ℕ × Entry) → Option ℕ → Type 0
IsNextPlace from own None = All (λ (p : ℕ × Entry). p.0 < from) own
IsNextPlace from own (Some n) = (from ≤ n) × HasPlace n own × All (λ (p : ℕ × Entry). from ≤ p.0 → n ≤ p.0) own

-- it is the first such place in any of the records
abbrev pub IsFirstPlace : ℕ → List SeatState → Option ℕ → Type 0
IsFirstPlace from seats None = All (λ (s : SeatState). All (λ (p : ℕ × Entry). p.0 < from) s.own) seats
IsFirstPlace from seats (Some n) =
    (from ≤ n) × Any (λ (s : SeatState). HasPlace n s.own) seats × All (λ (s : SeatState). All (λ (p : ℕ × Entry). from ≤ p.0 → n ≤ p.0) s.own) seats

-- the list's entry at this place, where there are both
abbrev pub entry_at : List Entry → Option ℕ → Option Entry
entry_at h None = None
entry_at h (Some n) = slice_get h n

pub record StrayState : Type 0 where
  -- where the records and the list first differ
  pub at : ℕ
  -- the list's entry there
  pub listed : Option Entry
  -- the next place that a record has, there or behind, and the list's entry at it
  pub made : Option ℕ
  pub change : Option Entry

-- the list's entry isn't one of the opening, and no record has this place; or the list has ended, and a record has not
abbrev pub Differ : ℕ → Option Entry → Option ℕ → Type 0
Differ at None made = made ≢ None
Differ at (Some e) made = (0 < session_of e) × (made ≢ Some at)

-- up to this place the merge of the records is the list's pairs, and from here on it isn't
pub record IsStray (h : List Entry) (seats : List SeatState) (s : StrayState) : Type 0 where
  pub within : s.at ≤ length h
  pub merge : merged s.at seats ≡ pairs_of s.at h
  pub listed : s.listed ≡ slice_get h s.at
  pub made : IsFirstPlace s.at seats s.made
  pub change : s.change ≡ entry_at h s.made
  -- where the list has an entry at that place, it is the one that the record has there
  pub own : (n : ℕ) (e : Entry) → s.made ≡ Some n → s.change ≡ Some e → Any (λ (t : SeatState). Contains t.own (n, e)) seats
  pub differ : Differ s.at s.listed s.made

-- what follows serves the proof

-- the least of both, where there are two
abbrev pub least_of : Option ℕ → Option ℕ → Option ℕ
least_of (Some a) (Some b) = Some (min a b)
least_of (Some a) None = Some a
least_of None b = b

-- a pair that lies below n is the list's own
abbrev pub IsListed : ℕ → List Entry → ℕ × Entry → Type 0
IsListed n h p = p.0 < n → slice_get h p.0 ≡ Some p.1

-- the places rise, from n on
abbrev pub RisesFrom : ℕ → List (ℕ × Entry) → Type 0
RisesFrom n [] = ⊤
RisesFrom n (p ∷ ps) = (n ≤ p.0) × RisesFrom (p.0 + 1) ps

-- what holds of a seat's record beside the list, whichever is longer
pub record IsBeside (boxes : List TableId) (h : List Entry) (s : SeatState) : Type 0 where
  pub listed : All (IsListed (length h) h) s.own
  pub rising : RisesFrom 0 s.own
  pub own_all : All (IsOfSeat (length boxes) s.passes.seat s.session) s.own

-- the record of the entry's seat has its place
abbrev pub IsKeptAt : ℕ → List SeatState → ℕ → Entry → Type 0
IsKeptAt count seats p e = Any (λ (s : SeatState). (s.passes.seat ≡ seat_of count (session_of e)) × HasPlace p s.own) seats

abbrev pub AreKeptBelow : ℕ → ℕ → List Entry → List SeatState → Type 0
AreKeptBelow n count h seats = (p : ℕ) (e : Entry) → p < n → slice_get h p ≡ Some e → 0 < session_of e → IsKeptAt count seats p e

-- the entry at this place has a session, and the record of the session's seat doesn't have its place
abbrev pub IsUnkeptAt : ℕ → List Entry → List SeatState → ℕ → Type 0
IsUnkeptAt count h seats p =
    (e : Entry) × (slice_get h p ≡ Some e) × (0 < session_of e)
    × All (λ (s : SeatState). s.passes.seat ≡ seat_of count (session_of e) → All (λ (q : ℕ × Entry). q.0 ≢ p) s.own) seats
