-- What contracts see of a heat and of its seats.
use Rattle.std.specs.Prelude.{◌≡◌, ℕ, ◌+◌, List, All, length, map, replicate, sum_by, slice_index_or, slice_set}
use Rattle.std.specs.List.{range_with_len}
use Rattle.atomic_table.specs.Seated.{TableId}

-- one worker's seat: which heat it is of, and what it has added to each word
pub record SeatState : Type 0 where
  pub of : TableId
  pub own : List ℕ

-- which heat it is, how many words it has, and how many seats it was made with
pub record HeatState : Type 0 where
  pub of : TableId
  pub words : ℕ
  pub seats : ℕ

abbrev pub heat_state : TableId → ℕ → ℕ → HeatState
heat_state of words seats = record { of = of; words = words; seats = seats }

-- a seat that has added nothing
abbrev pub new_seat : TableId → ℕ → SeatState
new_seat of words = record { of = of; own = replicate words 0 }

-- the count of a word, and 0 where the list has no such word
abbrev pub at_word : List ℕ → ℕ → ℕ
at_word counts word = slice_index_or counts word 0

-- one more at a word, and else the same counts
abbrev pub one_more : List ℕ → ℕ → List ℕ
one_more counts word = slice_set counts word (at_word counts word + 1)

abbrev pub with_one_more : SeatState → ℕ → SeatState
with_one_more seat word = record seat { own = one_more seat.own word }

-- the seat is one of this heat
abbrev pub IsOf : HeatState → SeatState → Type 0
IsOf heat seat = seat.of ≡ heat.of

-- As many seats of this heat as it was made with. A seat is never copied, so these are all its seats, each once
pub record AreAllSeats (heat : HeatState) (seats : List SeatState) : Type 0 where
  pub as_many : length seats ≡ heat.seats
  pub each_is_of : All (IsOf heat) seats

-- what the seats have added to a word together
abbrev pub total_of : List SeatState → ℕ → ℕ
total_of seats word = sum_by (λ (seat : SeatState). at_word seat.own word) seats

-- the same of each word, in order
abbrev pub totals : ℕ → List SeatState → List ℕ
totals words seats = map (total_of seats) (range_with_len 0 words)
