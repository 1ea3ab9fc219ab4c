-- A seat as the board of its session, and what it sends.
use Rattle.std.specs.Prelude.{◌≡◌, ℕ, ◌+◌, ◌⊎◌, false, List, [], ◌∷◌, length, None}
use Rattle.std.specs.List.{sum_by}
use Rattle.be_model.specs.Letters.{PlainLetter}
use Rattle.be_model.specs.Schemas.{Attributes}
use Rattle.be_mail.specs.Letters.{seat_of}
use Rattle.be_mail.specs.Passes.{Passes, after_put, after_full}
use Rattle.be_board.specs.State.{BoardState}
use Rattle.be_desk.specs.Seats.{SeatState, word_of}

-- how many letters were put, into whatever mailbox
abbrev pub put_count : Passes → ℕ
put_count q = sum_by (λ (letters : List PlainLetter). length letters) q.puts

-- the seat as the board of its session, with this count of tends, of which each adds so much. It tells no box, and others change its
-- list
abbrev pub board_of : (per_tend : ℕ) → Attributes → (tends : ℕ) → SeatState → BoardState
board_of per_tend schema tends s = record {
  seat = s.passes.seat;
  schema = schema;
  word = word_of s;
  box = None;
  counts = record {
    reads = s.glass.reads;
    shuts = s.glass.shuts;
    splits = s.splits;
    fulls = s.passes.fulls;
    empties = s.passes.empties;
    puts = put_count s.passes;
    tends = tends;
  };
  alone = false;
  per_tend = per_tend;
}

-- it holds of the board before and after, whatever its count of tends and whatever each adds
abbrev pub OnBoards : Attributes → (BoardState → BoardState → Type 0) → SeatState → SeatState → Type 0
OnBoards schema P s s' = (per_tend tends : ℕ) → P (board_of per_tend schema tends s) (board_of per_tend schema tends s')

-- each of these letters, in order, was put into the mailbox of its session's seat, or came back since this mailbox was
-- found full, which was counted. So many were put
abbrev pub Offers : (is_full : Passes → ℕ → Type 0) → (seats : ℕ) → List PlainLetter → (put : ℕ) → Passes → Passes → Type 0
Offers is_full seats [] put q q' = (put ≡ 0) × (q' ≡ q)
Offers is_full seats (l ∷ ls) put q q' =
    ((more : ℕ) × (put ≡ more + 1) × Offers is_full seats ls more (after_put q (seat_of seats l.session) l) q')
    ⊎ (is_full q (seat_of seats l.session) × Offers is_full seats ls put (after_full q) q')
