-- What a worker leaves of a file that it served.
use Rattle.std.specs.Prelude.{◌≡◌, ℕ, ◌<◌, Bool, true, false, List, [], Some}
use Rattle.be_io.specs.Outside.{LinkState}
use Rattle.be_model.specs.Schemas.{Attributes}
use Rattle.be_protocol.specs.declared.ends.SessionEnd.{SessionEnd}
use Rattle.be_protocol.specs.declared.ends.SessionEnd.TheVariants.{Eof, Quit, Split, NoMemory}
use Rattle.be_session.specs.Served.{SessionEnds, BoardLeft}
use Rattle.be_desk.specs.Seats.{SeatState}
use Rattle.be_desk.specs.Boards.{board_of}

-- a file that nobody has read, beside an empty transcript
abbrev pub file_link : List ℕ → LinkState
file_link file = record {
  source = record { left = Some file; faults = 0; taken = 0; whole = Some file };
  sink = record { held = Some []; faults = 0; refusals = 0; kept_back = 0 };
}

-- no read and no write of a file fails, and none gives more than a source may
abbrev pub IsFileEnd : SessionEnd → Type 0
IsFileEnd Eof = Unit {0}
IsFileEnd Quit = Unit {0}
IsFileEnd (Split seen written) = Unit {0}
IsFileEnd NoMemory = Unit {0}
IsFileEnd end = ⊥

-- the session of the seat was served over the file, and wrote the transcript. No tend is counted at its board
pub record FileServed (s : Attributes) (file : List ℕ) (seat seat' : SeatState) (transcript : List ℕ) (end : SessionEnd) : Type 0 where
  pub after : LinkState
  pub session : SessionEnds ((seat' ≡ seat) × (transcript ≡ [])) s (file_link file) after (board_of 0 s 0 seat) (board_of 0 s 0 seat') end
  pub wrote : after.sink.held ≡ Some transcript
  pub board : BoardLeft (board_of 0 s 0 seat) (board_of 0 s 0 seat')
  pub quiet : IsFileEnd end

-- the file was read to its end or to a QUIT
abbrev pub IsRead : SessionEnd → Type 0
IsRead Eof = Unit {0}
IsRead Quit = Unit {0}
IsRead end = ⊥

abbrev pub lacks_memory : SessionEnd → Bool
lacks_memory NoMemory = true
lacks_memory end = false

abbrev pub is_split_end : SessionEnd → Bool
is_split_end (Split seen written) = true
is_split_end end = false

-- a file's session ends so at its seat, which counts each SPLIT
pub record IsEndOf (seat : SeatState) (end : SessionEnd) : Type 0 where
  pub quiet : IsFileEnd end
  pub counted : is_split_end end ≡ true → 0 < seat.splits
