-- A session over a link of a door.
use Rattle.std.proofs.Common.{◌≡◌, ℕ, subst}
use Rattle.be_io.specs.Outside.{LinkState}
use Rattle.be_model.specs.Schemas.{Attributes}
use Rattle.be_board.specs.State.{BoardState}
use Rattle.be_protocol.specs.declared.ends.SessionEnd.{SessionEnd}
use Rattle.be_session.specs.Served.{SessionEnds, BoardLeft}
use Rattle.be_desk.specs.Boards.{board_of}
use Rattle.be_desk.specs.Seats.{SeatState}
use Rattle.be_hub.specs.Links.{SessionServed}
use Rattle.be_hub.proofs.FilesServed.{ends_weaker}

pub session_served : (P : Type 0) (s s' : Attributes) (asked asked' : ℕ) (seat seat' : SeatState) (before after : LinkState) (b b' : BoardState) (end : SessionEnd) → s' ≡ s → b ≡ board_of 1 s asked seat → b' ≡ board_of 1 s asked' seat'
    → (P → (after ≡ before) × (seat' ≡ seat) × (asked' ≡ asked)) → after.source.whole ≡ before.source.whole → SessionEnds P s' before after b b' end → BoardLeft b b' → SessionServed s asked asked' seat seat' before after end
session_served P s s' asked asked' seat seat' before after b b' end schema was now same whole ends board =
    let here : SessionEnds P s before after (board_of 1 s asked seat) (board_of 1 s asked' seat') end =
    subst (λ (x : Attributes). SessionEnds P x before after (board_of 1 s asked seat) (board_of 1 s asked' seat') end) schema
    (subst (λ (x : BoardState). SessionEnds P s' before after x (board_of 1 s asked' seat') end) was
    (subst (λ (x : BoardState). SessionEnds P s' before after b x end) now ends)) in
    record {
      session = ends_weaker P ((after ≡ before) × (seat' ≡ seat) × (asked' ≡ asked)) s before after (board_of 1 s asked seat) (board_of 1 s asked' seat') end same here;
      board = subst (λ (x : BoardState). BoardLeft x (board_of 1 s asked' seat')) was (subst (λ (x : BoardState). BoardLeft b x) now board);
      whole = whole;
    }
