-- Replies that tell what a read found.
use Rattle.std.specs.Prelude.{◌≡◌, ℕ, List, [], None}
use Rattle.be_model.specs.Schemas.{Attributes}
use Rattle.be_change.specs.Requests.{Request, Reply}
use Rattle.be_protocol.specs.Replies.{reply_text}
use Rattle.be_board.specs.State.{BoardState}
use Rattle.be_protocol.specs.Ends.{end_after}
use Rattle.be_session.specs.Given.{letters_of}
use Rattle.be_session.specs.Steps.{Replies}

-- this is the text of a reply that the board's answer makes, which gives no letters and ends no session
abbrev pub IsTold : Attributes → Request → List ℕ → BoardState → BoardState → Type 0
IsTold s r text b b' =
    (reply : Reply) × Replies s (r, reply) b b' × (text ≡ reply_text s reply) × (end_after r reply ≡ None) × (letters_of reply ≡ [])
