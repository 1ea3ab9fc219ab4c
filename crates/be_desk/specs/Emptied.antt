-- A seat's mailbox that was emptied between two of its sessions.
use Rattle.std.specs.Prelude.{◌≡◌, ℕ, ◌<◌, ◌≤◌, ◌++◌, ◌⊎◌, List, length, All}
use Rattle.be_base.specs.declared.limits.TheConstants.{BOX_LETTERS}
use Rattle.be_model.specs.Schemas.{Attributes}
use Rattle.be_mail.specs.Letters.{Posting, IsFor}
use Rattle.be_mail.specs.Passes.{Passes, after_empty}
use Rattle.be_desk.specs.Seats.{SeatState}

-- these letters were taken out of the seat's own mailbox, in order, and nothing else was done
abbrev pub after_taken : Passes → List Posting → Passes
after_taken q letters = record q { taken = q.taken ++ letters }

-- these letters were taken, and a look found the mailbox empty; or they are a box full
abbrev pub TakesAll : Passes → List Posting → Passes → Type 0
TakesAll q letters q' =
    ((length letters < BOX_LETTERS) × (q' ≡ after_empty (after_taken q letters)))
    ⊎ ((length letters ≡ BOX_LETTERS) × (q' ≡ after_taken q letters))

-- what was in the seat's mailbox was taken out, at most a box full, and nothing else was done. Each of these letters may lie there
pub record IsEmptied (schema : Attributes) (seats : ℕ) (before after : SeatState) : Type 0 where
  pub letters : List Posting
  pub only : All (IsFor schema seats before.passes.seat) letters
  pub takes : TakesAll before.passes letters after.passes
  pub seat : after ≡ record before { passes = after.passes }
  -- the count of looks that found none is not past its type's end
  pub empties : before.passes.empties ≤ after.passes.empties
