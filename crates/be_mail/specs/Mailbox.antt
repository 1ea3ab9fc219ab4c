-- A mailbox at one moment.
use Rattle.std.specs.Prelude.{ℕ, List, ◌++◌, ◌≤◌, length, All}
use Rattle.atomic_table.specs.Seated.{TableId}
use Rattle.be_base.specs.declared.limits.TheConstants.{BOX_LETTERS}
use Rattle.be_model.specs.Schemas.{Attributes}
use Rattle.be_mail.specs.Letters.{Posting, IsFor}

-- which queue it is, and which seat's mailbox
pub record BoxId : Type 0 where
  pub queue : TableId
  pub seat : ℕ

abbrev pub box_id : TableId → ℕ → BoxId
box_id queue seat = record { queue = queue; seat = seat }

-- what was taken out of it so far, and what it holds, each oldest first
pub record Mailbox : Type 0 where
  pub taken : List Posting
  pub queued : List Posting

-- what was ever put into it
abbrev pub all_of : Mailbox → List Posting
all_of m = m.taken ++ m.queued

-- it is a mailbox of this seat: each letter may lie there, and it holds no more than there is room for
pub record IsMailboxOf (schema : Attributes) (seats seat : ℕ) (m : Mailbox) : Type 0 where
  pub only : All (IsFor schema seats seat) (all_of m)
  pub room : length m.queued ≤ BOX_LETTERS

-- there is a receipt for each mailbox in each state
abbrev pub ForEachState : (BoxId → Mailbox → Type 0) → Type 0
ForEachState found = (mailbox : BoxId) (state : Mailbox) → found mailbox state
