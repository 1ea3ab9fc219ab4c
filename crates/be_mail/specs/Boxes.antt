-- The mailboxes of a mail, and the passes that are handed out while they are made.
use Rattle.std.specs.Prelude.{◌≡◌, ℕ, ◌==◌, ◌<◌, ◌≤◌, ◌++◌, [], ◌∷◌, List, Option, length, map, All}
use Rattle.be_base.specs.declared.limits.TheConstants.{SEATS, BOX_LETTERS}
use mathlib.Core.Option.{some}
use lib.ListN.{get_elem?}
use Rattle.atomic_table.specs.Seated.{TableId}
use Rattle.crossbeam_queue.specs.Passes.{view, ruled_capacity}
use Rattle.crossbeam_queue.specs.declared.array_queue.Doing.{Doing}
use Rattle.crossbeam_queue.specs.declared.array_queue.Slotted.{Slotted}
use Rattle.be_mail.specs.Letters.{Posting}
use Rattle.be_mail.specs.Rule.{HandState, hand}
use Rattle.be_mail.specs.Mailbox.{box_id}
use Rattle.be_mail.specs.Passes.{BoxPass, box_of}

-- a queue of letters under the rule
abbrev pub Box : Type 0 → Type 0 → Type 0
Box Q A = Slotted (Option Posting) (Doing Posting HandState) Q A

module _ {Q A : Type 0} where
  abbrev pub name_of : Box Q A → TableId
  name_of b = b.table.shared.table_id

  -- each has room for its letters
  abbrev pub HaveRoom : List (Box Q A) → Type 0
  HaveRoom bs = All (λ (b : Box Q A). ruled_capacity b ≡ BOX_LETTERS) bs

  -- one for each seat
  pub record AreBoxes (seats : ℕ) (bs : List (Box Q A)) : Type 0 where
    pub some : 0 < seats
    pub few : seats ≤ SEATS
    pub count : length bs ≡ seats
    pub room : HaveRoom bs

-- a pass of the seat at a mailbox, with which nothing was put or taken
pub record IsNewHand (seat mailbox : ℕ) (p : BoxPass) : Type 0 where
  pub home : p.me.1 ≡ []
  pub shows : view p ≡ hand (box_id (box_of p) mailbox) ((seat, []) ∷ []) (mailbox == seat) []

-- new passes of the seat at these mailboxes
pub record IsNewRow (seat : ℕ) (names : List TableId) (ps : List BoxPass) : Type 0 where
  pub boxes : map box_of ps ≡ names
  pub each : (mailbox : ℕ) (p : BoxPass) → get_elem? ps mailbox ≡ some p → IsNewHand seat mailbox p

-- a row for each seat
pub record AreRows (seats : ℕ) (names : List TableId) (rows : List (List BoxPass)) : Type 0 where
  pub count : length rows ≡ seats
  pub each : (seat : ℕ) (r : List BoxPass) → get_elem? rows seat ≡ some r → IsNewRow seat names r

-- the rows of the first n seats have one mailbox more
pub record AreRowsUpTo (n seats : ℕ) (names : List TableId) (name : TableId) (rows : List (List BoxPass)) : Type 0 where
  pub count : length rows ≡ seats
  pub done : (seat : ℕ) (r : List BoxPass) → get_elem? rows seat ≡ some r → seat < n → IsNewRow seat (names ++ name ∷ []) r
  pub left : (seat : ℕ) (r : List BoxPass) → get_elem? rows seat ≡ some r → n ≤ seat → IsNewRow seat names r
