-- Where the letters of all sessions came to, and what the sessions' replies say of it.
use Rattle.std.specs.Prelude.{◌≡◌, ℕ, ◌<◌, ◌≤◌, ◌+◌, ◌==◌, List, ◌++◌, length, map, filter, All}
use Rattle.std.specs.List.{sum_by}
use Rattle.atomic_table.specs.Seated.{TableId}
use Rattle.be_base.specs.declared.limits.TheConstants.{BOX_LETTERS}
use Rattle.be_change.specs.History.{Entry}
use Rattle.be_change.specs.Requests.{Note, Exchange}
use Rattle.be_change.specs.Walk.{IsNoteFor}
use Rattle.be_model.specs.Schemas.{Attributes}
use Rattle.be_mail.specs.Letters.{Posting}
use Rattle.be_mail.specs.Mailbox.{BoxId, Mailbox}
use Rattle.be_mail.specs.Passes.{Passes}
use Rattle.be_mail.specs.Settled.{IsKept}
use Rattle.be_board.specs.Letters.{note_of}
use Rattle.be_session.specs.Given.{letters_given}
use Rattle.be_session.specs.Tied.{letters_put}

-- a letter in a box: the worker that sent it, from 1, the session that it is for, and what that session reads. A worker of `drill` has
-- one session, that of its own number
pub record Mailed : Type 0 where
  pub sender : ℕ
  pub reader : ℕ
  pub note : Note

abbrev pub note_in : Mailed → Note
note_in x = x.note

-- the letters that were ever put into a worker's box, in order: first those that were taken out, then those that are left
pub record LetterBox : Type 0 where
  pub taken : List Mailed
  pub left : List Mailed

abbrev pub all_in : LetterBox → List Mailed
all_in box = box.taken ++ box.left

-- how many of them worker k sent
abbrev pub count_from : ℕ → LetterBox → ℕ
count_from k box = length (filter (λ (x : Mailed). x.sender == k) (all_in box))

-- what session k reads of those that were taken out, in order
abbrev pub taken_for : ℕ → LetterBox → List Note
taken_for k box = map note_in (filter (λ (x : Mailed). x.reader == k) box.taken)

-- the part stands in one piece in the whole
abbrev pub StandAmong : {X : Type 0} → List X → List X → Type 0
StandAmong {X} part whole = (before after : List X) × (whole ≡ before ++ (part ++ after))

-- a box among the boxes of all workers, over the list
pub record IsLetterBox (h : List Entry) (boxes : List LetterBox) (box : LetterBox) : Type 0 where
  -- each letter in it is from one of the workers, and for a row of the session that it names, which isn't 0, nobody's
  pub senders : All (λ (x : Mailed). (0 < x.sender) × (x.sender ≤ length boxes)) (all_in box)
  pub notes : All (λ (x : Mailed). (0 < x.reader) × IsNoteFor x.reader h x.note) (all_in box)
  pub room : length box.left ≤ BOX_LETTERS

-- the box of worker k, whose only session is session k and had these exchanges, among the boxes of all workers, over the list
pub record IsBoxOf (h : List Entry) (boxes : List LetterBox) (k : ℕ) (ps : List Exchange) (box : LetterBox) : Type 0 where
  -- the letters that FETCH gave are those that were taken out, in order
  pub fetched : letters_given ps ≡ map note_in box.taken
  -- as many letters as SEND said were put lie in all boxes from session k
  pub sent : sum_by letters_put ps ≡ sum_by (count_from k) boxes
  -- each letter in the box is for session k
  pub mine : All (λ (x : Mailed). x.reader ≡ k) (all_in box)
  pub box_is : IsLetterBox h boxes box

-- a letter, with the worker whose seat put it, where seat i is that of worker i + 1
abbrev pub mailed : Posting → Mailed
mailed x = record { sender = x.from + 1; reader = x.letter.session; note = note_of x.letter }

-- a mailbox as the box of its seat's worker
abbrev pub box_in : Mailbox → LetterBox
box_in m = record { taken = map mailed m.taken; left = map mailed m.queued }

-- the box is what this mailbox, of these, was when it was found. Each letter in it may lie there, and with these passes of all seats
-- it agrees: of each seat it has the letters that the seat put there, in order, each once, and its own seat took those that were taken
-- out
abbrev pub WasBox : (schema : Attributes) → (found : BoxId → Mailbox → Type 0) → List TableId → List Passes → (mailbox : ℕ) → LetterBox → Type 0
WasBox schema found boxes passes mailbox box = (kept : IsKept schema (length boxes) found boxes passes mailbox) × (box ≡ box_in kept.state)
