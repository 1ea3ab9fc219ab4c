-- The passes of one seat, as contracts see them.
use Rattle.std.specs.Prelude.{◌≡◌, ℕ, ◌==◌, ◌<◌, List, [], ◌∷◌, ◌++◌, map, length, slice_index_or, slice_set, replicate, All}
use mathlib.Core.Option.{some}
use lib.ListN.{get_elem?}
pub use Rattle.atomic_table.specs.Seated.{TableId}
use Rattle.crossbeam_queue.specs.Passes.{Pass, view}
use Rattle.be_base.specs.Counts.{raised}
use Rattle.be_model.specs.Schemas.{Attributes}
use Rattle.be_model.specs.Letters.{PlainLetter}
use Rattle.be_mail.specs.Letters.{Posting, letters_from}
use Rattle.be_mail.specs.Mailbox.{BoxId, box_id, Mailbox, all_of, IsMailboxOf}
use Rattle.be_mail.specs.Rule.{HandState, SeatPuts, hand}

-- which mailboxes these are, whose passes they are, what the seat put into each, what it took out of its own, how often a put found a mailbox full, and how often a fetch found the seat's own empty
pub record Passes : Type 0 where
  pub boxes : List TableId
  pub seat : ℕ
  pub puts : List (List PlainLetter)
  pub taken : List Posting
  pub fulls : ℕ
  pub empties : ℕ

-- the seat is one of those that have a mailbox, and a list of what it put stands for each mailbox
pub record AreOfSeat (q : Passes) : Type 0 where
  pub own : q.seat < length q.boxes
  pub each : length q.puts ≡ length q.boxes

-- what the seat put into a mailbox
abbrev pub put_into : ℕ → Passes → List PlainLetter
put_into mailbox q = slice_index_or q.puts mailbox []

-- each letter that the seat put
abbrev pub AllPut : (PlainLetter → Type 0) → Passes → Type 0
AllPut P q = All (λ letters. All P letters) q.puts

-- nothing was put or taken, and nothing was found full or empty
abbrev pub new_passes : List TableId → ℕ → Passes
new_passes boxes seat =
    record { boxes = boxes; seat = seat; puts = replicate (length boxes) []; taken = []; fulls = 0; empties = 0 }

abbrev pub after_put : Passes → ℕ → PlainLetter → Passes
after_put q mailbox letter = record q { puts = slice_set q.puts mailbox (put_into mailbox q ++ letter ∷ []) }

abbrev pub after_full : Passes → Passes
after_full q = record q { fulls = raised 1 q.fulls }

abbrev pub after_fetch : Passes → Posting → Passes
after_fetch q x = record q { taken = q.taken ++ x ∷ [] }

abbrev pub after_empty : Passes → Passes
after_empty q = record q { empties = raised 1 q.empties }

-- of all that was put into the mailbox, the letters from the seat are in order those that it put there; and what was taken out of its own, it took
pub record Agrees (mailbox : ℕ) (m : Mailbox) (q : Passes) : Type 0 where
  pub put : letters_from q.seat (all_of m) ≡ put_into mailbox q
  pub taken : q.seat ≡ mailbox → m.taken ≡ q.taken

-- this mailbox, of these, was found in the state
pub record WasFound (found : BoxId → Mailbox → Type 0) (boxes : List TableId) (mailbox : ℕ) (state : Mailbox) : Type 0 where
  pub queue : TableId
  pub named : get_elem? boxes mailbox ≡ some queue
  pub receipt : found (box_id queue mailbox) state

-- the mailbox was found with n letters, at a moment that agrees with the passes
pub record Held (schema : Attributes) (seats : ℕ) (found : BoxId → Mailbox → Type 0) (q : Passes) (mailbox n : ℕ) : Type 0 where
  pub state : Mailbox
  pub seen : WasFound found q.boxes mailbox state
  pub count : length state.queued ≡ n
  pub sound : IsMailboxOf schema seats mailbox state
  pub agrees : Agrees mailbox state q

-- what stands behind: one pass of the kit's queue for each mailbox

abbrev pub BoxPass : Type 0
BoxPass = Pass Posting HandState

abbrev pub box_of : BoxPass → TableId
box_of p = p.table_id

abbrev pub first_put : List SeatPuts → List PlainLetter
first_put [] = []
first_put (e ∷ es) = e.1

abbrev pub put_of : BoxPass → List PlainLetter
put_of p = first_put (view p).puts

abbrev pub taken_of : BoxPass → List Posting
taken_of p = (view p).taken

-- the pass of this seat at a mailbox
pub record IsHandOf (seat mailbox : ℕ) (p : BoxPass) : Type 0 where
  pub home : p.me.1 ≡ []
  pub shows : view p ≡ hand (box_id (box_of p) mailbox) ((seat, put_of p) ∷ []) (mailbox == seat) (taken_of p)

-- one pass for each mailbox, with a mailbox of its own
pub record AreHandsOf (seat : ℕ) (ps : List BoxPass) : Type 0 where
  pub own : seat < length ps
  pub each : (mailbox : ℕ) (p : BoxPass) → get_elem? ps mailbox ≡ some p → IsHandOf seat mailbox p

abbrev pub passes_of : ℕ → List BoxPass → ℕ → ℕ → Passes
passes_of seat ps fulls empties =
    record {
      boxes = map box_of ps;
      seat = seat;
      puts = map put_of ps;
      taken = slice_index_or (map taken_of ps) seat [];
      fulls = fulls;
      empties = empties;
    }
