-- What the passes of all seats show together.
use Rattle.std.specs.Prelude.{◌≡◌, ◌≢◌, ℕ, ◌<◌, Bool, true, List, [], map, length, All, AllPairs, Any, Contains}
use mathlib.Core.Option.{some}
use lib.ListN.{get_elem?}
use Rattle.atomic_table.specs.Seated.{TableId}
use Rattle.crossbeam_queue.specs.Passes.{view}
use Rattle.be_model.specs.Schemas.{Attributes}
use Rattle.be_mail.specs.Letters.{Posting}
use Rattle.be_mail.specs.Mailbox.{BoxId, box_id, Mailbox, IsMailboxOf}
use Rattle.be_mail.specs.Rule.{SeatPuts, hand, both}
use Rattle.be_mail.specs.Passes.{Passes, BoxPass, box_of, put_into, Agrees, WasFound}

-- the passes of these mailboxes, those of each seat once, in any order
pub record AreAll (mail : List TableId) (qs : List Passes) : Type 0 where
  pub boxes : All (λ (q : Passes). q.boxes ≡ mail) qs
  pub once : AllPairs (λ (p q : Passes). p.seat ≢ q.seat) qs
  pub seats : (seat : ℕ) → seat < length mail → Any (λ (q : Passes). q.seat ≡ seat) qs

-- the mailbox was found in a state with which all passes agree: of each seat, the letters that were taken and then those still queued are in order those that the seat put there
pub record IsKept (schema : Attributes) (seats : ℕ) (found : BoxId → Mailbox → Type 0) (mail : List TableId) (qs : List Passes) (mailbox : ℕ) : Type 0 where
  pub state : Mailbox
  pub seen : WasFound found mail mailbox state
  pub sound : IsMailboxOf schema seats mailbox state
  pub agree : All (Agrees mailbox state) qs

abbrev pub AreKept : Attributes → ℕ → (BoxId → Mailbox → Type 0) → List TableId → List Passes → Type 0
AreKept schema seats found mail qs = (mailbox : ℕ) → mailbox < seats → IsKept schema seats found mail qs mailbox

-- the letter was put into the mailbox by the seat that it carries
abbrev pub WasPut : List Passes → ℕ → Posting → Type 0
WasPut qs mailbox x = Any (λ (p : Passes). (p.seat ≡ x.from) × Contains (put_into mailbox p) x.letter) qs

-- each letter that anybody took
abbrev pub TakenWerePut : List Passes → Type 0
TakenWerePut qs = All (λ (q : Passes). All (WasPut qs q.seat) q.taken) qs

-- two passes at one mailbox
pub record CanJoin (p o : BoxPass) : Type 0 where
  pub home : p.me.1 ≡ []
  pub other_home : o.me.1 ≡ []
  pub place : (view o).at ≡ (view p).at

abbrev pub CanJoinAll : List BoxPass → List BoxPass → Type 0
CanJoinAll ps os = (w : ℕ) (p o : BoxPass) → get_elem? ps w ≡ some p → get_elem? os w ≡ some o → CanJoin p o

pub record IsJoined (p o joined : BoxPass) : Type 0 where
  pub home : joined.me.1 ≡ []
  pub shows : view joined ≡ both (view p) (view o)

abbrev pub AreJoined : List BoxPass → List BoxPass → List BoxPass → Type 0
AreJoined ps os joined =
    (w : ℕ) (p o p' : BoxPass) → get_elem? ps w ≡ some p → get_elem? os w ≡ some o → get_elem? joined w ≡ some p' → IsJoined p o p'

-- a seat, and what it put into the mailbox
abbrev pub entry_at : ℕ → Passes → SeatPuts
entry_at mailbox q = (q.seat, put_into mailbox q)

-- a pass that shows what these seats put into the mailbox, and what was taken out of it where its seat is among them
pub record IsSum (qs : List Passes) (mailbox : ℕ) (p : BoxPass) : Type 0 where
  pub home : p.me.1 ≡ []
  pub takes : Bool
  pub taken : List Posting
  pub shows : view p ≡ hand (box_id (box_of p) mailbox) (map (entry_at mailbox) qs) takes taken
  pub own : All (λ (q : Passes). q.seat ≡ mailbox → (takes ≡ true) × (q.taken ≡ taken)) qs

-- for each mailbox such a pass
pub record AreSums (mail : List TableId) (qs : List Passes) (ps : List BoxPass) : Type 0 where
  pub boxes : map box_of ps ≡ mail
  pub nonempty : 0 < length qs
  pub within : All (λ (q : Passes). q.seat < length mail) qs
  pub each : (mailbox : ℕ) (p : BoxPass) → get_elem? ps mailbox ≡ some p → IsSum qs mailbox p
