-- Which replies one session may be given, line by line, over one list of changes. Nothing here is about bytes.
use Rattle.std.specs.Prelude.{◌≡◌, ◌≢◌, ℕ, ◌+◌, ◌-◌, ◌<◌, ◌≤◌, ◌⊎◌, Bool, true, false, List, [], ◌∷◌, ◌++◌, length, take, drop, filter, All, Some, slice_get}
use Rattle.be_model.specs.declared.changes.Row.{Row}
use Rattle.be_model.specs.Schemas.{Attributes}
use Rattle.be_model.specs.Matching.{satisfies}
use Rattle.be_model.specs.Bounds.{IsWithinBound}
use Rattle.be_model.specs.ByIds.{ByIds, row_at, rows_of}
use Rattle.be_change.specs.History.{Text, Entry, subscribed, unsubscribed, left, is_of, live, names_of, hits, places_of, is_live_name}
use Rattle.be_change.specs.Requests.{Request, refused, subscribe, unsubscribe, publish, costing, listing, sending, fetching, dumping, tailing, quit, Note, Reply, refusal, ok, held, bye, dup, none, other, hit, cost, listed, sent, notes, dumped, tailed, split, no_memory, shut, Exchange}

-- what a session knows: the greatest length that it was told or shown, the greatest length at a change of its own
-- that was accepted, and how many were accepted
pub record Walk : Type 0 where
  pub seen : ℕ
  pub own : ℕ
  pub serial : ℕ
  pub ended : Bool

-- a session that begins where the list has z entries, and was told of them
abbrev pub beginning_at : ℕ → Walk
beginning_at z = record { seen = z; own = 0; serial = 0; ended = false }

abbrev pub having_seen : ℕ → Walk → Walk
having_seen n w = record w { seen = n }

abbrev pub having_changed : ℕ → Walk → Walk
having_changed n w = record w { own = n; serial = w.serial + 1 }

abbrev pub having_left : Walk → Walk
having_left w = record w { serial = w.serial + 1; ended = true }

abbrev pub having_ended : Walk → Walk
having_ended w = record w { ended = true }

-- the entry is the change that the request names, made by session k as its change number `serial`, at this place
abbrev pub IsChangeOf : ℕ → ℕ → ℕ → Request → Entry → Type 0
IsChangeOf k serial place (subscribe name conj) (subscribed j n row) =
    (j ≡ k) × (n ≡ serial) × (row.id.0 ≡ place) × (row.session.0 ≡ k) × (row.name ≡ name) × (row.conj ≡ conj)
IsChangeOf k serial place (unsubscribe name) (unsubscribed j n gone) = (j ≡ k) × (n ≡ serial) × (gone ≡ name)
IsChangeOf k serial place quit (left j n) = (j ≡ k) × (n ≡ serial)
IsChangeOf k serial place _ _ = ⊥

-- a read answers a length that covers what the session has seen
pub record IsReadAt (h : List Entry) (w : Walk) (n : ℕ) : Type 0 where
  pub covers : w.seen ≤ n
  pub within : n ≤ length h

-- a change is refused over a list that covers what the session has seen and changed
pub record IsRefusedAt (h : List Entry) (w : Walk) (m : ℕ) : Type 0 where
  pub covers : w.seen ≤ m
  pub covers_own : w.own ≤ m
  pub within : m ≤ length h

-- the request's change stands last in the first n entries, after all that the session has seen and changed
pub record IsAcceptedAt (k : ℕ) (h : List Entry) (w : Walk) (r : Request) (n : ℕ) : Type 0 where
  pub later : w.seen < n
  pub later_own : w.own < n
  pub entry : Entry
  pub stands : slice_get h (n - 1) ≡ Some entry
  pub is_it : IsChangeOf k w.serial (n - 1) r entry

-- the row at this id has the name
abbrev pub HasNameAt : ByIds → ℕ → Text → Type 0
HasNameAt l id name = (row : Row) × (row_at id l ≡ Some row) × (row.name ≡ name)

abbrev pub HasNameOfAnotherAt : ℕ → ByIds → ℕ → Text → Type 0
HasNameOfAnotherAt k l id name = (row : Row) × (row_at id l ≡ Some row) × (row.name ≡ name) × (row.session.0 ≢ k)

-- the names of a session's live rows, by rising id
abbrev pub names_of_session : ℕ → List Entry → List Text
names_of_session k h = names_of (filter (is_of k) (live h))

-- all live rows, by rising id
abbrev pub live_rows : List Entry → List Row
live_rows h = rows_of (live h)

-- the changes from a place on, at most so many
abbrev pub tail_from : (place max : ℕ) → List Entry → List Entry
tail_from place max h = take max (drop place h)

-- a row of session k that is live after the first n changes has the note's name, and its event satisfies it
pub record IsNoteFor (k : ℕ) (h : List Entry) (note : Note) : Type 0 where
  pub within : note.n ≤ length h
  pub id : ℕ
  pub row : Row
  pub stands : row_at id (live (take note.n h)) ≡ Some row
  pub owner : row.session.0 ≡ k
  pub named : row.name ≡ note.name
  pub satisfied : satisfies note.event row.conj ≡ true

-- two numbers that should agree and don't
abbrev pub IsSplit : Walk → ℕ → ℕ → Type 0
IsSplit w a b = ((w.seen ≤ a) × (b < a)) ⊎ ((a ≡ w.serial) × (a ≢ b))

-- the reply may answer the request at w, and leads to w'
abbrev pub Answers : Attributes → ℕ → List Entry → Request → Reply → Walk → Walk → Type 0
Answers s k h (refused r) (refusal t) w w' = (t ≡ r) × (w' ≡ w)
Answers s k h (subscribe name conj) (ok n) w w' = IsAcceptedAt k h w (subscribe name conj) n × (w' ≡ having_seen n (having_changed n w))
Answers s k h (subscribe name conj) (held n) w w' = IsAcceptedAt k h w (subscribe name conj) n × (w' ≡ having_changed n w)
Answers s k h (subscribe name conj) (dup m id) w w' = IsRefusedAt h w m × HasNameAt (live (take m h)) id name × (w' ≡ having_seen m w)
Answers s k h (subscribe name conj) no_memory w w' = w' ≡ w
Answers s k h (subscribe name conj) (split a b) w w' = IsSplit w a b × (w' ≡ having_ended w)
Answers s k h (unsubscribe name) (ok n) w w' = IsAcceptedAt k h w (unsubscribe name) n × (w' ≡ having_seen n (having_changed n w))
Answers s k h (unsubscribe name) (held n) w w' = IsAcceptedAt k h w (unsubscribe name) n × (w' ≡ having_changed n w)
Answers s k h (unsubscribe name) (none m) w w' = IsRefusedAt h w m × (is_live_name name (live (take m h)) ≡ false) × (w' ≡ having_seen m w)
Answers s k h (unsubscribe name) (other m id) w w' = IsRefusedAt h w m × HasNameOfAnotherAt k (live (take m h)) id name × (w' ≡ having_seen m w)
Answers s k h (unsubscribe name) no_memory w w' = w' ≡ w
Answers s k h (unsubscribe name) (split a b) w w' = IsSplit w a b × (w' ≡ having_ended w)
Answers s k h (publish e) (hit n names) w w' = IsReadAt h w n × (names ≡ hits (take n h) e) × (w' ≡ having_seen n w)
Answers s k h (publish e) no_memory w w' = w' ≡ w
Answers s k h (publish e) shut w w' = w' ≡ w
Answers s k h (costing e) (cost n c) w w' = IsReadAt h w n × IsWithinBound s e (live_rows (take n h)) c × (w' ≡ having_seen n w)
Answers s k h (costing e) no_memory w w' = w' ≡ w
Answers s k h (costing e) shut w w' = w' ≡ w
Answers s k h listing (listed n names) w w' = IsReadAt h w n × (names ≡ names_of_session k (take n h)) × (w' ≡ having_seen n w)
Answers s k h listing no_memory w w' = w' ≡ w
Answers s k h listing shut w w' = w' ≡ w
Answers s k h (sending e) (sent n put dropped) w w' = IsReadAt h w n × (put + dropped ≡ length (hits (take n h) e)) × (w' ≡ having_seen n w)
Answers s k h (sending e) no_memory w w' = w' ≡ w
Answers s k h (sending e) shut w w' = w' ≡ w
-- a note's n is what its sender had seen, and tells this session nothing
Answers s k h (fetching max) (notes letters) w w' = (length letters ≤ max) × All (IsNoteFor k h) letters × (w' ≡ w)
Answers s k h dumping (dumped n rows) w w' = IsReadAt h w n × (rows ≡ live_rows (take n h)) × (w' ≡ having_seen n w)
Answers s k h dumping no_memory w w' = w' ≡ w
Answers s k h dumping shut w w' = w' ≡ w
Answers s k h (tailing place max) (tailed n start entries) w w' = IsReadAt h w n × (start ≡ place) × (entries ≡ tail_from place max (take n h)) × (w' ≡ having_seen n w)
Answers s k h (tailing place max) no_memory w w' = w' ≡ w
Answers s k h (tailing place max) shut w w' = w' ≡ w
Answers s k h quit (bye n) w w' = IsAcceptedAt k h w quit n × (w' ≡ having_left w)
Answers s k h quit (held n) w w' = IsAcceptedAt k h w quit n × (w' ≡ having_ended (having_changed n w))
Answers s k h quit no_memory w w' = w' ≡ having_ended w
Answers s k h quit (split a b) w w' = IsSplit w a b × (w' ≡ having_ended w)
Answers s k h _ _ w w' = ⊥

-- each request is answered in turn, until the session ends
abbrev pub IsLegal : Attributes → ℕ → List Entry → List Exchange → Walk → Walk → Type 0
IsLegal s k h [] w w' = w' ≡ w
IsLegal s k h (p ∷ ps) w w' = (w.ended ≡ false) × (next : Walk) × Answers s k h p.0 p.1 w next × IsLegal s k h ps next w'

-- the place of the change that the reply accepts
abbrev pub place_accepted : Reply → List ℕ
place_accepted (ok n) = (n - 1) ∷ []
place_accepted (held n) = (n - 1) ∷ []
place_accepted (bye n) = (n - 1) ∷ []
place_accepted _ = []

-- the places of the changes that were answered as accepted
abbrev pub accepted : List Exchange → List ℕ
accepted [] = []
accepted (p ∷ ps) = place_accepted p.1 ++ accepted ps

-- the session's Bye stands, unanswered, at this place, after all that the session has seen and changed
pub record LeftSilently (k : ℕ) (h : List Entry) (w : Walk) (place : ℕ) : Type 0 where
  pub present : w.ended ≡ false
  pub stands : slice_get h place ≡ Some (left k w.serial)
  pub later : w.seen ≤ place
  pub later_own : w.own ≤ place

-- the session's entries are its accepted changes, in this order; where it ended by no line, one Bye may follow them
abbrev pub HasOnly : ℕ → List Entry → List Exchange → Walk → Type 0
HasOnly k h ps w =
    (places_of k h ≡ accepted ps) ⊎ ((place : ℕ) × LeftSilently k h w place × (places_of k h ≡ accepted ps ++ place ∷ []))

-- all of a session: its lines with their replies, over a list whose first z entries it was told of before
pub record IsLegalSession (s : Attributes) (k z : ℕ) (h : List Entry) (ps : List Exchange) : Type 0 where
  pub end : Walk
  pub legal : IsLegal s k h ps (beginning_at z) end
  pub only : HasOnly k h ps end
