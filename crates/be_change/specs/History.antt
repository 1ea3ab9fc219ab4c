-- The list of changes as plain data: what is live after it, and when it is well formed.
use Rattle.std.specs.Prelude.{◌≡◌, ℕ, ◌+◌, ◌==◌, ◌&&◌, Bool, true, false, not, List, [], ◌∷◌, ◌++◌, length, map, filter, if◌then◌else◌}
use Rattle.std.specs.List.{list_any, list_all}
use Rattle.be_base.specs.declared.limits.TheConstants.{COUNT_END}
pub use Rattle.be_base.specs.Text.{Text, same_text}
pub use Rattle.be_model.specs.Entries.{Entry, subscribed, unsubscribed, left}
use Rattle.be_model.specs.declared.changes.Row.{Row}
pub use Rattle.be_model.specs.ByIds.{ByIds, row_at, is_of}
use Rattle.be_model.specs.Matching.{Assignments, satisfies}

abbrev pub session_of : Entry → ℕ
session_of (subscribed k n row) = k
session_of (unsubscribed k n name) = k
session_of (left k n) = k

abbrev pub serial_of : Entry → ℕ
serial_of (subscribed k n row) = n
serial_of (unsubscribed k n name) = n
serial_of (left k n) = n

abbrev pub is_leave_of : ℕ → Entry → Bool
is_leave_of k (left j n) = j == k
is_leave_of k (subscribed j n row) = false
is_leave_of k (unsubscribed j n name) = false

-- the entries of one session, in order
abbrev pub entries_of : ℕ → List Entry → List Entry
entries_of k h = filter (λ e. session_of e == k) h

abbrev pub has_left : ℕ → List Entry → Bool
has_left k h = list_any (is_leave_of k) h

-- where a session stands: how many entries it has, or 2^63 where it has left
abbrev pub stand : ℕ → List Entry → ℕ
stand k h = if has_left k h then COUNT_END else length (entries_of k h)

-- the places of one session's entries, where the list begins at this place
abbrev pub places_from : ℕ → ℕ → List Entry → List ℕ
places_from k place [] = []
places_from k place (e ∷ es) =
    if session_of e == k then place ∷ places_from k (place + 1) es else places_from k (place + 1) es

abbrev pub places_of : ℕ → List Entry → List ℕ
places_of k h = places_from k 0 h

-- the entries of one session, each with its place, where the list begins at this place
abbrev pub placed_from : ℕ → ℕ → List Entry → List (ℕ × Entry)
placed_from k place [] = []
placed_from k place (e ∷ es) =
    if session_of e == k then (place, e) ∷ placed_from k (place + 1) es else placed_from k (place + 1) es

abbrev pub placed_of : ℕ → List Entry → List (ℕ × Entry)
placed_of k h = placed_from k 0 h

abbrev pub has_name : Text → ℕ × Row → Bool
has_name name r = same_text r.1.name name

-- the live rows after one more entry, which stands at place `id`
abbrev pub after_entry : ByIds → ℕ → Entry → ByIds
after_entry l id (subscribed k n row) = l ++ (id, row) ∷ []
after_entry l id (unsubscribed k n name) = filter (λ r. not (is_of k r && has_name name r)) l
after_entry l id (left k n) = filter (λ r. not (is_of k r)) l

abbrev pub live_from : ByIds → ℕ → List Entry → ByIds
live_from l id [] = l
live_from l id (e ∷ es) = live_from (after_entry l id e) (id + 1) es

-- the rows that are live after these changes
abbrev pub live : List Entry → ByIds
live h = live_from [] 0 h

abbrev pub is_live_name : Text → ByIds → Bool
is_live_name name l = list_any (has_name name) l

abbrev pub is_live_name_of : ℕ → Text → ByIds → Bool
is_live_name_of k name l = list_any (λ r. is_of k r && has_name name r) l

abbrev pub names_of : ByIds → List Text
names_of l = map (λ (r : ℕ × Row). r.1.name) l

-- the live rows that the event satisfies, by rising id
abbrev pub hit_rows : List Entry → Assignments → ByIds
hit_rows h e = filter (λ (r : ℕ × Row). satisfies e r.1.conj) (live h)

-- their names
abbrev pub hits : List Entry → Assignments → List Text
hits h e = names_of (hit_rows h e)

abbrev pub is_sub : Entry → Bool
is_sub (subscribed k n row) = true
is_sub (unsubscribed k n name) = false
is_sub (left k n) = false

-- session 0 is nobody: its entries are the opening of the list
abbrev pub is_opening : Entry → Bool
is_opening e = session_of e == 0

-- the entry is a Sub, and every entry before it is of session 0
pub record Opens (h : List Entry) (e : Entry) : Type 0 where
  pub sub : is_sub e ≡ true
  pub first : list_all is_opening h ≡ true

-- what an entry's kind asks of the list before it
abbrev pub IsAllowed : List Entry → Entry → Type 0
IsAllowed h (subscribed k n row) =
    (is_live_name row.name (live h) ≡ false) × (row.id.0 ≡ length h) × (row.session.0 ≡ k)
IsAllowed h (unsubscribed k n name) = is_live_name_of k name (live h) ≡ true
IsAllowed h (left k n) = Unit {0}

-- the entry may follow the list: where it is of session 0 it belongs to the opening, it has its session's next serial,
-- its session hasn't left, and its kind is allowed
pub record MayFollow (h : List Entry) (e : Entry) : Type 0 where
  pub opening : session_of e ≡ 0 → Opens h e
  pub serial : serial_of e ≡ length (entries_of (session_of e) h)
  pub present : has_left (session_of e) h ≡ false
  pub allowed : IsAllowed h e

abbrev pub IsWellFormedAfter : List Entry → List Entry → Type 0
IsWellFormedAfter h [] = Unit {0}
IsWellFormedAfter h (e ∷ es) = MayFollow h e × IsWellFormedAfter (h ++ e ∷ []) es

abbrev pub IsWellFormed : List Entry → Type 0
IsWellFormed h = IsWellFormedAfter [] h
