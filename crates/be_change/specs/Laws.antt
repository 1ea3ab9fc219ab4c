-- What a reader may rely on of each list of changes.
use Rattle.std.specs.Prelude.{◌≡◌, ℕ, ◌≤◌, ◌↔◌, ◌||◌, true, List, [], ◌∷◌, ◌++◌, length, map, take, All, Some, slice_get}
use Rattle.std.specs.List.{list_all}
use Rattle.be_base.specs.declared.limits.TheConstants.{BOX_LETTERS}
use Rattle.be_model.specs.declared.changes.Row.{Row}
use Rattle.be_model.specs.Schemas.{Attributes}
use Rattle.be_model.specs.Matching.{Assignments, satisfied}
use Rattle.be_model.specs.ByIds.{rows_of}
use Rattle.be_change.specs.History.{Text, Entry, unsubscribed, left, session_of, serial_of, is_of, is_opening, entries_of, places_of, placed_of, live, after_entry, hit_rows, hits, names_of, Opens, MayFollow, IsWellFormed}
use Rattle.be_change.specs.Requests.{Note, Exchange}
use Rattle.be_change.specs.Walk.{Walk, IsLegal, IsLegalSession, IsNoteFor, names_of_session, live_rows}
use Rattle.be_change.specs.LiveRows.{AllBelow, Rising, SayIds, all_differ, LosesOne}
use Rattle.be_change.specs.Box.{with_letters, KeepsBox}
use Rattle.be_change.specs.Opening.{IsTable, opening_of, by_place}

-- a list is well formed exactly where each entry may follow those before it
abbrev pub FormIsByPlace : Type 0
FormIsByPlace = (h : List Entry) → IsWellFormed h ↔ ((i : ℕ) (e : Entry) → slice_get h i ≡ Some e → MayFollow (take i h) e)

-- one more entry that may follow keeps a list well formed
abbrev pub FormIsKept : Type 0
FormIsKept = (h : List Entry) (e : Entry) → IsWellFormed h → MayFollow h e → IsWellFormed (h ++ e ∷ [])

-- a beginning of a well formed list is well formed
abbrev pub BeginningsAreFormed : Type 0
BeginningsAreFormed = (h more : List Entry) → IsWellFormed (h ++ more) → IsWellFormed h

-- the serials of a session are 0, 1, 2, .. in their order
abbrev pub SerialsCount : Type 0
SerialsCount =
    (h : List Entry) (k i : ℕ) (e : Entry) → IsWellFormed h → slice_get (entries_of k h) i ≡ Some e → serial_of e ≡ i

-- after a session's Bye there is no entry of that session
abbrev pub ByeIsLast : Type 0
ByeIsLast = (h more : List Entry) (k n : ℕ) → IsWellFormed (h ++ left k n ∷ more) → entries_of k more ≡ []

-- what a session's entries with their places are: its places, its entries, and each stands in the list at its place
pub record IsPlaced (k : ℕ) (h : List Entry) : Type 0 where
  pub places : map (λ (p : ℕ × Entry). p.0) (placed_of k h) ≡ places_of k h
  pub entries : map (λ (p : ℕ × Entry). p.1) (placed_of k h) ≡ entries_of k h
  pub stand : All (λ (p : ℕ × Entry). slice_get h p.0 ≡ Some p.1) (placed_of k h)

abbrev pub EntriesArePlaced : Type 0
EntriesArePlaced = (k : ℕ) (h : List Entry) → IsPlaced k h

-- other sessions' entries leave a session's where they are
abbrev pub PlacesAreKept : Type 0
PlacesAreKept = (k : ℕ) (h more : List Entry) → places_of k more ≡ [] → placed_of k (h ++ more) ≡ placed_of k h

-- live ids are places in the list, and rise
abbrev pub LiveIdsRise : Type 0
LiveIdsRise = (h : List Entry) → AllBelow (length h) (live h) × Rising (live h)

-- each live row says its id, and the names of live rows differ
abbrev pub LiveNamesDiffer : Type 0
LiveNamesDiffer = (h : List Entry) → IsWellFormed h → SayIds (live h) × (all_differ (names_of (live h)) ≡ true)

-- an Unsub removes exactly one row, of its session and of its name
abbrev pub UnsubRemovesOne : Type 0
UnsubRemovesOne =
    (h : List Entry) (k n : ℕ) (name : Text) → IsWellFormed h → MayFollow h (unsubscribed k n name) → LosesOne (live h) (live (h ++ unsubscribed k n name ∷ [])) k name

-- what is live after the first n entries, and what is found there, doesn't depend on what follows
abbrev pub BeginningsStay : Type 0
BeginningsStay =
    (h more : List Entry) (n : ℕ) → n ≤ length h
    → (live (take n (h ++ more)) ≡ live (take n h))
    × ((e : Assignments) → hits (take n (h ++ more)) e ≡ hits (take n h) e)
    × ((k : ℕ) → names_of_session k (take n (h ++ more)) ≡ names_of_session k (take n h))

-- a legal session stays legal, whatever other sessions add to the list
abbrev pub LegalIsKept : Type 0
LegalIsKept =
    (s : Attributes) (k z : ℕ) (h more : List Entry) (ps : List Exchange) → places_of k more ≡ [] → IsLegalSession s k z h ps → IsLegalSession s k z (h ++ more) ps

-- a session that is legal though it was told of z entries before it is legal where it was told of fewer
abbrev pub LegalFromBelow : Type 0
LegalFromBelow = (s : Attributes) (k y z : ℕ) (h : List Entry) (ps : List Exchange) → y ≤ z → IsLegalSession s k z h ps → IsLegalSession s k y h ps

-- what a session was told, and where its last change stands, doesn't fall, and stays within the list
pub record NumbersRise (h : List Entry) (w w' : Walk) : Type 0 where
  pub seen : w.seen ≤ w'.seen
  pub own : w.own ≤ w'.own
  pub seen_within : w.seen ≤ length h → w'.seen ≤ length h
  pub own_within : w.own ≤ length h → w'.own ≤ length h

abbrev pub ToldNumbersRise : Type 0
ToldNumbersRise =
    (s : Attributes) (k : ℕ) (h : List Entry) (ps : List Exchange) (w w' : Walk) → IsLegal s k h ps w w' → NumbersRise h w w'

-- what is live after one more entry: a Sub adds its row at its place, an Unsub takes away the rows of its name and
-- session, a Bye those of its session
abbrev pub LiveGrows : Type 0
LiveGrows = (h : List Entry) (e : Entry) → live (h ++ e ∷ []) ≡ after_entry (live h) (length h) e

-- replies that are legal over a list are legal over each longer one
abbrev pub WalkIsKept : Type 0
WalkIsKept =
    (s : Attributes) (k : ℕ) (h more : List Entry) (ps : List Exchange) (w w' : Walk) → IsLegal s k h ps w w' → IsLegal s k (h ++ more) ps w w'

-- an entry of session 0 is a Sub, and every entry before it is of session 0
abbrev pub OpeningIsFirst : Type 0
OpeningIsFirst = (h more : List Entry) (e : Entry) → IsWellFormed (h ++ e ∷ more) → session_of e ≡ 0 → Opens h e

-- a table opens a well formed list of session 0 alone, in which each of its rows is live at its place
pub record IsOpened (rows : List Row) : Type 0 where
  pub formed : IsWellFormed (opening_of rows)
  pub alone : list_all is_opening (opening_of rows) ≡ true
  pub live : live (opening_of rows) ≡ by_place 0 rows

abbrev pub TablesOpen : Type 0
TablesOpen = (rows : List Row) → IsTable rows → IsOpened rows

-- the rows that an event hits are the live rows that it satisfies, in their order, and it has a name for each
abbrev pub HitsAreSatisfied : Type 0
HitsAreSatisfied =
    (h : List Entry) (e : Assignments) → (rows_of (hit_rows h e) ≡ satisfied e (live_rows h)) × (length (hits h e) ≡ length (satisfied e (live_rows h)))

-- a box never holds more letters than it may
abbrev pub BoxIsWithin : Type 0
BoxIsWithin =
    (h : List Entry) (ps : List Exchange) (box box' : List Note) → KeepsBox h ps box box' → length box ≤ BOX_LETTERS → length box' ≤ BOX_LETTERS

-- letters that a session's own event puts into its box are letters for it, where all rows are its own or of the opening
abbrev pub LettersAreNotes : Type 0
LettersAreNotes =
    (k n : ℕ) (h : List Entry) (e : Assignments) (box : List Note) → n ≤ length h
    → list_all (λ r. is_of 0 r || is_of k r) (live (take n h)) ≡ true
    → All (IsNoteFor k h) box → All (IsNoteFor k h) (with_letters n e (hit_rows (take n h) e) box)
