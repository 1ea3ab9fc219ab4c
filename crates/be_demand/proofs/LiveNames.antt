-- Where no name in a list of changes has an LF, none of a live row has one.
use Rattle.std.proofs.Common.{◌≡◌, ℕ, ◌+◌, ◌&&◌, ◌==◌, Bool, true, false, not, cond, List, [], ◌∷◌, take, drop, Some, filter, refl, sym, ap, ◌∙◌}
use Rattle.std.specs.List.{list_all}
use Rattle.std.proofs.lemmas.Bool.{and_parts, and_from}
use Rattle.std.proofs.lemmas.List.{take-append-drop}
use Rattle.std.proofs.lemmas.List.Folds.{list_all-append, list_all-map}
use Rattle.be_model.specs.declared.changes.Row.{Row}
use Rattle.be_model.specs.ByIds.{ByIds, is_of, row_at}
use Rattle.be_change.specs.History.{Entry, subscribed, unsubscribed, left, after_entry, live_from, live, has_name, names_of}
use Rattle.be_change.specs.Walk.{live_rows, tail_from}
use Rattle.be_change.proofs.Owners.{list_all-filter}
use Rattle.be_demand.specs.Texts.{is_whole}
use Rattle.be_demand.specs.Whole.{entry_is_whole, changes_are_whole}

abbrev pub row_is_whole : ℕ × Row → Bool
row_is_whole r = is_whole r.1.name

after_whole : (l : ByIds) (id : ℕ) (e : Entry) → list_all row_is_whole l ≡ true → entry_is_whole e ≡ true → list_all row_is_whole (after_entry l id e) ≡ true
after_whole l id (subscribed k n row) all whole =
    list_all-append row_is_whole l ((id, row) ∷ []) ∙ and_from (list_all row_is_whole l) (list_all row_is_whole ((id, row) ∷ [])) all (and_from (is_whole row.name) true whole refl)
after_whole l id (unsubscribed k n name) all whole = list_all-filter (λ (r : ℕ × Row). not (is_of k r && has_name name r)) row_is_whole l all
after_whole l id (left k n) all whole = list_all-filter (λ (r : ℕ × Row). not (is_of k r)) row_is_whole l all

live_from_whole : (l : ByIds) (id : ℕ) (h : List Entry) → list_all row_is_whole l ≡ true → changes_are_whole h ≡ true → list_all row_is_whole (live_from l id h) ≡ true
live_from_whole l id [] all whole = all
live_from_whole l id (e ∷ es) all whole =
    let p = and_parts (entry_is_whole e) (changes_are_whole es) whole in
    live_from_whole (after_entry l id e) (id + 1) es (after_whole l id e all p.0) p.1

parts_whole : (n : ℕ) (h : List Entry) → changes_are_whole h ≡ true → (changes_are_whole (take n h) ≡ true) × (changes_are_whole (drop n h) ≡ true)
parts_whole n h whole =
    and_parts (changes_are_whole (take n h)) (changes_are_whole (drop n h)) (sym (list_all-append entry_is_whole (take n h) (drop n h)) ∙ (ap changes_are_whole (take-append-drop n h) ∙ whole))

-- the rows that are live after a beginning
pub live_whole : (n : ℕ) (h : List Entry) → changes_are_whole h ≡ true → list_all row_is_whole (live (take n h)) ≡ true
live_whole n h whole = live_from_whole [] 0 (take n h) refl (parts_whole n h whole).0

-- the names of some of them
pub names_whole : (p : ℕ × Row → Bool) (l : ByIds) → list_all row_is_whole l ≡ true → list_all is_whole (names_of (filter p l)) ≡ true
names_whole p l all = list_all-map is_whole (λ (r : ℕ × Row). r.1.name) (filter p l) ∙ list_all-filter p row_is_whole l all

pub rows_whole : (n : ℕ) (h : List Entry) → changes_are_whole h ≡ true → list_all (λ (row : Row). is_whole row.name) (live_rows (take n h)) ≡ true
rows_whole n h whole = list_all-map (λ (row : Row). is_whole row.name) (λ (r : ℕ × Row). r.1) (live (take n h)) ∙ live_whole n h whole

-- the row of an id
pub row_whole : (id : ℕ) (l : ByIds) (row : Row) → list_all row_is_whole l ≡ true → row_at id l ≡ Some row → is_whole row.name ≡ true
row_whole id [] row all e = absurd (cc)
row_whole id (r ∷ rs) row all e =
    let p = and_parts (row_is_whole r) (list_all row_is_whole rs) all in
    by_test (r.0 == id) e p.0 (λ f. row_whole id rs row p.1 f)
  where
    by_test : (b : Bool) → cond b (Some r.1) (row_at id rs) ≡ Some row → row_is_whole r ≡ true → (row_at id rs ≡ Some row → is_whole row.name ≡ true) → is_whole row.name ≡ true
    by_test true e here later = let same : r.1 ≡ row = cc in ap (λ (x : Row). is_whole x.name) (sym same) ∙ here
    by_test false e here later = later e

-- the changes from a place on
pub tail_whole : (place max n : ℕ) (h : List Entry) → changes_are_whole h ≡ true → changes_are_whole (tail_from place max (take n h)) ≡ true
tail_whole place max n h whole = (parts_whole max (drop place (take n h)) (parts_whole place (take n h) (parts_whole n h whole).0).1).0
