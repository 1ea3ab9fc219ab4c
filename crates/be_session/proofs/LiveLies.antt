-- Where all changes lie in a schema, so do the live rows, and each part of the list.
use Rattle.std.proofs.Common.{◌≡◌, ℕ, ◌+◌, Bool, true, false, not, ◌&&◌, List, [], ◌∷◌, take, drop, refl, sym, ap, ◌∙◌}
use Rattle.std.specs.Prelude.{All}
use Rattle.std.specs.List.{list_all}
use Rattle.std.proofs.lemmas.List.{take-append-drop}
use Rattle.std.proofs.lemmas.List.Folds.{list_all-append, list_all-map}
use Rattle.std.proofs.lemmas.List.Sums.{AllPass-from_list_all}
use Rattle.be_model.specs.declared.changes.Row.{Row}
use Rattle.be_model.specs.ByIds.{ByIds, is_of}
use Rattle.be_model.specs.Lies.{row_lies, entry_lies}
use Rattle.be_model.specs.Schemas.{Attributes}
use Rattle.be_change.specs.History.{Entry, subscribed, unsubscribed, left, after_entry, live_from, live, has_name}
use Rattle.be_change.specs.Sound.{all_lie}
use Rattle.be_change.specs.Walk.{live_rows, tail_from}
use Rattle.be_change.proofs.Owners.{list_all-filter}

parts : (a b : Bool) → (a && b) ≡ true → (a ≡ true) × (b ≡ true)
parts true b e = (refl, e)
parts false b e = absurd cc

after_lies : (s : Attributes) (l : ByIds) (id : ℕ) (e : Entry) → list_all (λ (r : ℕ × Row). row_lies s r.1) l ≡ true → entry_lies s e ≡ true → list_all (λ (r : ℕ × Row). row_lies s r.1) (after_entry l id e) ≡ true
after_lies s l id (subscribed k n row) all lies = list_all-append (λ (r : ℕ × Row). row_lies s r.1) l ((id, row) ∷ []) ∙ rw (all, lies) refl
after_lies s l id (unsubscribed k n name) all lies = list_all-filter (λ (r : ℕ × Row). not (is_of k r && has_name name r)) (λ (r : ℕ × Row). row_lies s r.1) l all
after_lies s l id (left k n) all lies = list_all-filter (λ (r : ℕ × Row). not (is_of k r)) (λ (r : ℕ × Row). row_lies s r.1) l all

live_lies_from : (s : Attributes) (l : ByIds) (id : ℕ) (h : List Entry) → list_all (λ (r : ℕ × Row). row_lies s r.1) l ≡ true → all_lie s h ≡ true → list_all (λ (r : ℕ × Row). row_lies s r.1) (live_from l id h) ≡ true
live_lies_from s l id [] all lies = all
live_lies_from s l id (e ∷ es) all lies =
    let p = parts (entry_lies s e) (all_lie s es) lies in
    live_lies_from s (after_entry l id e) (id + 1) es (after_lies s l id e all p.0) p.1

-- each live row
pub live_lies : (s : Attributes) (h : List Entry) → all_lie s h ≡ true → All (λ (row : Row). row_lies s row ≡ true) (live_rows h)
live_lies s h lies =
    AllPass-from_list_all (row_lies s) (live_rows h) (list_all-map (row_lies s) (λ (r : ℕ × Row). r.1) (live h) ∙ live_lies_from s [] 0 h refl lies)

front_lies : (s : Attributes) (n : ℕ) (h : List Entry) → all_lie s h ≡ true → (all_lie s (take n h) ≡ true) × (all_lie s (drop n h) ≡ true)
front_lies s n h lies =
    parts (all_lie s (take n h)) (all_lie s (drop n h)) (sym (list_all-append (entry_lies s) (take n h) (drop n h)) ∙ (ap (all_lie s) (take-append-drop n h) ∙ lies))

-- the changes from a place on
pub tail_lies : (s : Attributes) (place max : ℕ) (h : List Entry) → all_lie s h ≡ true → all_lie s (tail_from place max h) ≡ true
tail_lies s place max h lies = (front_lies s max (drop place h) (front_lies s place h lies).1).0
