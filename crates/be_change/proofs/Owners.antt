-- Whose rows are live: those of sessions that have entries.
use Rattle.std.proofs.Common.{◌≡◌, ℕ, Bool, true, false, not, ◌&&◌, cond, List, [], ◌∷◌, length, refl, sym, ap, ◌∙◌}
use Rattle.std.specs.Prelude.{filter}
use Rattle.std.specs.List.{list_all}
use Rattle.std.proofs.lemmas.Bool.{and_parts, and_from}
use Rattle.std.proofs.lemmas.List.Folds.{list_all-append}
use Rattle.be_change.specs.History.{Entry, subscribed, unsubscribed, left, session_of, ByIds, live, after_entry, is_of, has_name, IsWellFormed, MayFollow}
use Rattle.be_change.proofs.Grows.{live-append}
use Rattle.be_change.proofs.Forms.{formed_induction}

-- what holds of all rows holds of those that are left
pub list_all-filter : {X : Type 0} (p q : X → Bool) (xs : List X) → list_all q xs ≡ true → list_all q (filter p xs) ≡ true
list_all-filter p q [] e = refl
list_all-filter {X} p q (x ∷ xs) e =
    let both = and_parts (q x) (list_all q xs) e in
    all_if (p x) x (filter p xs) both.0 (list_all-filter p q xs both.1)
  where
    all_if : (b : Bool) (r : X) (l : List X) → q r ≡ true → list_all q l ≡ true → list_all q (cond b (r ∷ l) l) ≡ true
    all_if true r l e f = and_from (q r) (list_all q l) e f
    all_if false r l e f = f

-- the session of each row passes the test
abbrev all_of : (ℕ → Bool) → ByIds → Bool
all_of p m = list_all (λ r. p r.1.session.0) m

-- and that of each entry
abbrev all_by : (ℕ → Bool) → List Entry → Bool
all_by p h = list_all (λ e. p (session_of e)) h

owned_after : (p : ℕ → Bool) (h : List Entry) (e : Entry) → MayFollow h e → p (session_of e) ≡ true → all_of p (live h) ≡ true → all_of p (after_entry (live h) (length h) e) ≡ true
owned_after p h (subscribed k n row) m of all =
    list_all-append (λ r. p r.1.session.0) (live h) ((length h, row) ∷ [])
    ∙ and_from (all_of p (live h)) (all_of p ((length h, row) ∷ [])) all (and_from (p row.session.0) true (ap p m.allowed.2 ∙ of) refl)
owned_after p h (unsubscribed k n name) m of all = list_all-filter (λ r. not (is_of k r && has_name name r)) (λ r. p r.1.session.0) (live h) all
owned_after p h (left k n) m of all = list_all-filter (λ r. not (is_of k r)) (λ r. p r.1.session.0) (live h) all

abbrev IsOwned : (ℕ → Bool) → List Entry → Type 0
IsOwned p h = all_by p h ≡ true → all_of p (live h) ≡ true

-- a live row's session has an entry: what holds of the session of each entry holds of that of each live row
pub live_owned : (p : ℕ → Bool) (h : List Entry) → IsWellFormed h → list_all (λ e. p (session_of e)) h ≡ true → list_all (λ r. p r.1.session.0) (live h) ≡ true
live_owned p h w =
    formed_induction (IsOwned p) h w (λ a. refl)
    (λ g e f m owned a.
    let both = and_parts (all_by p g) (all_by p (e ∷ [])) (sym (list_all-append (λ x. p (session_of x)) g (e ∷ [])) ∙ a) in
    ap (all_of p) (live-append g e) ∙ owned_after p g e m (and_parts (p (session_of e)) true both.1).0 (owned both.0))
