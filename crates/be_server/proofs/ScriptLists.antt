-- The list of changes that a workload's subscriptions make, and what is live in it.
use Rattle.std.proofs.Common.{◌≡◌, ℕ, suc, ◌+◌, ◌^◌, ◌<◌, ◌≤◌, false, List, [], ◌∷◌, ◌++◌, length, append_assoc, append-nil, refl, sym, ap, ◌∙◌, arith, decimal}
use Rattle.std.specs.List.{list_any}
use Rattle.std.proofs.lemmas.Bool.{false_from_ne_true}
use Rattle.std.proofs.lemmas.Fmt.{decimal_injective}
use Rattle.be_base.specs.Text.{same_text}
use Rattle.be_base.proofs.SameText.{equal_from_same_text}
use Rattle.be_model.specs.declared.changes.Row.{Row}
use Rattle.be_model.specs.declared.preds.Pred.{Pred}
use Rattle.be_model.specs.ByIds.{ByIds, rows_of}
use Rattle.be_model.specs.Matching.{Assignments}
use Rattle.be_change.specs.History.{Entry, subscribed, live, live_from, is_leave_of, placed_from, is_live_name}
use Rattle.be_change.specs.Made.{row_made, change_named}
use Rattle.be_change.specs.Requests.{subscribe}
use Rattle.be_change.specs.Walk.{live_rows}
use Rattle.be_workload.specs.Asked.{name_of_sub, subscriptions_to, publishing}
use Rattle.be_board.specs.LocalCopy.{local_word}
use Rattle.be_board.specs.Word.{own_of, own_in}
use Rattle.be_server.specs.Sums.{rows_subscribed, published, costed}

-- from this place on
abbrev pub list_of : ℕ → List (List Pred) → List Entry
list_of place [] = []
list_of place (conj ∷ conjs) = subscribed 1 place (row_made 1 place (name_of_sub place) conj) ∷ list_of (place + 1) conjs

abbrev pub ids_of : ℕ → List (List Pred) → ByIds
ids_of place [] = []
ids_of place (conj ∷ conjs) = (place, row_made 1 place (name_of_sub place) conj) ∷ ids_of (place + 1) conjs

abbrev pub rows_made : ℕ → List (List Pred) → List Row
rows_made place [] = []
rows_made place (conj ∷ conjs) = row_made 1 place (name_of_sub place) conj ∷ rows_made (place + 1) conjs

next : (n m : ℕ) → (n + 1) + m ≡ n + suc m
next n m = omega arith

pub length-list_of : (place : ℕ) (conjs : List (List Pred)) → length (list_of place conjs) ≡ length conjs
length-list_of place [] = refl
length-list_of place (conj ∷ conjs) = ap (λ (n : ℕ). suc n) (length-list_of (place + 1) conjs)

pub length-rows_made : (place : ℕ) (conjs : List (List Pred)) → length (rows_made place conjs) ≡ length conjs
length-rows_made place [] = refl
length-rows_made place (conj ∷ conjs) = ap (λ (n : ℕ). suc n) (length-rows_made (place + 1) conjs)

-- one more subscription
pub list_of-snoc : (place : ℕ) (conjs : List (List Pred)) (conj : List Pred)
    → list_of place (conjs ++ conj ∷ []) ≡ list_of place conjs ++ change_named 1 (place + length conjs) (place + length conjs) (subscribe (name_of_sub (place + length conjs)) conj)
list_of-snoc place [] conj = ap (λ (n : ℕ). change_named 1 n n (subscribe (name_of_sub n) conj)) (none place)
  where
    none : (n : ℕ) → n ≡ n + 0
    none n = omega arith
list_of-snoc place (c ∷ conjs) conj =
    let first : Entry = subscribed 1 place (row_made 1 place (name_of_sub place) c) in
    ap (λ (h : List Entry). first ∷ h) (list_of-snoc (place + 1) conjs conj)
    ∙ ap (λ (n : ℕ). first ∷ (list_of (place + 1) conjs ++ change_named 1 n n (subscribe (name_of_sub n) conj))) (next place (length conjs))

live_from-list_of : (l : ByIds) (place : ℕ) (conjs : List (List Pred)) → live_from l place (list_of place conjs) ≡ l ++ ids_of place conjs
live_from-list_of l place [] = sym (append-nil l)
live_from-list_of l place (conj ∷ conjs) =
    let row = row_made 1 place (name_of_sub place) conj in
    live_from-list_of (l ++ (place, row) ∷ []) (place + 1) conjs ∙ append_assoc l ((place, row) ∷ []) (ids_of (place + 1) conjs)

rows_of-ids_of : (place : ℕ) (conjs : List (List Pred)) → rows_of (ids_of place conjs) ≡ rows_made place conjs
rows_of-ids_of place [] = refl
rows_of-ids_of place (conj ∷ conjs) = ap (λ (rows : List Row). row_made 1 place (name_of_sub place) conj ∷ rows) (rows_of-ids_of (place + 1) conjs)

-- each of its rows is live
pub live_rows-list_of : (conjs : List (List Pred)) → live_rows (list_of 0 conjs) ≡ rows_made 0 conjs
live_rows-list_of conjs = ap rows_of (live_from-list_of [] 0 conjs) ∙ rows_of-ids_of 0 conjs

names_differ : (m n : ℕ) → m < n → n < 2 ^ 64 → same_text (name_of_sub m) (name_of_sub n) ≡ false
names_differ m n less small =
    false_from_ne_true (same_text (name_of_sub m) (name_of_sub n)) (λ same.
    let texts : name_of_sub m ≡ name_of_sub n = equal_from_same_text (name_of_sub m) (name_of_sub n) same in
    let digits : decimal m ≡ decimal n = cc in
    let equal = decimal_injective m n (omega arith) small digits in
    omega arith)

no_name : (n place : ℕ) (conjs : List (List Pred)) → place + length conjs ≤ n → n < 2 ^ 64 → is_live_name (name_of_sub n) (ids_of place conjs) ≡ false
no_name n place [] later small = refl
no_name n place (conj ∷ conjs) later small =
    rw (names_differ place n (omega arith) small) (no_name n (place + 1) conjs (omega arith) small)

-- the next name is new
pub name_is_new : (conjs : List (List Pred)) → length conjs < 2 ^ 64 → is_live_name (name_of_sub (length conjs)) (live (list_of 0 conjs)) ≡ false
name_is_new conjs small =
    ap (is_live_name (name_of_sub (length conjs))) (live_from-list_of [] 0 conjs) ∙ no_name (length conjs) 0 conjs (omega arith) small

-- the session goes on
pub list_goes_on : (n place : ℕ) (conjs : List (List Pred)) → list_any (λ (p : ℕ × Entry). is_leave_of 1 p.1) (placed_from 1 n (list_of place conjs)) ≡ false
list_goes_on n place [] = refl
list_goes_on n place (conj ∷ conjs) = list_goes_on (n + 1) (place + 1) conjs

-- each entry is its own
serials_from : (n place : ℕ) (conjs : List (List Pred)) → length (own_of 1 (placed_from 1 n (list_of place conjs))) ≡ length conjs
serials_from n place [] = refl
serials_from n place (conj ∷ conjs) = ap (λ (m : ℕ). suc m) (serials_from (n + 1) (place + 1) conjs)

pub serial-list_of : (place : ℕ) (conjs : List (List Pred)) → length (own_in (local_word (list_of place conjs))) ≡ length conjs
serial-list_of place conjs = serials_from 0 place conjs

no_rows : (place : ℕ) (es : List Assignments) → rows_subscribed place (publishing es) ≡ []
no_rows place [] = refl
no_rows place (e ∷ es) = no_rows place es

-- the rows of a script are those of its subscriptions
pub rows-script : (place : ℕ) (conjs : List (List Pred)) (es : List Assignments) → rows_subscribed place (subscriptions_to place conjs ++ publishing es) ≡ rows_made place conjs
rows-script place [] es = no_rows place es
rows-script place (conj ∷ conjs) es = ap (λ (rows : List Row). row_made 1 place (name_of_sub place) conj ∷ rows) (rows-script (place + 1) conjs es)

pub published-events : (es : List Assignments) → published (publishing es) ≡ es
published-events [] = refl
published-events (e ∷ es) = ap (λ (xs : List Assignments). e ∷ xs) (published-events es)

pub costed-events : (es : List Assignments) → costed (publishing es) ≡ es
costed-events [] = refl
costed-events (e ∷ es) = ap (λ (xs : List Assignments). e ∷ xs) (costed-events es)

-- and its events are those that are published, and asked for
pub published-script : (place : ℕ) (conjs : List (List Pred)) (es : List Assignments) → published (subscriptions_to place conjs ++ publishing es) ≡ es
published-script place [] es = published-events es
published-script place (conj ∷ conjs) es = published-script (place + 1) conjs es

pub costed-script : (place : ℕ) (conjs : List (List Pred)) (es : List Assignments) → costed (subscriptions_to place conjs ++ publishing es) ≡ es
costed-script place [] es = costed-events es
costed-script place (conj ∷ conjs) es = costed-script (place + 1) conjs es
