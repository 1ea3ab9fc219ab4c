-- The places and ids of changes, and counts over the list.
use Rattle.std.proofs.Common.{◌≡◌, ℕ, suc, ◌+◌, ◌≤◌, ◌==◌, Bool, true, false, cond, ◌||◌, List, [], ◌∷◌, ◌++◌, length, refl, sym, ap, ◌∙◌, subst, arith, zero-add, length-append, eq-eqb}
use Rattle.std.proofs.lemmas.Bool.{or_from}
use Rattle.std.proofs.lemmas.List.{map-append, length-map, append-nil}
use Rattle.std.proofs.lemmas.List.Folds.{list_any-append}
use Rattle.std.proofs.lemmas.List.Sums.{length-filter}
use Rattle.std.specs.Arc.{arc_value}
use Rattle.std.specs.declared.sync.Arc.{Arc}
use Rattle.std.specs.List.{list_any, count_by, filter}
use Rattle.be_model.specs.declared.changes.Change.{Change}
use Rattle.be_change.specs.History.{Entry, subscribed, unsubscribed, left, session_of, entries_of, is_leave_of, has_left, places_of, places_from}
use Rattle.be_change.specs.Entries.{entry_of, entries_in, HasIdAt, HaveIdsFrom, IdsArePlaces, IsLog, spare_of}

-- one more in front of the first of two parts
pub append_if : {A : Type 0} (b : Bool) (x : A) (xs ys zs : List A) → xs ≡ ys ++ zs → cond b (x ∷ xs) xs ≡ cond b (x ∷ ys) ys ++ zs
append_if true x xs ys zs e = ap (λ l. x ∷ l) e
append_if false x xs ys zs e = e

pub places_from-append : (k n : ℕ) (xs ys : List Entry) → places_from k n (xs ++ ys) ≡ places_from k n xs ++ places_from k (n + length xs) ys
places_from-append k n [] ys = ap (λ (m : ℕ). places_from k m ys) (omega arith)
places_from-append k n (x ∷ xs) ys =
    append_if (session_of x == k) n (places_from k (n + 1) (xs ++ ys)) (places_from k (n + 1) xs) (places_from k (n + length (x ∷ xs)) ys)
    (places_from-append k (n + 1) xs ys ∙ ap (λ (m : ℕ). places_from k (n + 1) xs ++ places_from k m ys) (omega arith))

-- the places of a session in a list, and then those in what follows
pub places_of-append : (k : ℕ) (xs ys : List Entry) → places_of k (xs ++ ys) ≡ places_of k xs ++ places_from k (length xs) ys
places_of-append k xs ys = places_from-append k 0 xs ys ∙ ap (λ (m : ℕ). places_of k xs ++ places_from k m ys) (zero-add (length xs))

cons_empty : (b : Bool) (x : ℕ) (xs : List ℕ) → cond b (x ∷ xs) xs ≡ [] → (b ≡ false) × (xs ≡ [])
cons_empty true x xs e = absurd cc
cons_empty false x xs e = (refl, e)

none_if : (b : Bool) (x : ℕ) (xs : List ℕ) → b ≡ false → xs ≡ [] → cond b (x ∷ xs) xs ≡ []
none_if true x xs e n = absurd cc
none_if false x xs e n = n

-- a list without entries of a session has none of them wherever it begins
pub places_none : (k n m : ℕ) (h : List Entry) → places_from k n h ≡ [] → places_from k m h ≡ []
places_none k n m [] e = refl
places_none k n m (x ∷ xs) e =
    let both = cons_empty (session_of x == k) n (places_from k (n + 1) xs) e in
    none_if (session_of x == k) m (places_from k (m + 1) xs) both.0 (places_none k (n + 1) (m + 1) xs both.1)

-- entries of other sessions leave the places of a session as they are
pub places_kept : (k : ℕ) (h more : List Entry) → places_of k more ≡ [] → places_of k (h ++ more) ≡ places_of k h
places_kept k h more e =
    places_of-append k h more ∙ (ap (λ (l : List ℕ). places_of k h ++ l) (places_none k 0 (length h) more e) ∙ append-nil (places_of k h))

-- one more entry of the session stands last
pub places_snoc : (k : ℕ) (h : List Entry) (e : Entry) → session_of e ≡ k → places_of k (h ++ e ∷ []) ≡ places_of k h ++ length h ∷ []
places_snoc k h e of = places_of-append k h (e ∷ []) ∙ ap (λ (b : Bool). places_of k h ++ cond b (length h ∷ []) []) (eq-eqb (session_of e) k of)

ids_from-snoc : (n : ℕ) (h : List Entry) (e : Entry) → HaveIdsFrom n h → HasIdAt (n + length h) e → HaveIdsFrom n (h ++ e ∷ [])
ids_from-snoc n [] e a b = (subst (λ (i : ℕ). HasIdAt i e) (omega arith) b, tt)
ids_from-snoc n (x ∷ xs) e a b = (a.0, ids_from-snoc (n + 1) xs e a.1 (subst (λ (i : ℕ). HasIdAt i e) (omega arith) b))

-- one more entry with its place as id
pub ids-snoc : (h : List Entry) (e : Entry) → IdsArePlaces h → HasIdAt (length h) e → IdsArePlaces (h ++ e ∷ [])
ids-snoc h e a b = ids_from-snoc 0 h e a (subst (λ (i : ℕ). HasIdAt i e) (sym (zero-add (length h))) b)

pub left_in : {Z : Type 0} (k : ℕ) (xs : List (Arc Change Z)) → has_left k (entries_in xs) ≡ list_any (λ x. is_leave_of k (entry_of (arc_value x))) xs
left_in k [] = refl
left_in k (x ∷ xs) = ap (λ (b : Bool). is_leave_of k (entry_of (arc_value x)) || b) (left_in k xs)

same_length_if : {A B : Type 0} (b : Bool) (x : A) (xs : List A) (y : B) (ys : List B) → length xs ≡ length ys → length (cond b (x ∷ xs) xs) ≡ length (cond b (y ∷ ys) ys)
same_length_if true x xs y ys h = ap (λ n. suc n) h
same_length_if false x xs y ys h = h

filtered_in : {Z : Type 0} (k : ℕ) (xs : List (Arc Change Z)) → length (entries_of k (entries_in xs)) ≡ length (filter (λ x. session_of (entry_of (arc_value x)) == k) xs)
filtered_in k [] = refl
filtered_in k (x ∷ xs) =
    let e : Entry = entry_of (arc_value x) in
    same_length_if (session_of e == k) e (entries_of k (entries_in xs)) x (filter (λ y. session_of (entry_of (arc_value y)) == k) xs) (filtered_in k xs)

pub count_in : {Z : Type 0} (k : ℕ) (xs : List (Arc Change Z)) → length (entries_of k (entries_in xs)) ≡ count_by (λ x. session_of (entry_of (arc_value x)) == k) xs
count_in k xs = filtered_in k xs ∙ length-filter (λ x. session_of (entry_of (arc_value x)) == k) xs

-- one more change, for which there was room
pub pushed : {Z : Type 0} (xs ys : List (Arc Change Z)) (x : Arc Change Z) (n cap cap' : ℕ) (old : List Entry) → IsLog (entries_in xs) cap → n ≡ length xs → 1 ≤ spare_of n cap → entries_in xs ≡ old
    → HasIdAt (length old) (entry_of (arc_value x)) → ys ≡ xs ++ x ∷ [] → cap' ≡ cap → IsLog (entries_in ys) cap'
pushed xs ys x n cap cap' old i count room same id more kept =
    let e : Entry = entry_of (arc_value x) in
    let now : entries_in ys ≡ entries_in xs ++ e ∷ [] = ap entries_in more ∙ map-append (λ y. entry_of (arc_value y)) xs (x ∷ []) in
    let long : length (entries_in ys) ≡ length xs + 1 = ap (λ (l : List Entry). length l) now ∙ omega (arith, length-append (entries_in xs) (e ∷ []), length-map xs (λ y. entry_of (arc_value y))) in
    record {
      fits = omega arith;
      few = omega arith;
      ids = subst IdsArePlaces (sym now) (ids-snoc (entries_in xs) e i.ids (subst (λ (l : List Entry). HasIdAt (length l) e) (sym same) id));
    }

pub left-append : (k : ℕ) (h more : List Entry) → has_left k (h ++ more) ≡ (has_left k h || has_left k more)
left-append k h more = list_any-append (is_leave_of k) h more

-- a session without an entry has no place, and hasn't left
pub no_places : (k n : ℕ) (h : List Entry) → entries_of k h ≡ [] → (places_from k n h ≡ []) × (has_left k h ≡ false)
no_places k n [] e = (refl, refl)
no_places k n (x ∷ xs) e = which (session_of x == k) refl e (λ f. no_places k (n + 1) xs f)
  where
    leaves_not : (x : Entry) → (session_of x == k) ≡ false → is_leave_of k x ≡ false
    leaves_not (subscribed j m row) f = refl
    leaves_not (unsubscribed j m name) f = refl
    leaves_not (left j m) f = f

    which : (b : Bool) → (session_of x == k) ≡ b → cond b (x ∷ entries_of k xs) (entries_of k xs) ≡ [] → (entries_of k xs ≡ [] → (places_from k (n + 1) xs ≡ []) × (has_left k xs ≡ false))
        → (places_from k n (x ∷ xs) ≡ []) × (has_left k (x ∷ xs) ≡ false)
    which true t e more = absurd cc
    which false t e more =
        let rest = more e in
        (ap (λ (b : Bool). cond b (n ∷ places_from k (n + 1) xs) (places_from k (n + 1) xs)) t ∙ rest.0, or_from (is_leave_of k x) (has_left k xs) (leaves_not x t) rest.1)
