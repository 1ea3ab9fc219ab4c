-- What is live after one more entry, and how the ids of live rows stand.
use Rattle.std.proofs.Common.{◌≡◌, ℕ, ◌+◌, not, ◌&&◌, List, [], ◌∷◌, ◌++◌, length, ap, ◌∙◌, subst, arith, zero-add}
use Rattle.be_model.specs.ByIds.{AllBelow, Rising}
use Rattle.be_model.proofs.RisingIds.{AllBelow-snoc, AllBelow-filter, Rising-snoc, Rising-filter}
use Rattle.be_change.specs.History.{Entry, subscribed, unsubscribed, left, ByIds, live, live_from, after_entry, has_name, is_of}

pub live_from-append : (l : ByIds) (id : ℕ) (xs ys : List Entry) → live_from l id (xs ++ ys) ≡ live_from (live_from l id xs) (id + length xs) ys
live_from-append l id [] ys = ap (λ n. live_from l n ys) (omega arith)
live_from-append l id (x ∷ xs) ys =
    live_from-append (after_entry l id x) (id + 1) xs ys ∙ ap (λ n. live_from (live_from (after_entry l id x) (id + 1) xs) n ys) (omega arith)

-- what is live after one more entry
pub live-append : (h : List Entry) (e : Entry) → live (h ++ e ∷ []) ≡ after_entry (live h) (length h) e
live-append h e = live_from-append [] 0 h (e ∷ []) ∙ ap (λ n. after_entry (live h) n e) (zero-add (length h))

pub below_after : (l : ByIds) (id : ℕ) (e : Entry) → AllBelow id l → AllBelow (id + 1) (after_entry l id e)
below_after l id (subscribed k n row) b = AllBelow-snoc id l (id, row) b (omega arith)
below_after l id (unsubscribed k n name) b = AllBelow-filter id (λ r. not (is_of k r && has_name name r)) l b
below_after l id (left k n) b = AllBelow-filter id (λ r. not (is_of k r)) l b

below_from : (l : ByIds) (id : ℕ) (h : List Entry) → AllBelow id l → AllBelow (id + length h) (live_from l id h)
below_from l id [] b = subst (λ n. AllBelow n l) (omega arith) b
below_from l id (e ∷ es) b = subst (λ n. AllBelow n (live_from (after_entry l id e) (id + 1) es)) (omega arith) (below_from (after_entry l id e) (id + 1) es (below_after l id e b))

-- each live id is a place in the list
pub live_below : (h : List Entry) → AllBelow (length h) (live h)
live_below h = subst (λ n. AllBelow n (live h)) (zero-add (length h)) (below_from [] 0 h tt)

rising_after : (l : ByIds) (id : ℕ) (e : Entry) → Rising l → AllBelow id l → Rising (after_entry l id e)
rising_after l id (subscribed k n row) a b = Rising-snoc l (id, row) a b
rising_after l id (unsubscribed k n name) a b = Rising-filter (λ r. not (is_of k r && has_name name r)) l a
rising_after l id (left k n) a b = Rising-filter (λ r. not (is_of k r)) l a

rising_from : (l : ByIds) (id : ℕ) (h : List Entry) → Rising l → AllBelow id l → Rising (live_from l id h)
rising_from l id [] a b = a
rising_from l id (e ∷ es) a b = rising_from (after_entry l id e) (id + 1) es (rising_after l id e a b) (below_after l id e b)

-- live ids rise, and so they differ
pub rising_live : (h : List Entry) → Rising (live h)
rising_live h = rising_from [] 0 h tt tt
