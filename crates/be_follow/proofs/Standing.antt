-- Where sessions stand after one more change, and whether a change is its session's next one.
use Rattle.std.proofs.Common.{◌≡◌, ◌≢◌, ℕ, ◌+◌, ◌≤◌, ◌==◌, ◌||◌, Bool, true, false, cond, List, [], ◌∷◌, ◌++◌, length, refl, sym, ap, ◌∙◌, subst, arith, length-append}
use Rattle.std.proofs.lemmas.Bool.{eq-eqb, eqb-true}
use Rattle.be_base.specs.declared.limits.TheConstants.{COUNT_END, LOG_CHANGES}
use Rattle.be_change.specs.History.{Entry, subscribed, unsubscribed, left, session_of, serial_of, is_leave_of, entries_of, has_left, stand}
use Rattle.be_change.proofs.Forms.{entries_of-append}
use Rattle.be_change.proofs.Places.{left-append}
use Rattle.be_follow.specs.Stands.{stand_in, stand_by, AreStands, IsNext}
use Rattle.be_follow.specs.declared.stands.Stands.{Stands}

no_leave : (k : ℕ) (e : Entry) → (session_of e == k) ≡ false → is_leave_of k e ≡ false
no_leave k (subscribed j n row) f = refl
no_leave k (unsubscribed j n name) f = refl
no_leave k (left j n) f = f

one_left : (k : ℕ) (e : Entry) → has_left k (e ∷ []) ≡ is_leave_of k e
one_left k e = or_false (is_leave_of k e)
  where
    or_false : (b : Bool) → (b || false) ≡ b
    or_false true = refl
    or_false false = refl

own_stand : (h : List Entry) (e : Entry) → has_left (session_of e) h ≡ false → serial_of e ≡ length (entries_of (session_of e) h) → stand_by e ≡ stand (session_of e) (h ++ e ∷ [])
own_stand h e present serial =
    let k = session_of e in
    let one : entries_of k (e ∷ []) ≡ e ∷ [] = ap (λ (b : Bool). cond b (e ∷ []) []) (eq-eqb k k refl) in
    let all : entries_of k (h ++ e ∷ []) ≡ entries_of k h ++ e ∷ [] = entries_of-append k h (e ∷ []) ∙ ap (λ (l : List Entry). entries_of k h ++ l) one in
    let gone : has_left k (h ++ e ∷ []) ≡ is_leave_of k e = left-append k h (e ∷ []) ∙ ap (λ (b : Bool). b || has_left k (e ∷ [])) present ∙ one_left k e in
    let count : serial_of e + 1 ≡ length (entries_of k (h ++ e ∷ [])) = omega (arith, serial, ap (λ (l : List Entry). length l) all, length-append (entries_of k h) (e ∷ [])) in
    ap (λ (n : ℕ). cond (is_leave_of k e) COUNT_END n) count ∙ ap (λ (b : Bool). cond b COUNT_END (length (entries_of k (h ++ e ∷ [])))) (sym gone)

other_stand : (k : ℕ) (h : List Entry) (e : Entry) → (session_of e == k) ≡ false → stand k (h ++ e ∷ []) ≡ stand k h
other_stand k h e apart =
    let one : entries_of k (e ∷ []) ≡ [] = ap (λ (b : Bool). cond b (e ∷ []) []) apart in
    let all : entries_of k (h ++ e ∷ []) ≡ entries_of k h ++ [] = entries_of-append k h (e ∷ []) ∙ ap (λ (l : List Entry). entries_of k h ++ l) one in
    let count : length (entries_of k (h ++ e ∷ [])) ≡ length (entries_of k h) = omega (arith, ap (λ (l : List Entry). length l) all, length-append {A = Entry} (entries_of k h) []) in
    let gone : has_left k (h ++ e ∷ []) ≡ has_left k h = left-append k h (e ∷ []) ∙ ap (λ (b : Bool). has_left k h || b) (one_left k e ∙ no_leave k e apart) ∙ or_none (has_left k h) in
    ap (λ (b : Bool). cond b COUNT_END (length (entries_of k (h ++ e ∷ [])))) gone ∙ ap (λ (n : ℕ). cond (has_left k h) COUNT_END n) count
  where
    or_none : (b : Bool) → (b || false) ≡ b
    or_none true = refl
    or_none false = refl

-- one more change, the session's next one
pub stands_on : (s s' : Stands) (h : List Entry) (e : Entry) → AreStands s h → has_left (session_of e) h ≡ false → serial_of e ≡ length (entries_of (session_of e) h)
    → stand_in s' (session_of e) ≡ stand_by e → ((k : ℕ) → k ≢ session_of e → stand_in s' k ≡ stand_in s k) → AreStands s' (h ++ e ∷ [])
stands_on s s' h e are present serial own others k = by_session (session_of e == k) refl
  where
    by_session : (b : Bool) → (session_of e == k) ≡ b → stand_in s' k ≡ stand k (h ++ e ∷ [])
    by_session true is =
        let same : session_of e ≡ k = eqb-true (session_of e) k is in
        subst (λ (j : ℕ). stand_in s' j ≡ stand j (h ++ e ∷ [])) same (own ∙ own_stand h e present serial)
    by_session false is =
        let apart : k ≢ session_of e = λ x. let f : (session_of e == k) ≡ true = eq-eqb (session_of e) k (sym x) in absurd cc in
        others k apart ∙ are k ∙ sym (other_stand k h e is)

few_entries : (k : ℕ) (h : List Entry) → length (entries_of k h) ≤ length h
few_entries k [] = omega arith
few_entries k (e ∷ h) = by_one (session_of e == k) (few_entries k h)
  where
    by_one : (b : Bool) → length (entries_of k h) ≤ length h → length (cond b (e ∷ entries_of k h) (entries_of k h)) ≤ length (e ∷ h)
    by_one true few = omega (arith, few)
    by_one false few = omega (arith, few)

-- what a session's number says of it
pub next_by : (k : ℕ) (h : List Entry) (n number : ℕ) → number ≡ stand k h → n ≡ number → number ≢ COUNT_END → IsNext k h n
next_by k h n number is same below = by_left (has_left k h) refl
  where
    by_left : (b : Bool) → has_left k h ≡ b → IsNext k h n
    by_left true gone = absurd (below (is ∙ ap (λ (b : Bool). cond b COUNT_END (length (entries_of k h))) gone))
    by_left false gone = record { serial = same ∙ is ∙ ap (λ (b : Bool). cond b COUNT_END (length (entries_of k h))) gone; present = gone }

pub next_number : (k : ℕ) (h : List Entry) (n number : ℕ) → number ≡ stand k h → length h ≤ LOG_CHANGES → IsNext k h n → (n ≡ number) × (number ≢ COUNT_END)
next_number k h n number is few next =
    let count : number ≡ length (entries_of k h) = is ∙ ap (λ (b : Bool). cond b COUNT_END (length (entries_of k h))) next.present in
    let low = few_entries k h in
    (next.serial ∙ sym count, λ e. absurd (omega (arith, count, low, few, e)))

-- so the next serial has room above it
pub serial_low : (k : ℕ) (h : List Entry) (n : ℕ) → length h ≤ LOG_CHANGES → n ≡ length (entries_of k h) → n ≤ LOG_CHANGES
serial_low k h n few is = omega (arith, few_entries k h, few, is)
