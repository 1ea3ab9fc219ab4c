-- Where sessions stand after one more entry.
use Rattle.std.proofs.Common.{◌≡◌, ℕ, ◌+◌, ◌≤◌, ◌<◌, ◌==◌, ◌||◌, Bool, true, false, cond, List, [], ◌∷◌, ◌++◌, length, Option, Some, refl, sym, ap, ◌∙◌, arith, length-append}
use Rattle.std.specs.Map.{count_at}
use Rattle.std.specs.Option.{unwrap_or}
use Rattle.std.specs.Ordering.{nat_cmp}
use Rattle.std.specs.BTreeMap.{is_at}
use Rattle.std.proofs.lemmas.Bool.{eqb-true}
use Rattle.std.proofs.lemmas.Bool.Decides.{nat_tests}
use Rattle.std.proofs.Math.Bool.{or-false}
use Rattle.std.proofs.lemmas.List.{append-nil}
use Rattle.be_base.specs.declared.limits.TheConstants.{COUNT_END, LOG_CHANGES}
use Rattle.be_change.specs.History.{Entry, subscribed, unsubscribed, left, session_of, serial_of, entries_of, has_left, is_leave_of, stand, MayFollow}
use Rattle.be_change.proofs.Forms.{entries_of-append}
use Rattle.be_change.proofs.Places.{left-append}
use Rattle.be_desk.specs.Stands.{stand_after}

short_if : (b : Bool) (x : Entry) (ys xs : List Entry) → length ys ≤ length xs → length (cond b (x ∷ ys) ys) ≤ length (x ∷ xs)
short_if true x ys xs h = omega arith
short_if false x ys xs h = omega arith

-- a session has no more entries than the list
pub few_entries : (k : ℕ) (h : List Entry) → length (entries_of k h) ≤ length h
few_entries k [] = omega arith
few_entries k (x ∷ xs) = short_if (session_of x == k) x (entries_of k xs) xs (few_entries k xs)

-- where a session stands, by what the entry adds
abbrev stand_by : Bool → List Entry → ℕ
stand_by gone es = cond gone COUNT_END (length es)

stand_more : (k : ℕ) (h : List Entry) (e : Entry) → stand k (h ++ e ∷ []) ≡ stand_by (has_left k h || (is_leave_of k e || false)) (entries_of k h ++ entries_of k (e ∷ []))
stand_more k h e = ap (λ (b : Bool). stand_by b (entries_of k (h ++ e ∷ []))) (left-append k h (e ∷ [])) ∙ ap (stand_by (has_left k h || (is_leave_of k e || false))) (entries_of-append k h (e ∷ []))

stays : (k : ℕ) (h : List Entry) (e : Entry) → is_leave_of k e ≡ false → entries_of k (e ∷ []) ≡ [] → stand k (h ++ e ∷ []) ≡ stand k h
stays k h e here none =
    stand_more k h e
    ∙ ap (λ (b : Bool). stand_by (has_left k h || (b || false)) (entries_of k h ++ entries_of k (e ∷ []))) here
    ∙ ap (λ (b : Bool). stand_by b (entries_of k h ++ entries_of k (e ∷ []))) (or-false (has_left k h))
    ∙ ap (λ (es : List Entry). stand_by (has_left k h) (entries_of k h ++ es)) none
    ∙ ap (stand_by (has_left k h)) (append-nil (entries_of k h))

counts : (k : ℕ) (h : List Entry) (e : Entry) → has_left k h ≡ false → is_leave_of k e ≡ false → entries_of k (e ∷ []) ≡ e ∷ [] → stand k (h ++ e ∷ []) ≡ length (entries_of k h) + 1
counts k h e present here one =
    stand_more k h e
    ∙ ap (λ (b : Bool). stand_by (b || (is_leave_of k e || false)) (entries_of k h ++ entries_of k (e ∷ []))) present
    ∙ ap (λ (b : Bool). stand_by (b || false) (entries_of k h ++ entries_of k (e ∷ []))) here
    ∙ ap (λ (es : List Entry). length (entries_of k h ++ es)) one
    ∙ length-append (entries_of k h) (e ∷ [])

ends : (k : ℕ) (h : List Entry) (e : Entry) → has_left k h ≡ false → is_leave_of k e ≡ true → stand k (h ++ e ∷ []) ≡ COUNT_END
ends k h e present here =
    stand_more k h e
    ∙ ap (λ (b : Bool). stand_by (b || (is_leave_of k e || false)) (entries_of k h ++ entries_of k (e ∷ []))) present
    ∙ ap (λ (b : Bool). stand_by (b || false) (entries_of k h ++ entries_of k (e ∷ []))) here

only : (e : Entry) (k : ℕ) (b : Bool) → (session_of e == k) ≡ b → entries_of k (e ∷ []) ≡ cond b (e ∷ []) []
only e k b is = ap (λ (c : Bool). cond c (e ∷ []) []) is

-- another session stands where it stood
pub stand_other : (h : List Entry) (e : Entry) (k : ℕ) → (session_of e == k) ≡ false → stand k (h ++ e ∷ []) ≡ stand k h
stand_other h (subscribed j n row) k is = stays k h (subscribed j n row) refl (only (subscribed j n row) k false is)
stand_other h (unsubscribed j n name) k is = stays k h (unsubscribed j n name) refl (only (unsubscribed j n name) k false is)
stand_other h (left j n) k is = stays k h (left j n) is (only (left j n) k false is)

own : (n : ℕ) → (n == n) ≡ true
own n = grind arith

-- the entry's own session
pub stand_own : (h : List Entry) (e : Entry) → MayFollow h e → stand (session_of e) (h ++ e ∷ []) ≡ stand_after e
stand_own h (subscribed k n row) m =
    counts k h (subscribed k n row) m.present refl (only (subscribed k n row) k true (own k)) ∙ ap (λ (i : ℕ). i + 1) (sym m.serial)
stand_own h (unsubscribed k n name) m =
    counts k h (unsubscribed k n name) m.present refl (only (unsubscribed k n name) k true (own k)) ∙ ap (λ (i : ℕ). i + 1) (sym m.serial)
stand_own h (left k n) m = ends k h (left k n) m.present (own k)

pub serial_few : (h : List Entry) (e : Entry) → MayFollow h e → length h ≤ LOG_CHANGES → serial_of e < COUNT_END
serial_few h e m few = omega (arith, m.serial, few_entries (session_of e) h)

at_number : (k q : ℕ) → is_at (nat_cmp k) q ≡ (k == q)
at_number k q = grind (arith, nat_tests)

-- a table in which the entry's session has its new stand
pub stands_put : (found found' : ℕ → Option ℕ) (h : List Entry) (e : Entry) (k n : ℕ) → k ≡ session_of e → n ≡ stand_after e → MayFollow h e
    → ((q : ℕ) → found' q ≡ cond (is_at (nat_cmp k) q) (Some n) (found q)) → ((q : ℕ) → count_at found q ≡ stand q h) → (q : ℕ) → count_at found' q ≡ stand q (h ++ e ∷ [])
stands_put found found' h e k n of is may update stands q =
    ap (λ (o : Option ℕ). unwrap_or o 0) (update q ∙ ap (λ (b : Bool). cond b (Some n) (found q)) (at_number k q ∙ ap (λ (j : ℕ). j == q) of)) ∙ step (session_of e == q) refl
  where
    step : (b : Bool) → (session_of e == q) ≡ b → unwrap_or (cond b (Some n) (found q)) 0 ≡ stand q (h ++ e ∷ [])
    step true here = is ∙ sym (stand_own h e may) ∙ ap (λ (j : ℕ). stand j (h ++ e ∷ [])) (eqb-true (session_of e) q here)
    step false other = stands q ∙ sym (stand_other h e q other)
