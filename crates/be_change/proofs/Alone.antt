-- What one more exchange makes of a list that one session changes, and what one more entry leaves of it.
use Rattle.std.proofs.Common.{◌≡◌, ◌≢◌, ℕ, ◌+◌, ◌-◌, ◌<◌, ◌≤◌, ◌==◌, Bool, true, false, cond, List, [], ◌∷◌, ◌++◌, length, Some, slice_get, refl, sym, ap, ◌∙◌, arith, length-append, append_assoc, zero-add}
use Rattle.std.specs.List.{list_all, list_any}
use Rattle.std.proofs.lemmas.Bool.{and_parts, or_from, eqb-true, false_from_ne_true}
use Rattle.std.proofs.lemmas.List.{append-nil, get_or_at}
use Rattle.std.proofs.lemmas.List.Folds.{list_any-append}
use Rattle.std.proofs.lemmas.Option.{slice_get-get_or}
use Rattle.be_change.specs.History.{Entry, session_of, is_leave_of, is_opening, entries_of, has_left}
use Rattle.be_change.specs.Requests.{Request, Exchange, other}
use Rattle.be_change.specs.Walk.{Walk, IsChangeOf, IsAcceptedAt, place_accepted, accepted}
use Rattle.be_change.specs.Made.{change_made, changes_made, made}

pub accepted-append : (ps qs : List Exchange) → accepted (ps ++ qs) ≡ accepted ps ++ accepted qs
accepted-append [] qs = refl
accepted-append (p ∷ ps) qs = ap (λ (l : List ℕ). place_accepted p.1 ++ l) (accepted-append ps qs) ∙ sym (append_assoc (place_accepted p.1) (accepted ps) (accepted qs))

changes_made-snoc : (k n m : ℕ) (ps : List Exchange) (p : Exchange)
    → changes_made k n m (ps ++ p ∷ []) ≡ changes_made k n m ps ++ change_made k (n + length (changes_made k n m ps)) (m + length (changes_made k n m ps)) p
changes_made-snoc k n m [] p =
    append-nil (change_made k n m p) ∙ (ap (λ (i : ℕ). change_made k i m p) (omega arith) ∙ ap (λ (i : ℕ). change_made k (n + 0) i p) (omega arith))
changes_made-snoc k n m (q ∷ qs) p =
    let c : List Entry = change_made k n m q in
    let rest : List Entry = changes_made k (n + length c) (m + length c) qs in
    let long : length (c ++ rest) ≡ length c + length rest = length-append c rest in
    ap (λ (l : List Entry). c ++ l) (changes_made-snoc k (n + length c) (m + length c) qs p)
    ∙ (sym (append_assoc c rest (change_made k (n + length c + length rest) (m + length c + length rest) p))
    ∙ (ap (λ (i : ℕ). (c ++ rest) ++ change_made k i (m + length c + length rest) p) (omega arith)
    ∙ ap (λ (i : ℕ). (c ++ rest) ++ change_made k (n + length (c ++ rest)) i p) (omega arith)))

-- what one more exchange makes of the list
pub made-snoc : (o : List Entry) (k : ℕ) (ps : List Exchange) (p : Exchange)
    → made o k (ps ++ p ∷ []) ≡ made o k ps ++ change_made k (length (changes_made k 0 (length o) ps)) (length (made o k ps)) p
made-snoc o k ps p =
    let c : List Entry = changes_made k 0 (length o) ps in
    let long : length (o ++ c) ≡ length o + length c = length-append o c in
    ap (λ (l : List Entry). o ++ l) (changes_made-snoc k 0 (length o) ps p)
    ∙ (sym (append_assoc o c (change_made k (0 + length c) (length o + length c) p))
    ∙ (ap (λ (i : ℕ). (o ++ c) ++ change_made k i (length o + length c) p) (zero-add (length c))
    ∙ ap (λ (i : ℕ). (o ++ c) ++ change_made k (length c) i p) (sym long)))

-- an opening has no entry of a session
pub opening_apart : (k : ℕ) (o : List Entry) → k ≢ 0 → list_all is_opening o ≡ true → entries_of k o ≡ []
opening_apart k [] ne e = refl
opening_apart k (x ∷ xs) ne e =
    let both = and_parts (is_opening x) (list_all is_opening xs) e in
    let zero_is : session_of x ≡ 0 = eqb-true (session_of x) 0 both.0 in
    let other : (session_of x == k) ≡ false = false_from_ne_true (session_of x == k) (λ t. ne (sym (eqb-true (session_of x) k t) ∙ zero_is)) in
    ap (λ (b : Bool). cond b (x ∷ entries_of k xs) (entries_of k xs)) other ∙ opening_apart k xs ne both.1

pub last_get : (h : List Entry) (e : Entry) (i : ℕ) → i ≡ length h → slice_get (h ++ e ∷ []) i ≡ Some e
last_get h e i at =
    let within : i < length (h ++ e ∷ []) = omega (arith, length-append h (e ∷ [])) in
    slice_get-get_or (h ++ e ∷ []) i e within ∙ ap (λ (x : Entry). Some x) (get_or_at h e [] e i (sym at))

-- a change that may follow, and is that of the request, is accepted over the list that has it last
pub accepted_last : (k : ℕ) (h : List Entry) (w : Walk) (r : Request) (n : ℕ) (e : Entry) → n ≡ length h + 1 → w.seen ≤ length h → w.own ≤ length h → IsChangeOf k w.serial (n - 1) r e
    → IsAcceptedAt k (h ++ e ∷ []) w r n
accepted_last k h w r n e is seen own change = record {
  later = omega arith;
  later_own = omega arith;
  entry = e;
  stands = last_get h e (n - 1) (omega arith);
  is_it = change;
}

pub present_snoc : (k : ℕ) (h : List Entry) (e : Entry) → has_left k h ≡ false → is_leave_of k e ≡ false → has_left k (h ++ e ∷ []) ≡ false
present_snoc k h e p q =
    list_any-append (is_leave_of k) h (e ∷ []) ∙ or_from (has_left k h) (list_any (is_leave_of k) (e ∷ [])) p (or_from (is_leave_of k e) false q refl)
