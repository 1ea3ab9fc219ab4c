-- The acts of a world of which all is published, with one session.
use Rattle.std.proofs.Common.{◌≡◌, ℕ, ◌+◌, ◌<◌, ◌≤◌, ◌==◌, true, false, not, ◌&&◌, ◌||◌, cond, nat_lt, List, [], ◌∷◌, ◌++◌, length, take, Option, Some, None, refl, sym, ap, ◌∙◌, subst, arith, eq-eqb}
use Rattle.std.specs.Prelude.{nat_le}
use Rattle.std.proofs.lemmas.Bool.{cond-true, cond-false, and_from, or_from, not_from_false, both_ways}
use Rattle.std.proofs.lemmas.Bool.Decides.{nat_tests}
use Rattle.std.proofs.lemmas.List.{take_all}
use Rattle.std.proofs.lemmas.Option.{slice_get_past}
use Rattle.be_model.specs.declared.changes.Row.{Row}
use Rattle.be_model.specs.Matching.{Assignments}
use Rattle.be_model.specs.ByIds.{Rising, row_at}
use Rattle.be_change.specs.History.{Text, Entry, subscribed, unsubscribed, left, session_of, serial_of, entries_of, has_left, live, hits, is_of, is_live_name, MayFollow, IsWellFormed}
use Rattle.be_change.proofs.Grows.{rising_live}
use Rattle.be_change.proofs.Names.{found_live, unsub_loses_one}
use Rattle.be_core.specs.Acts.{Deed, asks, reads, tells}
use Rattle.be_core.specs.World.{Seen, seen_by, having_seen, State, state, is_pending_of, is_entry_of, is_ahead, is_deaf, is_bye, is_next_of, named, after_change, split, shown, taken, parted, looked, change_next, subscribe as subscribing, unsubscribe as unsubscribing, step, after_acts, replies, run}
use Rattle.be_core.specs.declared.acts.CoreReply.{CoreReply}
use Rattle.be_core.specs.declared.acts.CoreReply.TheVariants as core
use Rattle.be_core.proofs.Naming.{named_at}
use Rattle.be_desk.specs.Core.{asking}
use Rattle.be_desk.proofs.Named.{row_at-middle, found_at, same_some}
use Rattle.be_desk.proofs.Records.{get_last}

-- a list of which all is published, and one session, which has seen so much
abbrev pub settled : List Entry → ℕ → ℕ → State
settled h k seen = state h (length h) ((record { 0 = k }, seen) ∷ [])

-- what is known where the session is heard
pub record Heard (h : List Entry) (k seen : ℕ) : Type 0 where
  pub present : has_left k h ≡ false
  pub covers : seen ≤ length h

seen_is : (k n : ℕ) → seen_by k ((record { 0 = k }, n) ∷ []) ≡ n
seen_is k n = cond-true (k == k) n 0 (eq-eqb k k refl)

pub seen_again : (k m n : ℕ) → having_seen k n ((record { 0 = k }, m) ∷ []) ≡ (record { 0 = k }, n) ∷ []
seen_again k m n = cond-true (k == k) ((record { 0 = k }, n) ∷ []) ((record { 0 = k }, m) ∷ having_seen k n []) (eq-eqb k k refl)

lower : (a b : ℕ) → a ≤ b → nat_le a b ≡ true
lower a b le = grind (arith, nat_tests)

no_lower : (a b : ℕ) → b ≤ a → nat_lt a b ≡ false
no_lower a b le = grind (arith, nat_tests)

strictly : (a b : ℕ) → a < b → nat_lt a b ≡ true
strictly a b lt = grind (arith, nat_tests)

pub not_strictly : (a b : ℕ) → nat_lt a b ≡ false → b ≤ a
not_strictly a b f = grind (arith, nat_tests)

-- one act, and then the others
pub run_more : (s t u : State) (x : CoreReply) (a : Deed) (acts : List Deed) (xs : List CoreReply) → step s a ≡ (t, x) → run t acts ≡ (u, xs) → run s (a ∷ acts) ≡ (u, x ∷ xs)
run_more s t u x a acts xs one rest =
    ap (λ (q : State × CoreReply). (after_acts q.0 acts, q.1 ∷ replies q.0 acts)) one ∙ ap (λ (q : State × List CoreReply). (q.0, x ∷ q.1)) rest

pub looked_whole : (h : List Entry) (k seen : ℕ) (e : Assignments) → Heard h k seen → step (settled h k seen) (reads k (length h) e) ≡ (settled h k (length h), core.Hits (length h) (hits h e))
looked_whole h k seen e heard =
    let s : State = settled h k seen in
    let covers : seen_by k s.seen ≤ length h = omega (arith, seen_is k seen, heard.covers) in
    cond-true (not (has_left k h) && (nat_le (seen_by k s.seen) (length h) && nat_le (length h) (length h))) (looked k (length h) e s) (s, core.Nothing)
    (and_from (not (has_left k h)) (nat_le (seen_by k s.seen) (length h) && nat_le (length h) (length h)) (not_from_false (has_left k h) heard.present)
    (and_from (nat_le (seen_by k s.seen) (length h)) (nat_le (length h) (length h)) (lower (seen_by k s.seen) (length h) covers) (lower (length h) (length h) (omega arith))))
    ∙ ap (λ (l : Seen). (state h (length h) l, core.Hits (length h) (hits (take (length h) h) e))) (seen_again k seen (length h))
    ∙ ap (λ (l : List Entry). (settled h k (length h), core.Hits (length h) (hits l e))) (take_all (length h) h (omega arith))

deaf_not : (h : List Entry) (k seen : ℕ) → has_left k h ≡ false → is_deaf k (settled h k seen) ≡ false
deaf_not h k seen present = or_from (has_left k h) (nat_lt (length h) (length h)) present (no_lower (length h) (length h) (omega arith))

ahead_not : (h : List Entry) (k seen : ℕ) → seen ≤ length h → is_ahead k (settled h k seen) ≡ false
ahead_not h k seen covers = no_lower (length h) (seen_by k ((record { 0 = k }, seen) ∷ [])) (omega (arith, seen_is k seen, covers))

ahead_is : (h : List Entry) (k seen : ℕ) → length h < seen → is_ahead k (settled h k seen) ≡ true
ahead_is h k seen more = strictly (length h) (seen_by k ((record { 0 = k }, seen) ∷ [])) (omega (arith, seen_is k seen, more))

pub next_is : (h : List Entry) (k : ℕ) (e : Entry) → is_bye e ≡ false → session_of e ≡ k → serial_of e ≡ length (entries_of k h) → is_next_of k h e ≡ true
next_is h k e no_bye of serial =
    and_from (not (is_bye e)) (session_of e == k && serial_of e == length (entries_of k h)) (not_from_false (is_bye e) no_bye)
    (and_from (session_of e == k) (serial_of e == length (entries_of k h)) (eq-eqb (session_of e) k of) (eq-eqb (serial_of e) (length (entries_of k h)) serial))

-- a change that is the session's next is looked at
heard_next : (h : List Entry) (k seen : ℕ) (e : Entry) → has_left k h ≡ false → is_next_of k h e ≡ true
    → step (settled h k seen) (asks k e) ≡ cond (is_ahead k (settled h k seen)) (split k (settled h k seen)) (change_next k e (settled h k seen))
heard_next h k seen e present next =
    let s : State = settled h k seen in
    cond-false (is_deaf k s || not (is_next_of k h e)) (s, core.Nothing) (cond (is_ahead k s) (split k s) (change_next k e s))
    (or_from (is_deaf k s) (not (is_next_of k h e)) (deaf_not h k seen present) (ap not next))

pub next_asks : (h : List Entry) (k seen : ℕ) (e : Entry) → Heard h k seen → is_next_of k h e ≡ true → step (settled h k seen) (asks k e) ≡ change_next k e (settled h k seen)
next_asks h k seen e heard next =
    let s : State = settled h k seen in
    heard_next h k seen e heard.present next ∙ cond-false (is_ahead k s) (split k s) (change_next k e s) (ahead_not h k seen heard.covers)

split_is : (h : List Entry) (k seen : ℕ) → split k (settled h k seen) ≡ (settled h k seen, core.Split seen (length h))
split_is h k seen = ap (λ (n : ℕ). (settled h k seen, core.Split n (length h))) (seen_is k seen)

-- where the session knows more than is published, it is told so, whatever it asks for
pub split_asks : (h : List Entry) (k seen : ℕ) (e : Entry) → has_left k h ≡ false → session_of e ≡ k → serial_of e ≡ length (entries_of k h) → length h < seen
    → step (settled h k seen) (asking k e) ≡ (settled h k seen, core.Split seen (length h))
split_asks h k seen (subscribed j n row) present of serial more =
    let s : State = settled h k seen in
    let e : Entry = subscribed j n row in
    heard_next h k seen e present (next_is h k e refl of serial) ∙ cond-true (is_ahead k s) (split k s) (change_next k e s) (ahead_is h k seen more) ∙ split_is h k seen
split_asks h k seen (unsubscribed j n name) present of serial more =
    let s : State = settled h k seen in
    let e : Entry = unsubscribed j n name in
    heard_next h k seen e present (next_is h k e refl of serial) ∙ cond-true (is_ahead k s) (split k s) (change_next k e s) (ahead_is h k seen more) ∙ split_is h k seen
split_asks h k seen (left j n) present of serial more =
    let s : State = settled h k seen in
    cond-false (is_deaf k s) (s, core.Nothing) (cond (is_ahead k s) (split k s) (parted k s)) (deaf_not h k seen present)
    ∙ cond-true (is_ahead k s) (split k s) (parted k s) (ahead_is h k seen more) ∙ split_is h k seen

-- a name that isn't live finds no row
pub named_free : (h : List Entry) (name : Text) → is_live_name name (live h) ≡ false → named name (live h) ≡ None
named_free h name free = by_row (named name (live h)) refl
  where
    by_row : (o : Option (ℕ × Row)) → named name (live h) ≡ o → named name (live h) ≡ None
    by_row None is = is
    by_row (Some r) is = absurd (both_ways (is_live_name name (live h)) free (found_live (live h) r.0 name (named_at name (live h) r (rising_live h) is).1))

-- the name of an Unsub that may follow finds a row of its session
own_found : (h : List Entry) (k n : ℕ) (name : Text) → IsWellFormed h → MayFollow h (unsubscribed k n name) → (r : ℕ × Row) × (named name (live h) ≡ Some r) × (is_of k r ≡ true)
own_found h k n name formed may =
    let o = unsub_loses_one h k n name formed may in
    let up : Rising (o.before ++ o.row ∷ o.after) = subst Rising o.was (rising_live h) in
    let at : row_at o.row.0 (live h) ≡ Some o.row.1 = ap (row_at o.row.0) o.was ∙ row_at-middle o.before o.row o.after up in
    let found = found_at h o.row.0 name formed (o.row.1, at, o.named) in
    let same : found.row.1 ≡ o.row.1 = same_some found.row.1 o.row.1 (sym found.stands ∙ at) in
    (found.row, found.named_so, eq-eqb found.row.1.session.0 k (ap (λ (r : Row). r.session.0) same ∙ o.owner))

-- how the core accepts a change
abbrev pub accepted_by : Entry → ℕ → CoreReply
accepted_by (subscribed j i row) n = core.Taken n
accepted_by (unsubscribed j i name) n = core.Taken n
accepted_by (left j i) n = core.Left n

-- a change that may follow is taken
pub taken_next : (h : List Entry) (k seen : ℕ) (e : Entry) → Heard h k seen → IsWellFormed h → session_of e ≡ k → MayFollow h e
    → step (settled h k seen) (asking k e) ≡ (after_change e (settled h k seen), accepted_by e (length h + 1))
taken_next h k seen (subscribed j n row) heard formed of may =
    let s : State = settled h k seen in
    let e : Entry = subscribed j n row in
    let serial : n ≡ length (entries_of k h) = may.serial ∙ ap (λ (i : ℕ). length (entries_of i h)) of in
    next_asks h k seen e heard (next_is h k e refl of serial)
    ∙ ap (subscribing k e row s) (named_free h row.name may.allowed.0)
    ∙ cond-true (row.id.0 == length h && row.session.0 == k) (taken e s) (s, core.Nothing)
    (and_from (row.id.0 == length h) (row.session.0 == k) (eq-eqb row.id.0 (length h) may.allowed.1) (eq-eqb row.session.0 k (may.allowed.2 ∙ of)))
taken_next h k seen (unsubscribed j n name) heard formed of may =
    let s : State = settled h k seen in
    let e : Entry = unsubscribed j n name in
    let serial : n ≡ length (entries_of k h) = may.serial ∙ ap (λ (i : ℕ). length (entries_of i h)) of in
    let found = own_found h j n name formed may in
    next_asks h k seen e heard (next_is h k e refl of serial)
    ∙ ap (unsubscribing k e s) found.1
    ∙ cond-true (is_of k found.0) (taken e s) (shown k (core.Other (length h) (record { 0 = found.0.0 })) s) (subst (λ (i : ℕ). is_of i found.0 ≡ true) of found.2)
taken_next h k seen (left j n) heard formed of may =
    let s : State = settled h k seen in
    let serial : n ≡ length (entries_of k h) = may.serial ∙ ap (λ (i : ℕ). length (entries_of i h)) of in
    cond-false (is_deaf k s) (s, core.Nothing) (cond (is_ahead k s) (split k s) (parted k s)) (deaf_not h k seen heard.present)
    ∙ cond-false (is_ahead k s) (split k s) (parted k s) (ahead_not h k seen heard.covers)
    ∙ ap (λ (m : ℕ). (after_change (left k m) s, core.Left (length h + 1))) (sym serial)
    ∙ ap (λ (i : ℕ). (after_change (left i n) s, core.Left (length h + 1))) (sym of)

-- a session that is told of a list that is all published has seen it
pub told_settled : (h : List Entry) (k seen : ℕ) → seen ≤ length h → step (settled h k seen) (tells k) ≡ (settled h k (length h), core.Nothing)
told_settled h k seen covers =
    let s : State = settled h k seen in
    cond-false (is_pending_of k s) (s, core.Held (length h)) (cond (is_ahead k s) (split k s) (shown k core.Nothing s)) (ap (is_entry_of k) (slice_get_past h (length h) (omega arith)))
    ∙ cond-false (is_ahead k s) (split k s) (shown k core.Nothing s) (ahead_not h k seen covers)
    ∙ ap (λ (l : Seen). (state h (length h) l, core.Nothing)) (seen_again k seen (length h))

-- and one whose own change is held is told that
pub told_held : (h : List Entry) (e : Entry) (k seen : ℕ) → session_of e ≡ k
    → step (after_change e (settled h k seen)) (tells k) ≡ (after_change e (settled h k seen), core.Held (length (h ++ e ∷ [])))
told_held h e k seen of =
    let s : State = after_change e (settled h k seen) in
    cond-true (is_pending_of k s) (s, core.Held (length (h ++ e ∷ []))) (cond (is_ahead k s) (split k s) (shown k core.Nothing s))
    (ap (is_entry_of k) (get_last h e) ∙ eq-eqb (session_of e) k of)
