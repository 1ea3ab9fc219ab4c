-- What may come of one act.
use Rattle.std.proofs.Common.{◌≡◌, ◌≢◌, ℕ, ◌+◌, ◌==◌, ◌≤◌, Bool, true, false, not, ◌&&◌, ◌||◌, cond, List, [], ◌∷◌, length, take, Option, Some, None, refl, sym, ap, ◌∙◌, subst, arith, eq-eqb}
use Rattle.std.specs.Prelude.{nat_le}
use Rattle.std.proofs.lemmas.Bool.{cond_both, and_parts, or_parts, eqb-true, not-true, both_ways}
use Rattle.std.proofs.lemmas.Bool.Decides.{nat_tests}
use Rattle.std.proofs.lemmas.List.{take_all}
use Rattle.be_model.specs.declared.changes.Row.{Row}
use Rattle.be_model.specs.Schemas.{Attributes}
use Rattle.be_model.specs.Matching.{Assignments}
use Rattle.be_change.specs.History.{Text, Entry, subscribed, unsubscribed, left, session_of, serial_of, entries_of, has_left, live, hits, is_of, is_live_name, is_live_name_of, IsAllowed, MayFollow}
use Rattle.be_change.specs.Requests.{Request, publish, quit, Reply, held, dup, none, other, hit, Exchange}
use Rattle.be_change.specs.Walk.{Walk, Answers, IsChangeOf, IsRefusedAt, HasNameAt, HasNameOfAnotherAt, accepted}
use Rattle.be_change.specs.Walk as walk
use Rattle.be_change.specs.Requests as requests
use Rattle.be_change.proofs.Grows.{rising_live}
use Rattle.be_change.proofs.Forms.{no_opening}
use Rattle.be_core.specs.declared.acts.CoreReply.{CoreReply}
use Rattle.be_core.specs.declared.acts.CoreReply.TheVariants.{Taken, Held, Dup, NoName, Other, Left, Hits, Nothing}
use Rattle.be_core.specs.Acts.{Deed, asks, publishes, reshapes, reads, tells, leaves, is_by}
use Rattle.be_core.specs.World.{State, seen_by, is_pending, is_pending_of, is_ahead, is_deaf, is_next_of, is_bye, named, after_seeing, after_change, split, subscribe, unsubscribe, change_next, ask, leave, read, tell, step, is_split, IsWorld}
use Rattle.be_core.specs.Sessions.{request_in, reply_in}
use Rattle.be_core.proofs.Naming.{named_none, named_at, named_of, named_of_another}

-- the session's walk has come as far as the state
pub record Follows (k : ℕ) (s : State) (w : Walk) : Type 0 where
  pub seen : w.seen ≤ seen_by k s.seen
  pub own : w.own ≤ length s.list
  pub serial : w.serial ≡ length (entries_of k s.list)
  pub ended : w.ended ≡ has_left k s.list

-- the session made the act, was answered, and has seen n changes
pub record Looked (s : State) (d : Deed) (j n : ℕ) (r : CoreReply) : Type 0 where
  pub request : Request
  pub reply : Reply
  pub by : (k : ℕ) → is_by k d ≡ (j == k)
  pub asked : request_in d ≡ Some request
  pub answered : reply_in r ≡ Some reply
  pub whole : is_split r ≡ false
  pub uncounted : accepted ((request, reply) ∷ []) ≡ []
  pub present : has_left j s.list ≡ false
  pub covers : seen_by j s.seen ≤ n
  pub within : n ≤ s.published
  pub answers : (x : Attributes) (w : Walk) → Follows j s w → Answers x j s.list request reply w (walk.having_seen n w)

-- the session made the act, and its change was accepted
pub record Changed (s : State) (d : Deed) (j : ℕ) (e : Entry) (r : CoreReply) : Type 0 where
  pub request : Request
  pub by : (k : ℕ) → is_by k d ≡ (j == k)
  pub asked : request_in d ≡ Some request
  pub answered : reply_in r ≡ Some (held (length s.list + 1))
  pub whole : is_split r ≡ false
  pub of : session_of e ≡ j
  pub may : MayFollow s.list e
  pub all : length s.list ≡ s.published
  pub is_it : IsChangeOf j (length (entries_of j s.list)) (length s.list) request e

not_ahead : (k : ℕ) (s : State) → IsWorld s → is_ahead k s ≡ true → ⊥
not_ahead k s w a = let seen = w.seen k in grind (arith, nat_tests)

all_published : (s : State) → IsWorld s → is_pending s ≡ false → length s.list ≡ s.published
all_published s w p = let within = w.within in grind (arith, nat_tests)

-- what holds of the whole list holds of its first entries, where these are all
at_whole : (h : List Entry) (n : ℕ) (P : List Entry → Type 0) → length h ≡ n → P h → P (take n h)
at_whole h n P e p = subst P (sym (take_all n h (omega arith))) p

refused_at : (k : ℕ) (s : State) (w : Walk) → IsWorld s → length s.list ≡ s.published → Follows k s w → IsRefusedAt s.list w s.published
refused_at k s w i all f = record { covers = omega (arith, f.seen, i.seen k); covers_own = omega (arith, f.own); within = i.within }

-- what is known where a session's change is looked at
pub record IsHeard (k : ℕ) (s : State) : Type 0 where
  pub session : k ≢ 0
  pub world : IsWorld s
  pub present : has_left k s.list ≡ false
  pub all : length s.list ≡ s.published

-- an act that isn't session 0's is of a session
session_acts : (k : ℕ) → (k == 0) ≡ false → k ≢ 0
session_acts k f e = both_ways (k == 0) f (eq-eqb k 0 e)

heard : (k : ℕ) (s : State) → (k == 0) ≡ false → IsWorld s → is_deaf k s ≡ false → IsHeard k s
heard k s by w f =
    let both = or_parts (has_left k s.list) (is_pending s) f in
    record { session = session_acts k by; world = w; present = both.0; all = all_published s w both.1 }

-- the change is the session's next
pub record IsNext (k : ℕ) (s : State) (e : Entry) : Type 0 where
  pub no_bye : is_bye e ≡ false
  pub of : session_of e ≡ k
  pub serial : serial_of e ≡ length (entries_of k s.list)

next_of : (k : ℕ) (s : State) (e : Entry) → is_next_of k s.list e ≡ true → IsNext k s e
next_of k s e t =
    let one = and_parts (not (is_bye e)) (session_of e == k && serial_of e == length (entries_of k s.list)) t in
    let two = and_parts (session_of e == k) (serial_of e == length (entries_of k s.list)) one.1 in
    record { no_bye = not-true (is_bye e) one.0; of = eqb-true (session_of e) k two.0; serial = eqb-true (serial_of e) (length (entries_of k s.list)) two.1 }

may_follow : (k : ℕ) (s : State) (e : Entry) → IsHeard k s → IsNext k s e → IsAllowed s.list e → MayFollow s.list e
may_follow k s e h n a = record {
  opening = no_opening s.list e (λ z. h.session (sym n.of ∙ z));
  serial = n.serial ∙ ap (λ (j : ℕ). length (entries_of j s.list)) (sym n.of);
  present = ap (λ (j : ℕ). has_left j s.list) n.of ∙ h.present;
  allowed = a;
}

looked_dup : (k : ℕ) (s : State) (j n : ℕ) (row : Row) (r : ℕ × Row) → IsHeard k s → named row.name (live s.list) ≡ Some r
    → Looked s (asks k (subscribed j n row)) k s.published (Dup s.published (record { 0 = r.0 }))
looked_dup k s j n row r h is = record {
  request = requests.subscribe row.name row.conj;
  reply = dup s.published r.0;
  by = λ i. refl;
  asked = refl;
  answered = refl;
  whole = refl;
  uncounted = refl;
  present = h.present;
  covers = h.world.seen k;
  within = omega arith;
  answers = λ x w f. (
    refused_at k s w h.world h.all f,
    at_whole s.list s.published (λ l. HasNameAt (live l) r.0 row.name) h.all (named_at row.name (live s.list) r (rising_live s.list) is).1,
    refl,
  );
}

looked_none : (k : ℕ) (s : State) (j n : ℕ) (name : Text) → IsHeard k s → named name (live s.list) ≡ None
    → Looked s (asks k (unsubscribed j n name)) k s.published (NoName s.published)
looked_none k s j n name h is = record {
  request = requests.unsubscribe name;
  reply = none s.published;
  by = λ i. refl;
  asked = refl;
  answered = refl;
  whole = refl;
  uncounted = refl;
  present = h.present;
  covers = h.world.seen k;
  within = omega arith;
  answers = λ x w f. (
    refused_at k s w h.world h.all f,
    at_whole s.list s.published (λ l. is_live_name name (live l) ≡ false) h.all (named_none name (live s.list) is),
    refl,
  );
}

looked_other : (k : ℕ) (s : State) (j n : ℕ) (name : Text) (r : ℕ × Row) → IsHeard k s → named name (live s.list) ≡ Some r → is_of k r ≡ false
    → Looked s (asks k (unsubscribed j n name)) k s.published (Other s.published (record { 0 = r.0 }))
looked_other k s j n name r h is of = record {
  request = requests.unsubscribe name;
  reply = other s.published r.0;
  by = λ i. refl;
  asked = refl;
  answered = refl;
  whole = refl;
  uncounted = refl;
  present = h.present;
  covers = h.world.seen k;
  within = omega arith;
  answers = λ x w f. (
    refused_at k s w h.world h.all f,
    at_whole s.list s.published (λ l. HasNameOfAnotherAt k (live l) r.0 name) h.all (named_of_another k name (live s.list) r (rising_live s.list) is of),
    refl,
  );
}

looked_hits : (k n : ℕ) (e : Assignments) (s : State) → IsWorld s → has_left k s.list ≡ false → seen_by k s.seen ≤ n → n ≤ s.published
    → Looked s (reads k n e) k n (Hits n (hits (take n s.list) e))
looked_hits k n e s w present covers within = record {
  request = publish e;
  reply = hit n (hits (take n s.list) e);
  by = λ i. refl;
  asked = refl;
  answered = refl;
  whole = refl;
  uncounted = refl;
  present = present;
  covers = covers;
  within = within;
  answers = λ x v f. (record { covers = omega (arith, f.seen); within = omega (arith, w.within) }, refl, refl);
}

changed_sub : (k : ℕ) (s : State) (j n : ℕ) (row : Row) → IsHeard k s → IsNext k s (subscribed j n row) → named row.name (live s.list) ≡ None → row.id.0 ≡ length s.list → row.session.0 ≡ k
    → Changed s (asks k (subscribed j n row)) k (subscribed j n row) (Taken (length s.list + 1))
changed_sub k s j n row h next is id of = record {
  request = requests.subscribe row.name row.conj;
  by = λ i. refl;
  asked = refl;
  answered = refl;
  whole = refl;
  of = next.of;
  may = may_follow k s (subscribed j n row) h next (named_none row.name (live s.list) is, id, of ∙ sym next.of);
  all = h.all;
  is_it = (next.of, next.serial, id, of, refl, refl);
}

changed_unsub : (k : ℕ) (s : State) (j n : ℕ) (name : Text) (r : ℕ × Row) → IsHeard k s → IsNext k s (unsubscribed j n name) → named name (live s.list) ≡ Some r → is_of k r ≡ true
    → Changed s (asks k (unsubscribed j n name)) k (unsubscribed j n name) (Taken (length s.list + 1))
changed_unsub k s j n name r h next is of = record {
  request = requests.unsubscribe name;
  by = λ i. refl;
  asked = refl;
  answered = refl;
  whole = refl;
  of = next.of;
  may =
      may_follow k s (unsubscribed j n name) h next
      (subst (λ (i : ℕ). is_live_name_of i name (live s.list) ≡ true) (sym next.of) (named_of k name (live s.list) r is of));
  all = h.all;
  is_it = (next.of, next.serial, refl);
}

changed_leave : (k : ℕ) (s : State) → IsHeard k s → Changed s (leaves k) k (left k (length (entries_of k s.list))) (Left (length s.list + 1))
changed_leave k s h = record {
  request = quit;
  by = λ i. refl;
  asked = refl;
  answered = refl;
  whole = refl;
  of = refl;
  may = record { opening = no_opening s.list (left k (length (entries_of k s.list))) h.session; serial = refl; present = h.present; allowed = tt };
  all = h.all;
  is_it = (refl, refl);
}

-- what may come of an act of a state that worlds have: it stays, all is published, the session is told, has looked, or has changed
pub record Holds (s : State) (d : Deed) (P : State × CoreReply → Type 0) : Type 0 where
  pub stays : (r : CoreReply) → reply_in r ≡ None → is_split r ≡ false → P (s, r)
  pub published : P (record s { published = length s.list }, Nothing)
  pub told : (j : ℕ) → seen_by j s.seen ≤ s.published → P (after_seeing j s.published s, Nothing)
  pub looked : (j n : ℕ) (r : CoreReply) → Looked s d j n r → P (after_seeing j n s, r)
  pub changed : (j : ℕ) (e : Entry) (r : CoreReply) → Changed s d j e r → P (after_change e s, r)

sub_outcomes : (k : ℕ) (s : State) (j n : ℕ) (row : Row) (P : State × CoreReply → Type 0) (o : Option (ℕ × Row)) → named row.name (live s.list) ≡ o → IsHeard k s → IsNext k s (subscribed j n row)
    → Holds s (asks k (subscribed j n row)) P → P (subscribe k (subscribed j n row) row s o)
sub_outcomes k s j n row P (Some r) is h next p = p.looked k s.published (Dup s.published (record { 0 = r.0 })) (looked_dup k s j n row r h is)
sub_outcomes k s j n row P None is h next p =
    cond_both (row.id.0 == length s.list && row.session.0 == k) (after_change (subscribed j n row) s, Taken (length s.list + 1)) (s, Nothing) P
    (λ t.
    let both = and_parts (row.id.0 == length s.list) (row.session.0 == k) t in
    p.changed k (subscribed j n row) (Taken (length s.list + 1))
    (changed_sub k s j n row h next is (eqb-true row.id.0 (length s.list) both.0) (eqb-true row.session.0 k both.1)))
    (λ f. p.stays Nothing refl refl)

unsub_outcomes : (k : ℕ) (s : State) (j n : ℕ) (name : Text) (P : State × CoreReply → Type 0) (o : Option (ℕ × Row)) → named name (live s.list) ≡ o → IsHeard k s → IsNext k s (unsubscribed j n name)
    → Holds s (asks k (unsubscribed j n name)) P → P (unsubscribe k (unsubscribed j n name) s o)
unsub_outcomes k s j n name P None is h next p = p.looked k s.published (NoName s.published) (looked_none k s j n name h is)
unsub_outcomes k s j n name P (Some r) is h next p =
    cond_both (is_of k r) (after_change (unsubscribed j n name) s, Taken (length s.list + 1)) (after_seeing k s.published s, Other s.published (record { 0 = r.0 })) P
    (λ t. p.changed k (unsubscribed j n name) (Taken (length s.list + 1)) (changed_unsub k s j n name r h next is t))
    (λ f. p.looked k s.published (Other s.published (record { 0 = r.0 })) (looked_other k s j n name r h is f))

change_outcomes : (k : ℕ) (e : Entry) (s : State) (P : State × CoreReply → Type 0) → IsHeard k s → IsNext k s e → Holds s (asks k e) P → P (change_next k e s)
change_outcomes k (subscribed j n row) s P h next p = sub_outcomes k s j n row P (named row.name (live s.list)) refl h next p
change_outcomes k (unsubscribed j n name) s P h next p = unsub_outcomes k s j n name P (named name (live s.list)) refl h next p
change_outcomes k (left j n) s P h next p = p.stays Nothing refl refl

ask_outcomes : (k : ℕ) (e : Entry) (s : State) (P : State × CoreReply → Type 0) → (k == 0) ≡ false → IsWorld s → Holds s (asks k e) P → P (ask k e s)
ask_outcomes k e s P by w p =
    cond_both (is_deaf k s || not (is_next_of k s.list e)) (s, Nothing) (cond (is_ahead k s) (split k s) (change_next k e s)) P
    (λ t. p.stays Nothing refl refl)
    (λ f.
    let both = or_parts (is_deaf k s) (not (is_next_of k s.list e)) f in
    cond_both (is_ahead k s) (split k s) (change_next k e s) P
    (λ a. absurd (not_ahead k s w a))
    (λ a. change_outcomes k e s P (heard k s by w both.0) (next_of k s e (from_not_false (is_next_of k s.list e) both.1)) p))
  where
    from_not_false : (b : Bool) → not b ≡ false → b ≡ true
    from_not_false true e = refl
    from_not_false false e = absurd cc

leave_outcomes : (k : ℕ) (s : State) (P : State × CoreReply → Type 0) → (k == 0) ≡ false → IsWorld s → Holds s (leaves k) P → P (leave k s)
leave_outcomes k s P by w p =
    let e : Entry = left k (length (entries_of k s.list)) in
    cond_both (is_deaf k s) (s, Nothing) (cond (is_ahead k s) (split k s) (after_change e s, Left (length s.list + 1))) P
    (λ t. p.stays Nothing refl refl)
    (λ f.
    cond_both (is_ahead k s) (split k s) (after_change e s, Left (length s.list + 1)) P
    (λ a. absurd (not_ahead k s w a))
    (λ a. p.changed k e (Left (length s.list + 1)) (changed_leave k s (heard k s by w f))))

read_outcomes : (k n : ℕ) (e : Assignments) (s : State) (P : State × CoreReply → Type 0) → IsWorld s → Holds s (reads k n e) P → P (read k n e s)
read_outcomes k n e s P w p =
    cond_both (not (has_left k s.list) && (nat_le (seen_by k s.seen) n && nat_le n s.published)) (after_seeing k n s, Hits n (hits (take n s.list) e)) (s, Nothing) P
    (λ t.
    let one = and_parts (not (has_left k s.list)) (nat_le (seen_by k s.seen) n && nat_le n s.published) t in
    let two = and_parts (nat_le (seen_by k s.seen) n) (nat_le n s.published) one.1 in
    let covers = two.0 in
    let within = two.1 in
    p.looked k n (Hits n (hits (take n s.list) e)) (looked_hits k n e s w (not-true (has_left k s.list) one.0) (le_test (seen_by k s.seen) n covers) (le_test n s.published within)))
    (λ f. p.stays Nothing refl refl)
  where
    le_test : (a b : ℕ) → nat_le a b ≡ true → a ≤ b
    le_test a b t = grind (arith, nat_tests)

tell_outcomes : (k : ℕ) (s : State) (P : State × CoreReply → Type 0) → IsWorld s → Holds s (tells k) P → P (tell k s)
tell_outcomes k s P w p =
    cond_both (is_pending_of k s) (s, Held (length s.list)) (cond (is_ahead k s) (split k s) (after_seeing k s.published s, Nothing)) P
    (λ t. p.stays (Held (length s.list)) refl refl)
    (λ f.
    cond_both (is_ahead k s) (split k s) (after_seeing k s.published s, Nothing) P
    (λ a. absurd (not_ahead k s w a))
    (λ a. p.told k (w.seen k)))

-- what holds of each of these holds of the step
pub step_outcomes : (s : State) (d : Deed) (P : State × CoreReply → Type 0) → is_by 0 d ≡ false → IsWorld s → Holds s d P → P (step s d)
step_outcomes s (asks k e) P by w p = ask_outcomes k e s P by w p
step_outcomes s publishes P by w p = p.published
step_outcomes s reshapes P by w p = p.stays Nothing refl refl
step_outcomes s (reads k n e) P by w p = read_outcomes k n e s P w p
step_outcomes s (tells k) P by w p = tell_outcomes k s P w p
step_outcomes s (leaves k) P by w p = leave_outcomes k s P by w p
