-- One act keeps what worlds keep, and answers each session legally.
use Rattle.std.proofs.Common.{◌≡◌, ℕ, ◌+◌, ◌-◌, ◌==◌, ◌≤◌, Bool, true, false, ◌||◌, cond, List, [], ◌∷◌, ◌++◌, length, Option, Some, None, refl, sym, ap, ◌∙◌, subst, arith, length-append, eq-eqb}
use Rattle.std.proofs.lemmas.Bool.{eqb-true, or_left, or_right, or_from}
use Rattle.std.proofs.Math.Bool.{or-false}
use Rattle.std.proofs.lemmas.List.{append-nil}
use Rattle.be_base.proofs.Beginnings.{BeginsWith-same, BeginsWith-append}
use Rattle.be_model.specs.Schemas.{Attributes}
use Rattle.be_change.specs.History.{Entry, subscribed, unsubscribed, left, session_of, is_leave_of, entries_of, has_left, places_of}
use Rattle.be_change.specs.Requests.{Request, subscribe, unsubscribe, quit, Reply, held, Exchange}
use Rattle.be_change.specs.Walk.{Walk, having_changed, having_ended, IsChangeOf, IsAcceptedAt, Answers, IsLegal, accepted}
use Rattle.be_change.specs.Walk as walk
use Rattle.be_change.proofs.Forms.{formed_append, entries_of-append}
use Rattle.be_change.proofs.Places.{places_kept, places_snoc, left-append}
use Rattle.be_change.proofs.Alone.{accepted_last, present_snoc}
use Rattle.be_core.specs.declared.acts.CoreReply.{CoreReply}
use Rattle.be_core.specs.declared.acts.CoreReply.TheVariants.{Nothing}
use Rattle.be_core.specs.Acts.{Deed, is_by}
use Rattle.be_core.specs.World.{State, seen_by, having_seen, after_seeing, after_change, step, IsWorld, is_split}
use Rattle.be_core.specs.Sessions.{request_in, reply_in, exchange_of}
use Rattle.be_core.proofs.Naming.{seen-own, seen-other}
use Rattle.be_core.proofs.Outcomes.{Follows, Looked, Changed, step_outcomes}
use Rattle.be_base.specs.Lists.{BeginsWith}

-- one act keeps what a world keeps, splits nobody, and only adds to the list
pub record IsKept (s : State) (r : State × CoreReply) : Type 0 where
  pub world : IsWorld r.0
  pub whole : is_split r.1 ≡ false
  pub grows : BeginsWith r.0.list s.list

-- what a session has seen, after one of them has seen n
seen_after : (j n k m : ℕ) (s : State) → ((j == k) ≡ true → n ≤ m) → seen_by k s.seen ≤ m → seen_by k (having_seen j n s.seen) ≤ m
seen_after j n k m s own rest = which (j == k) refl
  where
    which : (b : Bool) → (j == k) ≡ b → seen_by k (having_seen j n s.seen) ≤ m
    which true t =
        let one : seen_by k (having_seen j n s.seen) ≡ n = ap (λ (i : ℕ). seen_by k (having_seen i n s.seen)) (eqb-true j k t) ∙ seen-own k n s.seen in
        let less : n ≤ m = own t in
        omega arith
    which false f = let same : seen_by k (having_seen j n s.seen) ≡ seen_by k s.seen = seen-other j k n s.seen f in omega arith

world_seeing : (j n : ℕ) (s : State) → IsWorld s → n ≤ s.published → IsWorld (after_seeing j n s)
world_seeing j n s w within = record {
  formed = w.formed;
  within = w.within;
  one_less = w.one_less;
  seen = λ k. seen_after j n k s.published s (λ t. within) (w.seen k);
}

world_changed : (s : State) (d : Deed) (j : ℕ) (e : Entry) (r : CoreReply) → IsWorld s → Changed s d j e r → IsWorld (after_change e s)
world_changed s d j e r w c = record {
  formed = formed_append s.list e w.formed c.may;
  within = omega (arith, w.within, length-append s.list (e ∷ []));
  one_less = omega (arith, c.all, length-append s.list (e ∷ []));
  seen = w.seen;
}

world_published : (s : State) → IsWorld s → IsWorld (record s { published = length s.list })
world_published s w = record {
  formed = w.formed;
  within = omega arith;
  one_less = omega arith;
  seen = λ k. omega (arith, w.seen k, w.within);
}

-- each act keeps what a world keeps, splits nobody, and only adds to the list
pub step_kept : (s : State) (d : Deed) → is_by 0 d ≡ false → IsWorld s → IsKept s (step s d)
step_kept s d by w = step_outcomes s d (IsKept s) by w (record {
  stays = λ r e whole. record { world = w; whole = whole; grows = BeginsWith-same s.list };
  published = record { world = world_published s w; whole = refl; grows = BeginsWith-same s.list };
  told = λ j covers. record { world = world_seeing j s.published s w (omega arith); whole = refl; grows = BeginsWith-same s.list };
  looked = λ j n r l. record { world = world_seeing j n s w l.within; whole = l.whole; grows = BeginsWith-same s.list };
  changed = λ j e r c. record { world = world_changed s d j e r w c; whole = c.whole; grows = BeginsWith-append s.list (e ∷ []) };
})

-- the session's exchange, where the act is its own and has one
abbrev pub exchange_in : ℕ → Deed → CoreReply → List Exchange
exchange_in k d r = cond (is_by k d) (exchange_of (request_in d) (reply_in r)) []

-- the act is answered legally to the session, over the list that comes of it
pub record Answered (k : ℕ) (s : State) (d : Deed) (w : Walk) (r : State × CoreReply) : Type 0 where
  pub next : Walk
  pub legal : (x : Attributes) → IsLegal x k r.0.list (exchange_in k d r.1) w next
  pub follows : Follows k r.0 next
  pub only : places_of k r.0.list ≡ places_of k s.list ++ accepted (exchange_in k d r.1)

no_reply : (b : Bool) (q : Option Request) (a : Option Reply) → a ≡ None → cond b (exchange_of q a) [] ≡ []
no_reply true (Some q) a e = ap (λ (x : Option Reply). exchange_of (Some q) x) e
no_reply true None a e = refl
no_reply false q a e = refl

one_reply : (b : Bool) (q : Option Request) (a : Option Reply) (x : Request) (y : Reply) → b ≡ true → q ≡ Some x → a ≡ Some y → cond b (exchange_of q a) [] ≡ (x, y) ∷ []
one_reply b q a x y t e f =
    ap (λ (c : Bool). cond c (exchange_of q a) []) t ∙ (ap (λ (o : Option Request). exchange_of o a) e ∙ ap (λ (o : Option Reply). exchange_of (Some x) o) f)

other_reply : (b : Bool) (q : Option Request) (a : Option Reply) → b ≡ false → cond b (exchange_of q a) [] ≡ []
other_reply b q a f = ap (λ (c : Bool). cond c (exchange_of q a) []) f

unanswered : (k : ℕ) (s : State) (d : Deed) (w : Walk) (r : State × CoreReply) → exchange_in k d r.1 ≡ [] → Follows k r.0 w → places_of k r.0.list ≡ places_of k s.list → Answered k s d w r
unanswered k s d w r e f places = record {
  next = w;
  legal = λ x. subst (λ (ps : List Exchange). IsLegal x k r.0.list ps w w) (sym e) refl;
  follows = f;
  only = places ∙ (sym (append-nil (places_of k s.list)) ∙ ap (λ (ps : List Exchange). places_of k s.list ++ accepted ps) (sym e));
}

answered_one : (k : ℕ) (s : State) (d : Deed) (w next : Walk) (r : State × CoreReply) (q : Request) (a : Reply) → exchange_in k d r.1 ≡ (q, a) ∷ [] → w.ended ≡ false → ((x : Attributes) → Answers x k r.0.list q a w next)
    → Follows k r.0 next → places_of k r.0.list ≡ places_of k s.list ++ accepted ((q, a) ∷ []) → Answered k s d w r
answered_one k s d w next r q a e open_ answers f places = record {
  next = next;
  legal = λ x. subst (λ (ps : List Exchange). IsLegal x k r.0.list ps w next) (sym e) (open_, next, answers x, refl);
  follows = f;
  only = places ∙ ap (λ (ps : List Exchange). places_of k s.list ++ accepted ps) (sym e);
}

follows_seeing : (j n k : ℕ) (s : State) (w : Walk) → Follows k s w → seen_by j s.seen ≤ n → Follows k (after_seeing j n s) w
follows_seeing j n k s w f covers = record { seen = which (j == k) refl; own = f.own; serial = f.serial; ended = f.ended }
  where
    which : (b : Bool) → (j == k) ≡ b → w.seen ≤ seen_by k (having_seen j n s.seen)
    which true t =
        let same : j ≡ k = eqb-true j k t in
        let one : seen_by k (having_seen j n s.seen) ≡ n = ap (λ (i : ℕ). seen_by k (having_seen i n s.seen)) same ∙ seen-own k n s.seen in
        let was : seen_by j s.seen ≡ seen_by k s.seen = ap (λ (i : ℕ). seen_by i s.seen) same in
        omega (arith, f.seen)
    which false e = let same : seen_by k (having_seen j n s.seen) ≡ seen_by k s.seen = seen-other j k n s.seen e in omega (arith, f.seen)

answered_looked_own : (k n : ℕ) (s : State) (d : Deed) (w : Walk) (r : CoreReply) → Follows k s w → Looked s d k n r → (k == k) ≡ true → Answered k s d w (after_seeing k n s, r)
answered_looked_own k n s d w r f l t =
    let one : seen_by k (having_seen k n s.seen) ≡ n = seen-own k n s.seen in
    answered_one k s d w (walk.having_seen n w) (after_seeing k n s, r) l.request l.reply
    (one_reply (is_by k d) (request_in d) (reply_in r) l.request l.reply (l.by k ∙ t) l.asked l.answered)
    (f.ended ∙ l.present) (λ x. l.answers x w f)
    (record { seen = omega arith; own = f.own; serial = f.serial; ended = f.ended })
    (sym (append-nil (places_of k s.list)) ∙ ap (λ (l : List ℕ). places_of k s.list ++ l) (sym l.uncounted))

answered_looked : (k : ℕ) (s : State) (d : Deed) (w : Walk) → Follows k s w → (j n : ℕ) (r : CoreReply) → Looked s d j n r → Answered k s d w (after_seeing j n s, r)
answered_looked k s d w f j n r l = which (j == k) refl
  where
    own : j ≡ k → (j == k) ≡ true → Answered k s d w (after_seeing j n s, r)
    own e t =
        subst (λ (i : ℕ). Answered k s d w (after_seeing i n s, r)) (sym e)
        (answered_looked_own k n s d w r f (subst (λ (i : ℕ). Looked s d i n r) e l) (ap (λ (i : ℕ). i == k) (sym e) ∙ t))

    which : (b : Bool) → (j == k) ≡ b → Answered k s d w (after_seeing j n s, r)
    which true t = own (eqb-true j k t) t
    which false e =
        unanswered k s d w (after_seeing j n s, r) (other_reply (is_by k d) (request_in d) (reply_in r) (l.by k ∙ e))
        (follows_seeing j n k s w f l.covers) refl

follows_changed : (k n : ℕ) (s : State) (w next : Walk) (e : Entry) → Follows k s w → n ≡ length s.list + 1 → session_of e ≡ k → next.seen ≡ w.seen → next.own ≡ n → next.serial ≡ w.serial + 1
    → next.ended ≡ has_left k (s.list ++ e ∷ []) → Follows k (after_change e s) next
follows_changed k n s w next e f is of seen own serial ended =
    let more : entries_of k (s.list ++ e ∷ []) ≡ entries_of k s.list ++ e ∷ [] =
    entries_of-append k s.list (e ∷ []) ∙ ap (λ (b : Bool). entries_of k s.list ++ cond b (e ∷ []) []) (eq-eqb (session_of e) k of) in
    record {
      seen = omega (arith, f.seen);
      own = omega (arith, length-append s.list (e ∷ []));
      serial = serial ∙ omega (arith, f.serial, ap (λ (l : List Entry). length l) more, length-append (entries_of k s.list) (e ∷ []));
      ended = ended;
    }

accepted_at : (k n : ℕ) (s : State) (w : Walk) (q : Request) (e : Entry) → Follows k s w → n ≡ length s.list + 1 → seen_by k s.seen ≤ length s.list
    → IsChangeOf k (length (entries_of k s.list)) (length s.list) q e → IsAcceptedAt k (s.list ++ e ∷ []) w q n
accepted_at k n s w q e f is covers it =
    let before : length s.list ≡ n - 1 = omega arith in
    let now : IsChangeOf k w.serial (n - 1) q e =
    subst (λ (i : ℕ). IsChangeOf k w.serial i q e) before (subst (λ (i : ℕ). IsChangeOf k i (length s.list) q e) (sym f.serial) it) in
    accepted_last k s.list w q n e is (omega (arith, f.seen)) f.own now

-- an accepted change moves the session's walk, over the list that has it last
accepted_next : (k n : ℕ) (s : State) (w : Walk) (q : Request) (e : Entry) → Follows k s w → n ≡ length s.list + 1 → seen_by k s.seen ≤ length s.list → has_left k s.list ≡ false → session_of e ≡ k
    → IsChangeOf k (length (entries_of k s.list)) (length s.list) q e → (next : Walk) × ((x : Attributes) → Answers x k (s.list ++ e ∷ []) q (held n) w next) × Follows k (after_change e s) next
accepted_next k n s w (subscribe name conj) (subscribed j m row) f is covers present of it = (
  having_changed n w,
  λ x. (accepted_at k n s w (subscribe name conj) (subscribed j m row) f is covers it, refl),
  follows_changed k n s w (having_changed n w) (subscribed j m row) f is of refl refl refl (f.ended ∙ (present ∙ sym (present_snoc k s.list (subscribed j m row) present refl))),
)
accepted_next k n s w (unsubscribe name) (unsubscribed j m gone) f is covers present of it = (
  having_changed n w,
  λ x. (accepted_at k n s w (unsubscribe name) (unsubscribed j m gone) f is covers it, refl),
  follows_changed k n s w (having_changed n w) (unsubscribed j m gone) f is of refl refl refl (f.ended ∙ (present ∙ sym (present_snoc k s.list (unsubscribed j m gone) present refl))),
)
accepted_next k n s w quit (left j m) f is covers present of it = (
  having_ended (having_changed n w),
  λ x. (accepted_at k n s w quit (left j m) f is covers it, refl),
  follows_changed k n s w (having_ended (having_changed n w)) (left j m) f is of refl refl refl
      (sym (left-append k s.list (left j m ∷ []) ∙ or_right (has_left k s.list) (has_left k (left j m ∷ [])) (or_left (j == k) false (eq-eqb j k of)))),
)
accepted_next k n s w _ _ f is covers present of it = absurd it

left_by_other : (k : ℕ) (e : Entry) → (session_of e == k) ≡ false → is_leave_of k e ≡ false
left_by_other k (subscribed j n row) f = refl
left_by_other k (unsubscribed j n name) f = refl
left_by_other k (left j n) f = f

-- a change of another session leaves the session where it was
follows_other : (k : ℕ) (s : State) (w : Walk) (e : Entry) → Follows k s w → (session_of e == k) ≡ false → Follows k (after_change e s) w
follows_other k s w e f apart =
    let entries : entries_of k (s.list ++ e ∷ []) ≡ entries_of k s.list =
    entries_of-append k s.list (e ∷ []) ∙ (ap (λ (b : Bool). entries_of k s.list ++ cond b (e ∷ []) []) apart ∙ append-nil (entries_of k s.list)) in
    record {
      seen = f.seen;
      own = omega (arith, f.own, length-append s.list (e ∷ []));
      serial = f.serial ∙ ap (λ (l : List Entry). length l) (sym entries);
      ended =
          f.ended ∙ sym (left-append k s.list (e ∷ []) ∙ (ap (λ (b : Bool). has_left k s.list || b) (or_from (is_leave_of k e) false (left_by_other k e apart) refl) ∙ or-false (has_left k s.list)));
    }

answered_changed_own : (k : ℕ) (s : State) (d : Deed) (w : Walk) (e : Entry) (r : CoreReply) → IsWorld s → Follows k s w → Changed s d k e r → (k == k) ≡ true → Answered k s d w (after_change e s, r)
answered_changed_own k s d w e r i f c t =
    let n : ℕ = length s.list + 1 in
    let present : has_left k s.list ≡ false = ap (λ (j : ℕ). has_left j s.list) (sym c.of) ∙ c.may.present in
    let moved = accepted_next k n s w c.request e f refl (omega (arith, i.seen k, i.within)) present c.of c.is_it in
    let place : length s.list ≡ n - 1 = omega arith in
    answered_one k s d w moved.0 (after_change e s, r) c.request (held n)
    (one_reply (is_by k d) (request_in d) (reply_in r) c.request (held n) (c.by k ∙ t) c.asked c.answered)
    (f.ended ∙ present) moved.1 moved.2
    (places_snoc k s.list e c.of ∙ ap (λ (m : ℕ). places_of k s.list ++ m ∷ []) place)

answered_changed : (k : ℕ) (s : State) (d : Deed) (w : Walk) → IsWorld s → Follows k s w → (j : ℕ) (e : Entry) (r : CoreReply) → Changed s d j e r → Answered k s d w (after_change e s, r)
answered_changed k s d w i f j e r c = which (j == k) refl
  where
    own : j ≡ k → (j == k) ≡ true → Answered k s d w (after_change e s, r)
    own same t = answered_changed_own k s d w e r i f (subst (λ (m : ℕ). Changed s d m e r) same c) (ap (λ (m : ℕ). m == k) (sym same) ∙ t)

    which : (b : Bool) → (j == k) ≡ b → Answered k s d w (after_change e s, r)
    which true t = own (eqb-true j k t) t
    which false e' =
        let apart : (session_of e == k) ≡ false = ap (λ (m : ℕ). m == k) c.of ∙ e' in
        unanswered k s d w (after_change e s, r) (other_reply (is_by k d) (request_in d) (reply_in r) (c.by k ∙ e'))
        (follows_other k s w e f apart)
        (places_kept k s.list (e ∷ []) (ap (λ (b : Bool). cond b (0 ∷ []) []) apart))

-- each act is answered legally to each session, over the list that comes of it
pub step_answered : (k : ℕ) (s : State) (d : Deed) (w : Walk) → is_by 0 d ≡ false → IsWorld s → Follows k s w → Answered k s d w (step s d)
step_answered k s d w by i f = step_outcomes s d (Answered k s d w) by i (record {
  stays = λ r e whole. unanswered k s d w (s, r) (no_reply (is_by k d) (request_in d) (reply_in r) e) f refl;
  published =
      unanswered k s d w (record s { published = length s.list }, Nothing) (no_reply (is_by k d) (request_in d) None refl)
      (record { seen = f.seen; own = f.own; serial = f.serial; ended = f.ended }) refl;
  told = λ j covers.
      unanswered k s d w (after_seeing j s.published s, Nothing) (no_reply (is_by k d) (request_in d) None refl)
      (follows_seeing j s.published k s w f covers) refl;
  looked = λ j n r l. answered_looked k s d w f j n r l;
  changed = λ j e r c. answered_changed k s d w i f j e r c;
})
