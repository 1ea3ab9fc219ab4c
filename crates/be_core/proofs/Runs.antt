-- Acts in a row.
use Rattle.std.proofs.Common.{◌≡◌, ℕ, false, List, [], ◌∷◌, ◌++◌, length, refl, sym, ap, ◌∙◌, subst, arith, append_assoc, inl}
use Rattle.std.specs.List.{list_any}
use Rattle.std.proofs.lemmas.Bool.{or_from, or_parts}
use Rattle.std.proofs.lemmas.List.{append-nil}
use Rattle.be_base.specs.Lists.{BeginsWith}
use Rattle.be_base.proofs.Beginnings.{BeginsWith-same, BeginsWith-along}
use Rattle.be_model.specs.Schemas.{Attributes}
use Rattle.be_change.specs.History.{Entry, entries_of, places_of}
use Rattle.be_change.specs.Requests.{Exchange}
use Rattle.be_change.specs.Walk.{Walk, beginning_at, IsLegal, IsLegalSession, accepted}
use Rattle.be_change.proofs.Extends.{legal-append}
use Rattle.be_change.proofs.Walks.{legal-join}
use Rattle.be_change.proofs.Below.{session_below}
use Rattle.be_change.proofs.Places.{no_places}
use Rattle.be_change.proofs.Alone.{accepted-append}
use Rattle.be_core.specs.declared.acts.CoreReply.{CoreReply}
use Rattle.be_core.specs.Acts.{Deed, asks, publishes, reshapes, reads, tells, leaves, is_by, AreOfSessions}
use Rattle.be_core.specs.World.{State, seen_by, step, after_acts, replies, run, is_split, IsWorld}
use Rattle.be_core.specs.Sessions.{exchanges, EachIsLegal, replies_beside, beside_reshapes, ReshapesChangeNothing}
use Rattle.be_core.proofs.Outcomes.{Follows}
use Rattle.be_core.proofs.Answered.{step_kept, step_answered, exchange_in}

-- of acts of sessions the first is a session's, and so are the others
first_act : (a : Deed) (acts : List Deed) → AreOfSessions (a ∷ acts) → (is_by 0 a ≡ false) × AreOfSessions acts
first_act a acts o = or_parts (is_by 0 a) (list_any (is_by 0) acts) o

pub acts_kept : (s : State) (acts : List Deed) → AreOfSessions acts → IsWorld s → IsWorld (after_acts s acts)
acts_kept s [] o w = w
acts_kept s (a ∷ acts) o w =
    let by = first_act a acts o in
    acts_kept (step s a).0 acts by.1 (step_kept s a by.0 w).world

pub acts_grow : (s : State) (acts : List Deed) → AreOfSessions acts → IsWorld s → BeginsWith (after_acts s acts).list s.list
acts_grow s [] o w = BeginsWith-same s.list
acts_grow s (a ∷ acts) o w =
    let by = first_act a acts o in
    let one = step_kept s a by.0 w in
    BeginsWith-along (after_acts (step s a).0 acts).list (step s a).0.list s.list (acts_grow (step s a).0 acts by.1 one.world) one.grows

pub acts_whole : (s : State) (acts : List Deed) → AreOfSessions acts → IsWorld s → list_any is_split (replies s acts) ≡ false
acts_whole s [] o w = refl
acts_whole s (a ∷ acts) o w =
    let by = first_act a acts o in
    let one = step_kept s a by.0 w in
    or_from (is_split (step s a).1) (list_any is_split (replies (step s a).0 acts)) one.whole (acts_whole (step s a).0 acts by.1 one.world)

-- acts in a row are answered legally to the session, over the list that comes of them
record AllAnswered (k : ℕ) (s : State) (acts : List Deed) (w : Walk) : Type 0 where
  pub next : Walk
  pub legal : (x : Attributes) → IsLegal x k (after_acts s acts).list (exchanges k acts (replies s acts)) w next
  pub only : places_of k (after_acts s acts).list ≡ places_of k s.list ++ accepted (exchanges k acts (replies s acts))

acts_answered : (k : ℕ) (s : State) (acts : List Deed) (w : Walk) → AreOfSessions acts → IsWorld s → Follows k s w → AllAnswered k s acts w
acts_answered k s [] w o i f = record { next = w; legal = λ x. refl; only = sym (append-nil (places_of k s.list)) }
acts_answered k s (a ∷ acts) w o i f =
    let by = first_act a acts o in
    let kept = step_kept s a by.0 i in
    let one = step_answered k s a w by.0 i f in
    let s' : State = (step s a).0 in
    let rest = acts_answered k s' acts one.next by.1 kept.world one.follows in
    let ps : List Exchange = exchange_in k a (step s a).1 in
    let qs : List Exchange = exchanges k acts (replies s' acts) in
    let grown = acts_grow s' acts by.1 kept.world in
    record {
      next = rest.next;
      legal = λ x.
          legal-join x k (after_acts s' acts).list ps qs w one.next rest.next
          (subst (λ (h : List Entry). IsLegal x k h ps w one.next) (sym grown.1) (legal-append x k s'.list grown.0 ps w one.next (one.legal x)))
          (rest.legal x);
      only =
          rest.only ∙ (ap (λ (l : List ℕ). l ++ accepted qs) one.only
          ∙ (append_assoc (places_of k s.list) (accepted ps) (accepted qs) ∙ ap (λ (l : List ℕ). places_of k s.list ++ l) (sym (accepted-append ps qs))));
    }

-- a session without an entry has a walk from what it has seen
follows_new : (k : ℕ) (s : State) → entries_of k s.list ≡ [] → Follows k s (beginning_at (seen_by k s.seen))
follows_new k s none_of = record {
  seen = omega arith;
  own = omega arith;
  serial = ap (λ (l : List Entry). length l) (sym none_of);
  ended = sym (no_places k 0 s.list none_of).1;
}

-- the replies to each session without an entry are legal over the list that comes of the acts
pub each_legal : (s : State) (acts : List Deed) → AreOfSessions acts → IsWorld s → EachIsLegal s acts (run s acts)
each_legal s acts o i k none_of =
    let all = acts_answered k s acts (beginning_at (seen_by k s.seen)) o i (follows_new k s none_of) in
    let ps : List Exchange = exchanges k acts (replies s acts) in
    let only : places_of k (after_acts s acts).list ≡ accepted ps = all.only ∙ ap (λ (l : List ℕ). l ++ accepted ps) (no_places k 0 s.list none_of).0 in
    let covers : (x : Attributes) → IsLegalSession x k (seen_by k s.seen) (after_acts s acts).list ps =
    λ x. record { end = all.next; legal = all.legal x; only = inl only } in
    record {
      legal = λ x. session_below x k 0 (seen_by k s.seen) (after_acts s acts).list ps (omega arith) (covers x);
      covers = covers;
      only = only;
    }

-- a Reshape changes no other reply
pub beside_reshapes_same : (s : State) (acts : List Deed) → replies_beside acts (replies s acts) ≡ replies s (beside_reshapes acts)
beside_reshapes_same s [] = refl
beside_reshapes_same s (asks k e ∷ acts) = ap (λ (l : List CoreReply). (step s (asks k e)).1 ∷ l) (beside_reshapes_same (step s (asks k e)).0 acts)
beside_reshapes_same s (publishes ∷ acts) = ap (λ (l : List CoreReply). (step s publishes).1 ∷ l) (beside_reshapes_same (step s publishes).0 acts)
beside_reshapes_same s (reshapes ∷ acts) = beside_reshapes_same s acts
beside_reshapes_same s (reads k n e ∷ acts) = ap (λ (l : List CoreReply). (step s (reads k n e)).1 ∷ l) (beside_reshapes_same (step s (reads k n e)).0 acts)
beside_reshapes_same s (tells k ∷ acts) = ap (λ (l : List CoreReply). (step s (tells k)).1 ∷ l) (beside_reshapes_same (step s (tells k)).0 acts)
beside_reshapes_same s (leaves k ∷ acts) = ap (λ (l : List CoreReply). (step s (leaves k)).1 ∷ l) (beside_reshapes_same (step s (leaves k)).0 acts)

pub beside_reshapes_after : (s : State) (acts : List Deed) → after_acts s acts ≡ after_acts s (beside_reshapes acts)
beside_reshapes_after s [] = refl
beside_reshapes_after s (asks k e ∷ acts) = beside_reshapes_after (step s (asks k e)).0 acts
beside_reshapes_after s (publishes ∷ acts) = beside_reshapes_after (step s publishes).0 acts
beside_reshapes_after s (reshapes ∷ acts) = beside_reshapes_after s acts
beside_reshapes_after s (reads k n e ∷ acts) = beside_reshapes_after (step s (reads k n e)).0 acts
beside_reshapes_after s (tells k ∷ acts) = beside_reshapes_after (step s (tells k)).0 acts
beside_reshapes_after s (leaves k ∷ acts) = beside_reshapes_after (step s (leaves k)).0 acts

pub shape_unseen : (s : State) (acts : List Deed) → ReshapesChangeNothing s acts (run s acts)
shape_unseen s acts =
    ap (λ (t : State). (t, replies s (beside_reshapes acts))) (sym (beside_reshapes_after s acts))
    ∙ ap (λ (l : List CoreReply). (after_acts s acts, l)) (sym (beside_reshapes_same s acts))

-- one more act
pub run-snoc : (s : State) (acts : List Deed) (a : Deed) → run s (acts ++ a ∷ []) ≡ ((step (run s acts).0 a).0, (run s acts).1 ++ (step (run s acts).0 a).1 ∷ [])
run-snoc s [] a = refl
run-snoc s (x ∷ xs) a = ap (λ (r : State × List CoreReply). (r.0, (step s x).1 ∷ r.1)) (run-snoc (step s x).0 xs a)

-- what a run of the acts gave holds of the state and the replies that it led to
pub led : (P : State × List CoreReply → Type 0) (s t : State) (rs : List CoreReply) (acts : List Deed) → (t, rs) ≡ run s acts → P (run s acts) → P (t, rs)
led P s t rs acts e p = subst P (sym e) p
