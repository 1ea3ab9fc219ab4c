-- What is legal over a list stays legal over each longer one.
use Rattle.std.proofs.Common.{◌≡◌, inl, inr, ℕ, ◌+◌, ◌-◌, ◌<◌, ◌≤◌, false, List, [], ◌∷◌, ◌++◌, length, take, Some, slice_get, sym, ◌∙◌, ap, subst, refl, arith, length-append}
use Rattle.std.specs.Prelude.{All}
use Rattle.std.proofs.lemmas.List.{take-append-le}
use Rattle.std.proofs.lemmas.Option.{slice_get_within, slice_get-get_or, get_or_from_slice_get}
use Rattle.std.proofs.Math.ListN.{get_or-append}
use Rattle.be_model.specs.Schemas.{Attributes}
use Rattle.be_model.specs.Bounds.{IsWithinBound}
use Rattle.be_model.specs.ByIds.{row_at}
use Rattle.be_change.specs.History.{Entry, live, hits, places_of, is_live_name, left}
use Rattle.be_change.specs.Requests.{Request, Reply, Note, Exchange, refused, subscribe, unsubscribe, publish, costing, listing, sending, fetching, dumping, tailing, quit, refusal, ok, held, bye, dup, none, other, hit, cost, listed, sent, notes, dumped, tailed, split, no_memory, shut}
use Rattle.be_change.specs.Walk.{Walk, IsReadAt, IsRefusedAt, IsAcceptedAt, IsNoteFor, Answers, IsLegal, HasNameAt, HasNameOfAnotherAt, names_of_session, live_rows, tail_from, LeftSilently, HasOnly, IsLegalSession, beginning_at}
use Rattle.be_change.proofs.Places.{places_kept}

read-append : (h more : List Entry) (w : Walk) (n : ℕ) → IsReadAt h w n → IsReadAt (h ++ more) w n
read-append h more w n r = record { covers = r.covers; within = omega (arith, length-append h more, r.within) }

refused-append : (h more : List Entry) (w : Walk) (m : ℕ) → IsRefusedAt h w m → IsRefusedAt (h ++ more) w m
refused-append h more w m r =
    record { covers = r.covers; covers_own = r.covers_own; within = omega (arith, length-append h more, r.within) }

-- an entry keeps its place
pub get-append : (h more : List Entry) (i : ℕ) (e : Entry) → slice_get h i ≡ Some e → slice_get (h ++ more) i ≡ Some e
get-append h more i e at =
    let inside : i < length h = slice_get_within h i e at in
    let long : i < length (h ++ more) = omega (arith, length-append h more, inside) in
    slice_get-get_or (h ++ more) i e long ∙ ap (λ (x : Entry). Some x) (get_or-append h more e i inside ∙ get_or_from_slice_get h i e e at)

accepted-append : (k : ℕ) (h more : List Entry) (w : Walk) (r : Request) (n : ℕ) → IsAcceptedAt k h w r n → IsAcceptedAt k (h ++ more) w r n
accepted-append k h more w r n a =
    record { later = a.later; later_own = a.later_own; entry = a.entry; stands = get-append h more (n - 1) a.entry a.stands; is_it = a.is_it }

-- what holds of the first n entries holds of the first n of a longer list
along : (h more : List Entry) (n : ℕ) (P : List Entry → Type 0) → n ≤ length h → P (take n h) → P (take n (h ++ more))
along h more n P within p = subst P (sym (take-append-le n h more within)) p

note-append : (k : ℕ) (h more : List Entry) (x : Note) → IsNoteFor k h x → IsNoteFor k (h ++ more) x
note-append k h more x a = record {
  within = omega (arith, length-append h more, a.within);
  id = a.id;
  row = a.row;
  stands = along h more x.n (λ l. row_at a.id (live l) ≡ Some a.row) a.within a.stands;
  owner = a.owner;
  named = a.named;
  satisfied = a.satisfied;
}

-- letters for a session over a list are letters for it over each longer one
pub notes-append : (k : ℕ) (h more : List Entry) (xs : List Note) → All (IsNoteFor k h) xs → All (IsNoteFor k (h ++ more)) xs
notes-append k h more xs a = λ i x inside. note-append k h more _ (a i x inside)

-- a reply over a list may be given over each longer one
pub answers-append : (s : Attributes) (k : ℕ) (h more : List Entry) (r : Request) (t : Reply) (w w' : Walk) → Answers s k h r t w w' → Answers s k (h ++ more) r t w w'
answers-append s k h more (refused r) (refusal t) w w' a = a
answers-append s k h more (subscribe name conj) (ok n) w w' a = (accepted-append k h more w _ n a.0, a.1)
answers-append s k h more (subscribe name conj) (held n) w w' a = (accepted-append k h more w _ n a.0, a.1)
answers-append s k h more (subscribe name conj) (dup m id) w w' a =
    (refused-append h more w m a.0, along h more m (λ l. HasNameAt (live l) id name) a.0.within a.1, a.2)
answers-append s k h more (subscribe name conj) no_memory w w' a = a
answers-append s k h more (subscribe name conj) (split i j) w w' a = a
answers-append s k h more (unsubscribe name) (ok n) w w' a = (accepted-append k h more w _ n a.0, a.1)
answers-append s k h more (unsubscribe name) (held n) w w' a = (accepted-append k h more w _ n a.0, a.1)
answers-append s k h more (unsubscribe name) (none m) w w' a =
    (refused-append h more w m a.0, along h more m (λ l. is_live_name name (live l) ≡ false) a.0.within a.1, a.2)
answers-append s k h more (unsubscribe name) (other m id) w w' a =
    (refused-append h more w m a.0, along h more m (λ l. HasNameOfAnotherAt k (live l) id name) a.0.within a.1, a.2)
answers-append s k h more (unsubscribe name) no_memory w w' a = a
answers-append s k h more (unsubscribe name) (split i j) w w' a = a
answers-append s k h more (publish e) (hit n names) w w' a =
    (read-append h more w n a.0, along h more n (λ l. names ≡ hits l e) a.0.within a.1, a.2)
answers-append s k h more (publish e) no_memory w w' a = a
answers-append s k h more (publish e) shut w w' a = a
answers-append s k h more (costing e) (cost n c) w w' a =
    (read-append h more w n a.0, along h more n (λ l. IsWithinBound s e (live_rows l) c) a.0.within a.1, a.2)
answers-append s k h more (costing e) no_memory w w' a = a
answers-append s k h more (costing e) shut w w' a = a
answers-append s k h more listing (listed n names) w w' a =
    (read-append h more w n a.0, along h more n (λ l. names ≡ names_of_session k l) a.0.within a.1, a.2)
answers-append s k h more listing no_memory w w' a = a
answers-append s k h more listing shut w w' a = a
answers-append s k h more (sending e) (sent n put dropped) w w' a =
    (read-append h more w n a.0, along h more n (λ l. put + dropped ≡ length (hits l e)) a.0.within a.1, a.2)
answers-append s k h more (sending e) no_memory w w' a = a
answers-append s k h more (sending e) shut w w' a = a
answers-append s k h more (fetching max) (notes letters) w w' a = (a.0, notes-append k h more letters a.1, a.2)
answers-append s k h more dumping (dumped n rows) w w' a =
    (read-append h more w n a.0, along h more n (λ l. rows ≡ live_rows l) a.0.within a.1, a.2)
answers-append s k h more dumping no_memory w w' a = a
answers-append s k h more dumping shut w w' a = a
answers-append s k h more (tailing place max) (tailed n start entries) w w' a =
    (read-append h more w n a.0, a.1, along h more n (λ l. entries ≡ tail_from place max l) a.0.within a.2, a.3)
answers-append s k h more (tailing place max) no_memory w w' a = a
answers-append s k h more (tailing place max) shut w w' a = a
answers-append s k h more quit (bye n) w w' a = (accepted-append k h more w _ n a.0, a.1)
answers-append s k h more quit (held n) w w' a = (accepted-append k h more w _ n a.0, a.1)
answers-append s k h more quit no_memory w w' a = a
answers-append s k h more quit (split i j) w w' a = a
answers-append s k h more _ _ w w' a = absurd a

-- what is legal over a list is legal over each longer one
pub legal-append : (s : Attributes) (k : ℕ) (h more : List Entry) (ps : List Exchange) (w w' : Walk) → IsLegal s k h ps w w' → IsLegal s k (h ++ more) ps w w'
legal-append s k h more [] w w' l = l
legal-append s k h more (p ∷ ps) w w' l =
    (l.0, l.1, answers-append s k h more p.0 p.1 w l.1 l.2, legal-append s k h more ps l.1 w' l.3)

-- one more exchange
pub legal-snoc : (s : Attributes) (k : ℕ) (h : List Entry) (ps : List Exchange) (r : Request) (t : Reply) (w w1 w2 : Walk) → IsLegal s k h ps w w1 → w1.ended ≡ false → Answers s k h r t w1 w2
    → IsLegal s k h (ps ++ (r, t) ∷ []) w w2
legal-snoc s k h [] r t w w1 w2 l open_ a =
    (ap (λ (x : Walk). x.ended) (sym l) ∙ open_, w2, subst (λ (x : Walk). Answers s k h r t x w2) l a, refl)
legal-snoc s k h (p ∷ ps) r t w w1 w2 l open_ a = (l.0, l.1, l.2, legal-snoc s k h ps r t l.1 w1 w2 l.3 open_ a)

pub left_silently-append : (k : ℕ) (h more : List Entry) (w : Walk) (place : ℕ) → LeftSilently k h w place → LeftSilently k (h ++ more) w place
left_silently-append k h more w place s =
    record { present = s.present; stands = get-append h more place (left k w.serial) s.stands; later = s.later; later_own = s.later_own }

-- a session's changes stay those that were accepted, whatever other sessions add
pub only-append : (k : ℕ) (h more : List Entry) (ps : List Exchange) (w : Walk) → places_of k more ≡ [] → HasOnly k h ps w → HasOnly k (h ++ more) ps w
only-append k h more ps w e (inl a) = inl (places_kept k h more e ∙ a)
only-append k h more ps w e (inr a) = inr (a.0, left_silently-append k h more w a.0 a.1, places_kept k h more e ∙ a.2)

-- a session stays legal, whatever other sessions add
pub legal_session-append : (s : Attributes) (k z : ℕ) (h more : List Entry) (ps : List Exchange) → places_of k more ≡ [] → IsLegalSession s k z h ps → IsLegalSession s k z (h ++ more) ps
legal_session-append s k z h more ps e l =
    record { end = l.end; legal = legal-append s k h more ps (beginning_at z) l.end l.legal; only = only-append k h more ps l.end e l.only }
