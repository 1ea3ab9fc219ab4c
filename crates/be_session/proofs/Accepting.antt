-- A change that a board accepted: it stands in each list that bears the word out, and the walk goes on from it.
use Rattle.std.proofs.Common.{◌≡◌, ℕ, ◌+◌, ◌-◌, ◌≤◌, ◌==◌, Bool, true, false, cond, List, [], ◌∷◌, ◌++◌, length, take, Some, slice_get, refl, sym, ap, ◌∙◌, subst, arith, length-append}
use Rattle.std.specs.Prelude.{All}
use Rattle.std.specs.List.{list_any}
use Rattle.std.proofs.lemmas.Bool.{eq-eqb}
use Rattle.std.proofs.lemmas.List.{map-append, take-append-le}
use Rattle.std.proofs.lemmas.List.Elements.{filter-append, All-tail}
use Rattle.std.proofs.lemmas.List.Folds.{list_any-append}
use Rattle.be_base.specs.Lists.{BeginsWith}
use Rattle.be_base.proofs.Beginnings.{BeginsWith-append, BeginsWith-length, BeginsWith-same}
use Rattle.be_model.specs.Letters.{PlainLetter}
use Rattle.be_model.specs.Rows.{id_of}
use Rattle.be_model.specs.ByIds.{row_at}
use Rattle.be_change.specs.History.{Entry, subscribed, unsubscribed, left, session_of, is_leave_of, placed_of, live, IsWellFormed}
use Rattle.be_change.specs.Made.{change_named, row_made}
use Rattle.be_change.specs.Requests.{Request, subscribe, unsubscribe, quit}
use Rattle.be_change.specs.Walk.{Walk, IsChangeOf, IsAcceptedAt}
use Rattle.be_change.proofs.Placed.{placed_of-append}
use Rattle.be_board.specs.Changes.{Accepts}
use Rattle.be_board.specs.Word.{Word, own_of, own_in, top, Keeps, IsDelivered}
use Rattle.be_board.proofs.Delivered.{delivered_along}
use Rattle.be_session.specs.Bearing.{Bears, Stands, AddsOwn}
use Rattle.be_session.specs.Steps.{places_in}

-- whose change it is
pub change_session : (k n place : ℕ) (r : Request) (e : Entry) → IsChangeOf k n place r e → session_of e ≡ k
change_session k n place (subscribe name conj) (subscribed j m row) is = is.0
change_session k n place (unsubscribe name) (unsubscribed j m gone) is = is.0
change_session k n place quit (left j m) is = is.0
change_session k n place _ _ is = absurd is

-- only a QUIT asks for a Bye
abbrev pub asks_to_leave : Request → Bool
asks_to_leave quit = true
asks_to_leave _ = false

no_leave : (k j n place : ℕ) (r : Request) (e : Entry) → IsChangeOf j n place r e → asks_to_leave r ≡ false → is_leave_of k e ≡ false
no_leave k j n place (subscribe name conj) (subscribed i m row) is never = refl
no_leave k j n place (unsubscribe name) (unsubscribed i m gone) is never = refl
no_leave k j n place quit e is never = absurd cc
no_leave k j n place _ _ is never = absurd is

-- the accepted changes of the session, with the new one
pub own_accepted : (w w' : Word) (r : Request) (n : ℕ) → w'.session ≡ w.session → (a : Accepts w w' r n) → own_in w' ≡ own_in w ++ (n - 1, a.entry) ∷ []
own_accepted w w' r n same a =
    ap (λ (k : ℕ). own_of k w'.own) same
    ∙ (ap (own_of w.session) a.own
    ∙ (filter-append (λ (p : ℕ × Entry). session_of p.1 == w.session) w.own ((n - 1, a.entry) ∷ [])
    ∙ ap (λ (b : Bool). own_in w ++ cond b ((n - 1, a.entry) ∷ []) [])
    (eq-eqb (session_of a.entry) w.session (change_session w.session (length (own_in w)) (n - 1) r a.entry a.is_it))))

-- it is the session's
pub adds_accepted : (w w' : Word) (r : Request) (n : ℕ) → Accepts w w' r n → AddsOwn w w'
adds_accepted w w' r n a = (
  (n - 1, a.entry) ∷ [],
  a.own,
  ap (λ (b : Bool). cond b ((n - 1, a.entry) ∷ []) []) (eq-eqb (session_of a.entry) w.session (change_session w.session (length (own_in w)) (n - 1) r a.entry a.is_it)),
)

pub places_accepted : (w w' : Word) (r : Request) (n : ℕ) → w'.session ≡ w.session → Accepts w w' r n → places_in (own_in w') ≡ places_in (own_in w) ++ (n - 1) ∷ []
places_accepted w w' r n same a = ap places_in (own_accepted w w' r n same a) ∙ map-append (λ (p : ℕ × Entry). p.0) (own_in w) ((n - 1, a.entry) ∷ [])

pub count_accepted : (w w' : Word) (r : Request) (n : ℕ) → w'.session ≡ w.session → Accepts w w' r n → length (own_in w') ≡ length (own_in w) + 1
count_accepted w w' r n same a = ap (λ (l : List (ℕ × Entry)). length l) (own_accepted w w' r n same a) ∙ length-append (own_in w) ((n - 1, a.entry) ∷ [])

pub present_accepted : (w w' : Word) (r : Request) (n : ℕ) → w'.session ≡ w.session → Accepts w w' r n → asks_to_leave r ≡ false
    → list_any (λ (p : ℕ × Entry). is_leave_of w.session p.1) w.own ≡ false → list_any (λ (p : ℕ × Entry). is_leave_of w'.session p.1) w'.own ≡ false
present_accepted w w' r n same a never gone =
    ap (λ (k : ℕ). list_any (λ (p : ℕ × Entry). is_leave_of k p.1) w'.own) same
    ∙ (ap (list_any (λ (p : ℕ × Entry). is_leave_of w.session p.1)) a.own
    ∙ (list_any-append (λ (p : ℕ × Entry). is_leave_of w.session p.1) w.own ((n - 1, a.entry) ∷ [])
    ∙ rw (gone, no_leave w.session w.session (length (own_in w)) (n - 1) r a.entry a.is_it never) refl))

top_last : (own : List (ℕ × Entry)) (p : ℕ × Entry) → p.0 + 1 ≤ top (own ++ p ∷ [])
top_last [] p = omega arith
top_last (q ∷ own) p = let rest : p.0 + 1 ≤ top (own ++ p ∷ []) = top_last own p in omega (arith, rest)

top_front : (own : List (ℕ × Entry)) (p : ℕ × Entry) → top own ≤ top (own ++ p ∷ [])
top_front [] p = omega arith
top_front (q ∷ own) p = let rest : top own ≤ top (own ++ p ∷ []) = top_front own p in omega (arith, rest)

pub top_accepted : (w w' : Word) (r : Request) (n : ℕ) → Accepts w w' r n → (n ≤ top w'.own) × (top w.own ≤ top w'.own)
top_accepted w w' r n a =
    let last : (n - 1) + 1 ≤ top (w.own ++ (n - 1, a.entry) ∷ []) = top_last w.own (n - 1, a.entry) in
    let front : top w.own ≤ top (w.own ++ (n - 1, a.entry) ∷ []) = top_front w.own (n - 1, a.entry) in
    let is : top w'.own ≡ top (w.own ++ (n - 1, a.entry) ∷ []) = ap top a.own in
    (omega (arith, last, is, a.later), omega (arith, front, is))

pub all_last : {X : Type 0} (P : X → Type 0) (xs : List X) (x : X) → All P (xs ++ x ∷ []) → P x
all_last P [] x a = a 0 x (omega arith)
all_last P (y ∷ xs) x a = all_last P xs x (All-tail P y (xs ++ x ∷ []) a)

-- the new change stands in each list that bears the new word
pub stands_accepted : (h : List Entry) (w w' : Word) (r : Request) (n : ℕ) → w'.session ≡ w.session → (a : Accepts w w' r n) → Bears h w' → slice_get h (n - 1) ≡ Some a.entry
stands_accepted h w w' r n same a b =
    all_last (λ (p : ℕ × Entry). slice_get h p.0 ≡ Some p.1) (own_in w) (n - 1, a.entry)
    (subst (All (λ (p : ℕ × Entry). slice_get h p.0 ≡ Some p.1)) (own_accepted w w' r n same a) b.own)

pub accepted_at : (h : List Entry) (w : Walk) (v v' : Word) (r : Request) (n : ℕ) → v'.session ≡ v.session → Accepts v v' r n → Bears h v' → Stands w v → IsAcceptedAt v.session h w r n
accepted_at h w v v' r n same a b st = record {
  later = omega (arith, st.seen, a.later);
  later_own = omega (arith, st.own, a.later_own);
  entry = a.entry;
  stands = stands_accepted h v v' r n same a b;
  is_it = subst (λ (m : ℕ). IsChangeOf v.session m (n - 1) r a.entry) (sym st.serial) a.is_it;
}

-- the change that a request names, as one entry
pub named_one : (k n m place : ℕ) (r : Request) (e : Entry) → IsChangeOf k n m r e → (x : Entry) × (change_named k n place r ≡ x ∷ []) × (session_of x ≡ k)
named_one k n m place (subscribe name conj) e is = (subscribed k n (row_made k place name conj), refl, refl)
named_one k n m place (unsubscribe name) e is = (unsubscribed k n name, refl, refl)
named_one k n m place quit e is = (left k n, refl, refl)
named_one k n m place _ e is = absurd is

last_get : (h : List Entry) (e : Entry) → slice_get (h ++ e ∷ []) (length h) ≡ Some e
last_get [] e = refl
last_get (x ∷ xs) e = last_get xs e

some_same : (x y : Entry) → Some x ≡ Some y → x ≡ y
some_same x y e = cc

delivered_on : (h h' : List Entry) (ls : List PlainLetter) → BeginsWith h' h → All (IsDelivered h) ls → All (IsDelivered h') ls
delivered_on h h' ls more all = λ i x inside. delivered_along h h' _ more (all i x inside)

-- where the known list grew by the change, it keeps the new word
pub keeps_accepted : (v v' : Word) (r : Request) (n : ℕ) → v'.session ≡ v.session → (a : Accepts v v' r n) → n ≡ length v'.known → slice_get v'.known (n - 1) ≡ Some a.entry
    → v'.known ≡ v.known ++ change_named v.session (length (own_in v)) (length v.known) r → IsWellFormed v'.known → v'.notes ≡ v.notes → Keeps v.known v → Keeps v'.known v'
keeps_accepted v v' r n same a whole stands grown formed notes k =
    let x = named_one v.session (length (own_in v)) (n - 1) (length v.known) r a.entry a.is_it in
    let long : v'.known ≡ v.known ++ x.0 ∷ [] = grown ∙ ap (λ (e : List Entry). v.known ++ e) x.1 in
    let place : n - 1 ≡ length v.known = omega (arith, whole, ap (λ (h : List Entry). length h) long, length-append v.known (x.0 ∷ [])) in
    let is : x.0 ≡ a.entry =
    some_same x.0 a.entry (sym (last_get v.known x.0) ∙ (ap (λ (h : List Entry). slice_get h (length v.known)) (sym long) ∙ (ap (slice_get v'.known) (sym place) ∙ stands))) in
    record {
      formed = formed;
      known = BeginsWith-same v'.known;
      own = ap (λ (j : ℕ). placed_of j v'.known) same
          ∙ (ap (placed_of v.session) long
          ∙ (placed_of-append v.session v.known (x.0 ∷ [])
          ∙ (ap (λ (b : Bool). placed_of v.session v.known ++ cond b ((length v.known, x.0) ∷ []) []) (eq-eqb (session_of x.0) v.session x.2)
          ∙ (ap (λ (l : List (ℕ × Entry)). l ++ (length v.known, x.0) ∷ []) k.own
          ∙ (ap (λ (m : ℕ). own_in v ++ (m, x.0) ∷ []) (sym place)
          ∙ (ap (λ (e : Entry). own_in v ++ (n - 1, e) ∷ []) is ∙ sym (own_accepted v v' r n same a)))))));
      notes = subst (λ (l : List PlainLetter). All (IsDelivered v'.known) l) (sym notes)
          (delivered_on v.known v'.known v.notes (subst (λ (h : List Entry). BeginsWith h v.known) (sym long) (BeginsWith-append v.known (x.0 ∷ []))) k.notes);
    }
