-- What a change makes of the desk and the seat, as a board says it.
use Rattle.std.proofs.Common.{◌≡◌, ◌≢◌, ℕ, ◌+◌, ◌-◌, ◌<◌, ◌≤◌, ◌⊎◌, inl, inr, List, [], ◌∷◌, ◌++◌, length, Some, slice_get, refl, sym, ap, ◌∙◌, subst, arith, length-append}
use Rattle.be_base.specs.Lists.{BeginsWith}
use Rattle.be_base.proofs.Beginnings.{BeginsWith-length}
use Rattle.be_change.specs.History.{Entry, subscribed, unsubscribed, left, live, is_live_name}
use Rattle.be_change.specs.Made.{change_named, row_made}
use Rattle.be_change.specs.Requests.{Request, subscribe, unsubscribe, quit}
use Rattle.be_change.specs.Walk.{IsChangeOf, HasNameAt, HasNameOfAnotherAt}
use Rattle.be_board.specs.declared.answers.Answer.{Answer}
use Rattle.be_board.specs.declared.answers.Answer.TheVariants.{Done, Held, Dup, NoName, Other, Split, NoMemory}
use Rattle.be_board.specs.Word.{Word, own_in, top}
use Rattle.be_board.specs.Changes.{Answers, Accepts, RefusedAt, Differ}
use Rattle.be_desk.specs.Desks.{DeskState}
use Rattle.be_desk.specs.Seats.{SeatState, word_of}
use Rattle.be_desk.specs.Changes.{serial_in, Agrees, IsRift, Stays, Grew, IsRefusal, Changed, Continues}
use Rattle.be_desk.proofs.Records.{get_last}

-- the change that is named is that of the request
pub change_is : (k n place : ℕ) (r : Request) (e : Entry) → change_named k n place r ≡ e ∷ [] → IsChangeOf k n place r e
change_is k n place (subscribe name conj) e is = subst (IsChangeOf k n place (subscribe name conj)) (first is) (refl, refl, refl, refl, refl, refl)
  where
    first : subscribed k n (row_made k place name conj) ∷ [] ≡ e ∷ [] → subscribed k n (row_made k place name conj) ≡ e
    first is = cc
change_is k n place (unsubscribe name) e is = subst (IsChangeOf k n place (unsubscribe name)) (first is) (refl, refl, refl)
  where
    first : unsubscribed k n name ∷ [] ≡ e ∷ [] → unsubscribed k n name ≡ e
    first is = cc
change_is k n place quit e is = subst (IsChangeOf k n place quit) (first is) (refl, refl)
  where
    first : left k n ∷ [] ≡ e ∷ [] → left k n ≡ e
    first is = cc
change_is k n place _ e is = absurd cc

abbrev accepts : (d d' : DeskState) (s s' : SeatState) (r : Request) (n : ℕ) → Grew d d' s s' r n → Accepts (word_of s) (word_of s') r n
accepts d d' s s' r n g =
    let long : n ≡ length d.list + 1 = g.count ∙ (ap (λ (h : List Entry). length h) g.list ∙ length-append d.list (g.entry ∷ [])) in
    let place : length d.list ≡ n - 1 = omega (arith, long) in
    record {
      entry = g.entry;
      is_it = subst (λ (p : ℕ). IsChangeOf s.session (serial_in s) p r g.entry) place (change_is s.session (serial_in s) (length d.list) r g.entry g.named);
      own = g.own ∙ ap (λ (p : ℕ). s.own ++ (p, g.entry) ∷ []) place;
      later = omega (arith, long, BeginsWith-length d.list s.glass.known g.known);
      later_own = omega (arith, long, g.within);
    }

refused_at : (d d' : DeskState) (s s' : SeatState) (m : ℕ) → Stays d d' s s' → Agrees d' s' → m ≡ length d'.list → RefusedAt (word_of s) (word_of s') m
refused_at d d' s s' m stays a at = record {
  length = at ∙ ap (λ (h : List Entry). length h) (sym a.known);
  covers_own = omega (arith, a.within, at);
  own = stays.own;
}

differ : (d : DeskState) (s : SeatState) (a b : ℕ) → IsRift d s a b → Differ (word_of s) a b
differ d s a b (inl x) = inl (x.0, x.2)
differ d s a b (inr (inl x)) = inr (inl (x.1, omega (arith, x.0, x.2, x.3), x.3))
differ d s a b (inr (inr x)) = inr (inr (x.2, λ same. x.4 (sym same)))

refused : (d d' : DeskState) (s s' : SeatState) (r : Request) (answer : Answer) → Stays d d' s s' → Agrees d' s' → IsRefusal d'.list s.session r answer → Answers (word_of s) (word_of s') r answer
refused d d' s s' (subscribe name conj) (Dup m id) stays a why =
    (refused_at d d' s s' m stays a why.0, subst (λ (h : List Entry). HasNameAt (live h) id name) (sym a.known) why.1)
refused d d' s s' (unsubscribe name) (NoName m) stays a why =
    (refused_at d d' s s' m stays a why.0, ap (λ (h : List Entry). is_live_name name (live h)) a.known ∙ why.1)
refused d d' s s' (unsubscribe name) (Other m id) stays a why =
    (refused_at d d' s s' m stays a why.0, subst (λ (h : List Entry). HasNameOfAnotherAt s.session (live h) id name) (sym a.known) why.1)
refused d d' s s' r answer stays a why = absurd why

pub answers : (d d' : DeskState) (s s' : SeatState) (r : Request) (answer : Answer) → Changed d d' s s' r answer → Answers (word_of s) (word_of s') r answer
answers d d' s s' r (Done n) (g, published, known) =
    let long : n ≡ length d.list + 1 = g.count ∙ (ap (λ (h : List Entry). length h) g.list ∙ length-append d.list (g.entry ∷ [])) in
    let place : length d.list ≡ n - 1 = omega (arith, long) in (
      accepts d d' s s' r n g,
      g.count ∙ ap (λ (h : List Entry). length h) (sym known),
      ap (λ (h : List Entry). slice_get h (n - 1)) (known ∙ g.list) ∙ (ap (λ (p : ℕ). slice_get (d.list ++ g.entry ∷ []) p) (sym place) ∙ get_last d.list g.entry),
    )
answers d d' s s' r (Held n) (g, published, known) =
    let long : n ≡ length d.list + 1 = g.count ∙ (ap (λ (h : List Entry). length h) g.list ∙ length-append d.list (g.entry ∷ [])) in
    (accepts d d' s s' r n g, omega (arith, long, ap (λ (h : List Entry). length h) known))
answers d d' s s' r (Split a b) (stays, published, rift) = (stays.own, differ d' s' a b rift)
answers d d' s s' r NoMemory (stays, may) = stays.own
answers d d' s s' r (Dup m id) (stays, a, why) = refused d d' s s' r (Dup m id) stays a why
answers d d' s s' r (NoName m) (stays, a, why) = refused d d' s s' r (NoName m) stays a why
answers d d' s s' r (Other m id) (stays, a, why) = refused d d' s s' r (Other m id) stays a why
