-- Which lists bear a board's word out.
use Rattle.std.proofs.Common.{◌≡◌, ℕ, ◌==◌, List, [], ◌++◌, Some, slice_get, refl, sym, ap, ◌∙◌, subst, arith, length-append, append_assoc}
use Rattle.std.specs.Prelude.{All}
use Rattle.std.proofs.lemmas.List.{append-nil}
use Rattle.std.proofs.lemmas.List.Elements.{filter-append}
use Rattle.std.proofs.Math.ListN.{get_or-append}
use Rattle.be_base.specs.Lists.{BeginsWith}
use Rattle.be_base.proofs.Beginnings.{BeginsWith-along}
use Rattle.be_change.specs.History.{Entry, session_of, places_of}
use Rattle.be_change.proofs.Placed.{entries_placed}
use Rattle.be_board.specs.Word.{Word, own_of, own_in, Keeps, IsDelivered}
use Rattle.be_session.specs.Bearing.{Bears, AddsOwn}
use Rattle.be_session.specs.Steps.{places_in}

pub all_front : {X : Type 0} (P : X → Type 0) (xs ys : List X) → All P (xs ++ ys) → All P xs
all_front P xs ys a = λ k d l. subst P (get_or-append xs ys d k l) (a k d (omega (arith, length-append xs ys, l)))

-- a list that keeps the word bears it out
pub bears_kept : (h : List Entry) (w : Word) → Keeps h w → Bears h w
bears_kept h w k = record {
  formed = k.formed;
  known = k.known;
  own = subst (All (λ (p : ℕ × Entry). slice_get h p.0 ≡ Some p.1)) k.own (entries_placed w.session h).stand;
  notes = k.notes;
}

-- the accepted changes of the session, where more were accepted since
pub own_since : (w w' : Word) → w'.session ≡ w.session → (b : BeginsWith w'.own w.own) → own_in w' ≡ own_in w ++ own_of w.session b.0
own_since w w' same b =
    ap (λ (k : ℕ). own_of k w'.own) same ∙ ap (own_of w.session) b.1 ∙ filter-append (λ (p : ℕ × Entry). session_of p.1 == w.session) w.own b.0

pub own_same : (w w' : Word) → w'.session ≡ w.session → w'.own ≡ w.own → own_in w' ≡ own_in w
own_same w w' same e = ap (λ (k : ℕ). own_of k w'.own) same ∙ ap (own_of w.session) e

-- what bears a word out bears out each earlier one
pub bears_before : (h : List Entry) (w w' : Word) → w'.session ≡ w.session → BeginsWith w'.known w.known → BeginsWith w'.own w.own → BeginsWith w'.notes w.notes → Bears h w' → Bears h w
bears_before h w w' same known own notes b = record {
  formed = b.formed;
  known = BeginsWith-along h w'.known w.known b.known known;
  own = all_front (λ (p : ℕ × Entry). slice_get h p.0 ≡ Some p.1) (own_in w) (own_of w.session own.0)
      (subst (All (λ (p : ℕ × Entry). slice_get h p.0 ≡ Some p.1)) (own_since w w' same own) b.own);
  notes = all_front (IsDelivered h) w.notes notes.0 (subst (All (IsDelivered h)) notes.1 b.notes);
}

-- the places of a session's entries in a list that keeps the word
pub places_kept_by : (h : List Entry) (w : Word) → Keeps h w → places_of w.session h ≡ places_in (own_in w)
places_kept_by h w k = sym (entries_placed w.session h).places ∙ ap places_in k.own

-- what was accepted begins what is accepted later
pub own_begins : (w w' : Word) → AddsOwn w w' → BeginsWith w'.own w.own
own_begins w w' a = (a.0, a.1)

pub adds_none : (w w' : Word) → w'.own ≡ w.own → AddsOwn w w'
adds_none w w' same = ([], same ∙ sym (append-nil w.own), refl)

pub adds_along : (a b c : Word) → b.session ≡ a.session → AddsOwn a b → AddsOwn b c → AddsOwn a c
adds_along a b c same p q = (
  p.0 ++ q.0,
  q.1 ∙ (ap (λ (l : List (ℕ × Entry)). l ++ q.0) p.1 ∙ append_assoc a.own p.0 q.0),
  filter-append (λ (x : ℕ × Entry). session_of x.1 == a.session) p.0 q.0
      ∙ (ap (λ (l : List (ℕ × Entry)). l ++ own_of a.session q.0) p.2
      ∙ ap (λ (l : List (ℕ × Entry)). p.0 ++ l) (ap (λ (k : ℕ). own_of k q.0) (sym same) ∙ q.2)),
)
