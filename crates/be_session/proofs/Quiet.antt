-- Answers of a board that accept nothing.
use Rattle.std.proofs.Common.{◌≡◌, ℕ, ◌≤◌, true, false, not, List, [], ◌∷◌, ◌++◌, length, Option, Some, None, is_some, refl, sym, ap, ◌∙◌, subst, arith}
use Rattle.std.specs.Prelude.{All}
use Rattle.std.specs.List.{list_any}
use Rattle.std.proofs.lemmas.List.{append-nil}
use Rattle.be_base.specs.Lists.{BeginsWith}
use Rattle.be_base.proofs.Beginnings.{BeginsWith-same, BeginsWith-length}
use Rattle.be_model.specs.Letters.{PlainLetter}
use Rattle.be_model.specs.Schemas.{Attributes}
use Rattle.be_change.specs.Box.{KeepsBox}
use Rattle.be_change.specs.History.{Entry, is_leave_of, placed_of, IsWellFormed}
use Rattle.be_change.specs.Made.{change_made}
use Rattle.be_change.specs.Requests.{ok, held, bye, Note, Exchange}
use Rattle.be_change.specs.Walk.{Walk, having_seen, Answers, place_accepted}
use Rattle.be_protocol.specs.Runs.{comes_in_run, length_told, IsTold, RemovalMayWant}
use Rattle.be_board.specs.State.{BoardState, GoesOn, NoneFalls, LeavesLetters}
use Rattle.be_board.specs.Word.{Word, own_in, top, Keeps, IsDelivered}
use Rattle.be_board.proofs.Going.{GoesOn-same}
use Rattle.be_session.specs.Bearing.{Stands}
use Rattle.be_protocol.specs.Ends.{goes_on}
use Rattle.be_session.specs.Given.{letters_of, GivesLetters}
use Rattle.be_session.specs.Steps.{places_in, IsLedOn, IsBorne, StepsAlone, Steps}
use Rattle.be_session.specs.Tied.{full_letters, TiedFull, is_read, is_shut, is_split, is_short}
use Rattle.be_session.proofs.BearsOut.{own_same, adds_none}

pub gone_same : (w w' : Word) → w'.session ≡ w.session → w'.own ≡ w.own → list_any (λ (p : ℕ × Entry). is_leave_of w'.session p.1) w'.own ≡ list_any (λ (p : ℕ × Entry). is_leave_of w.session p.1) w.own
gone_same w w' same own =
    ap (λ (k : ℕ). list_any (λ (p : ℕ × Entry). is_leave_of k p.1) w'.own) same ∙ ap (list_any (λ (p : ℕ × Entry). is_leave_of w.session p.1)) own

-- a walk stands by a word that knows more, where nothing was accepted
pub stands_on : (w : Walk) (v v' : Word) → v'.session ≡ v.session → v'.own ≡ v.own → BeginsWith v'.known v.known → Stands w v → Stands w v'
stands_on w v v' same own more st =
    let longer : length v.known ≤ length v'.known = BeginsWith-length v'.known v.known more in
    record {
      seen = omega (arith, st.seen, longer);
      own = subst (λ (l : List (ℕ × Entry)). w.own ≤ top l) (sym own) st.own;
      serial = st.serial ∙ ap (λ (l : List (ℕ × Entry)). length l) (sym (own_same v v' same own));
    }

-- a list that keeps a word keeps an equal one
pub keeps_same : (h h' : List Entry) (w w' : Word) → h' ≡ h → w'.session ≡ w.session → w'.known ≡ w.known → w'.own ≡ w.own → w'.notes ≡ w.notes → Keeps h w → Keeps h' w'
keeps_same h h' w w' whole session known own noted k = record {
  formed = subst (λ (l : List Entry). IsWellFormed l) (sym whole) k.formed;
  known = subst (λ (l : List Entry). BeginsWith l w'.known) (sym whole) (subst (λ (l : List Entry). BeginsWith h l) (sym known) k.known);
  own = ap (placed_of w'.session) whole ∙ (ap (λ (j : ℕ). placed_of j h) session ∙ (k.own ∙ sym (own_same w w' session own)));
  notes = subst (λ (l : List PlainLetter). All (IsDelivered h') l) (sym noted) (subst (λ (l : List Entry). All (IsDelivered l) w.notes) (sym whole) k.notes);
}

-- what accepts no change makes none
pub no_change : (k n m : ℕ) (p : Exchange) → place_accepted p.1 ≡ [] → change_made k n m p ≡ []
no_change k n m (r, ok i) e = absurd cc
no_change k n m (r, held i) e = absurd cc
no_change k n m (r, bye i) e = absurd cc
no_change k n m (r, _) e = refl

-- the answer accepted nothing
pub quiet : (s : Attributes) (p : Exchange) (b b' : BoardState) → GoesOn b b' → b'.word.own ≡ b.word.own → BeginsWith b'.word.notes b.word.notes → place_accepted p.1 ≡ []
    → IsBorne s p b b' → (b.alone ≡ true → is_some b.box ≡ true → StepsAlone p b b') → Steps s p b b'
quiet s p b b' goes own noted nothing borne alone = record {
  goes = goes;
  own = adds_none b.word b'.word own;
  notes = noted;
  places = ap places_in (own_same b.word b'.word goes.session own)
      ∙ (sym (append-nil (places_in (own_in b.word))) ∙ ap (λ (l : List ℕ). places_in (own_in b.word) ++ l) (sym nothing));
  present = λ gone on. gone_same b.word b'.word goes.session own ∙ gone;
  borne = borne;
  alone = alone;
}

-- where nobody else changes the list it is as before
pub quiet_alone : (p : Exchange) (b b' : BoardState) → is_some b'.box ≡ true → comes_in_run true p.1 ≡ true → IsTold (length b'.word.known) (length_told p.1) → RemovalMayWant b.word.session b.word.known p → place_accepted p.1 ≡ []
    → b'.word.session ≡ b.word.session → b'.word.known ≡ b.word.known → b'.word.own ≡ b.word.own → b'.word.notes ≡ b.word.notes → StepsAlone p b b'
quiet_alone p b b' told plain tells removal nothing session known own noted =
    let made_none : change_made b.word.session (length (own_in b.word)) (length b.word.known) p ≡ [] = no_change b.word.session (length (own_in b.word)) (length b.word.known) p nothing in
    let counts : length (own_in b'.word) ≡ length (own_in b.word) = ap (λ (l : List (ℕ × Entry)). length l) (own_same b.word b'.word session own) in
    record {
      told = told;
      plain = plain;
      tells = tells;
      removal = removal;
      grows = known ∙ (sym (append-nil b.word.known) ∙ ap (λ (l : List Entry). b.word.known ++ l) (sym made_none));
      counted = omega (arith, counts, ap (λ (l : List Entry). length l) made_none);
      keeps = λ k. keeps_same b.word.known b'.word.known b.word b'.word known session known own noted k;
    }

pub told_same : (b b' : BoardState) → b'.box ≡ b.box → is_some b.box ≡ true → is_some b'.box ≡ true
told_same b b' same told = ap (λ (o : Option (List Note)). is_some o) same ∙ told

-- no letter of a SEND is counted
pub full_by : (h : List Entry) (p : Exchange) (b b' : BoardState) → full_letters h p ≡ 0 → NoneFalls b.counts b'.counts → TiedFull h (p ∷ []) b.counts b'.counts
full_by h p b b' zero falls = omega (arith, zero, falls.fulls)

-- a board that was asked nothing moves no letters
pub letters_still : (b : BoardState) → LeavesLetters b b
letters_still b = record { notes = refl; box = refl; puts = refl; fulls = refl }

-- the exchange moves no letters
pub letters_by : (o : Option (List Note)) (p : Exchange) (b b' : BoardState) → b.box ≡ o → letters_of p.1 ≡ [] → LeavesLetters b b'
    → ((h : List Entry) (box : List Note) → KeepsBox h (p ∷ []) box box) → GivesLetters o (p ∷ []) b b'
letters_by None p b b' e without l keeps = (l.box ∙ e, ([], l.notes ∙ sym (append-nil b.word.notes), append-nil (letters_of p.1) ∙ without))
letters_by (Some box) p b b' e without l keeps = (l.notes, box, l.box ∙ e, λ h bears. keeps h box)

-- a reply that leaves the walk where it is
pub led_same : (s : Attributes) (h : List Entry) (w : Walk) (p : Exchange) (b b' : BoardState) → Answers s b.word.session h p.0 p.1 w w → GoesOn b b' → b'.word.own ≡ b.word.own
    → Stands w b.word → w.ended ≡ false → goes_on p ≡ true → full_letters h p ≡ 0 → IsLedOn s h w p b b'
led_same s h w p b b' answers goes own stands going on zero = record {
  next = w;
  answers = answers;
  stands = stands_on w b.word b'.word goes.session own goes.known stands;
  ended = going ∙ ap not (sym on);
  full = full_by h p b b' zero goes.counts;
}

-- a reply that tells the length of the known list
pub led_told : (s : Attributes) (h : List Entry) (w : Walk) (p : Exchange) (n : ℕ) (b b' : BoardState) → n ≡ length b'.word.known → Answers s b.word.session h p.0 p.1 w (having_seen n w) → GoesOn b b'
    → b'.word.own ≡ b.word.own → Stands w b.word → w.ended ≡ false → goes_on p ≡ true → TiedFull h (p ∷ []) b.counts b'.counts → IsLedOn s h w p b b'
led_told s h w p n b b' whole answers goes own stands going on full =
    let same : Stands w b'.word = stands_on w b.word b'.word goes.session own goes.known stands in
    record {
      next = having_seen n w;
      answers = answers;
      stands = record { seen = omega (arith, whole); own = same.own; serial = same.serial };
      ended = going ∙ ap not (sym on);
      full = full;
    }

-- a board that was asked nothing
pub still : (s : Attributes) (p : Exchange) (b : BoardState) → ((h : List Entry) (w : Walk) → Answers s b.word.session h p.0 p.1 w w) → ((h : List Entry) → full_letters h p ≡ 0)
    → goes_on p ≡ true → comes_in_run true p.1 ≡ true → length_told p.1 ≡ None → RemovalMayWant b.word.session b.word.known p → place_accepted p.1 ≡ [] → Steps s p b b
still s p b answers zero on plain silent removal nothing =
    quiet s p b b (GoesOn-same b) refl (BeginsWith-same b.word.notes) nothing
    (λ h w bears stands going. led_same s h w p b b (answers h w) (GoesOn-same b) refl stands going on (zero h))
    (λ alone told. quiet_alone p b b told plain (subst (IsTold (length b.word.known)) (sym silent) tt) removal nothing refl refl refl refl)
