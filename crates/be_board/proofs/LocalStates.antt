-- What the calls of a local board leave.
use Rattle.std.proofs.Common.{◌≡◌, ℕ, List, [], ◌∷◌, map, Some, refl, sym, ap, ◌∙◌, subst, arith}
use Rattle.std.specs.Prelude.{All}
use Rattle.std.proofs.lemmas.List.Elements.{All-nil, All-cons, All-head, All-tail}
use Rattle.be_base.specs.Lists.{BeginsWith}
use Rattle.be_base.proofs.Beginnings.{BeginsWith-same}
use Rattle.be_model.specs.Letters.{PlainLetter}
use Rattle.be_model.specs.Rows.{id_of}
use Rattle.be_model.specs.Schemas.{Attributes}
use Rattle.be_change.specs.History.{Entry, placed_of, IsWellFormed}
use Rattle.be_change.specs.Requests.{Request, unsubscribe}
use Rattle.be_change.specs.Walk.{IsNoteFor}
use Rattle.be_model.specs.declared.changes.Row.{Row}
use Rattle.be_change.specs.Opening.{IsTable, opening_of}
use Rattle.be_change.proofs.Placed.{placed_kept}
use Rattle.be_change.proofs.Places.{no_places}
use Rattle.be_board.proofs.LocalLists.{none_opened}
use Rattle.be_board.specs.declared.answers.Answer.{Answer}
use Rattle.be_board.specs.declared.answers.Answer.TheVariants.{Done, Held, Dup, NoName, Other, Split, NoMemory}
use Rattle.be_board.specs.Word.{Word, IsDelivered}
use Rattle.be_board.specs.Letters.{note_of, Fetches}
use Rattle.be_board.specs.Changes.{Asked, AnswersAlone, CountsSplit}
use Rattle.be_board.specs.LocalCopy.{local_word, IsAnswered}
use Rattle.be_board.specs.Local.{Local, local_state, opened_state, IsLocalLetter}

begins_same : (h h' : List Entry) → h' ≡ h → BeginsWith h' h
begins_same h h' same = subst (λ (l : List Entry). BeginsWith l h) (sym same) (BeginsWith-same h)

-- a change was put last, or none
pub answered_grows : (h h' : List Entry) (r : Request) (answer : Answer) → IsAnswered h h' r answer → BeginsWith h' h
answered_grows h h' r (Done n) a = (_, a.alone)
answered_grows h h' r (Held n) a = absurd a.alone
answered_grows h h' r (Split i j) a = absurd a.alone
answered_grows h h' (unsubscribe name) NoMemory a = begins_same h h' a.alone.0
answered_grows h h' r _ a = begins_same h h' a.alone

-- all but the list and the index stays
pub record LeavesRest {X : Type 0} (b b' : Local X) : Type 0 where
  pub letters : b'.letters ≡ b.letters
  pub reads : b'.reads ≡ b.reads
  pub fulls : b'.fulls ≡ b.fulls
  pub empties : b'.empties ≡ b.empties

-- nobody is told two numbers
never_split : (w w' : Word) (r : Request) (answer : Answer) (n : ℕ) → AnswersAlone w w' r answer → CountsSplit answer n n
never_split w w' r (Split seen written) n a = absurd a
never_split w w' r (Done m) n a = refl
never_split w w' r (Held m) n a = refl
never_split w w' r (Dup m id) n a = refl
never_split w w' r (NoName m) n a = refl
never_split w w' r (Other m id) n a = refl
never_split w w' r NoMemory n a = refl

asked_local : {X : Type 0} (s s' : Attributes) (b b' : Local X) (r : Request) (answer : Answer) → s' ≡ s → IsAnswered b.list b'.list r answer → IsWellFormed b'.list → LeavesRest b b'
    → Asked (local_state s b) (local_state s' b') r answer
asked_local s s' b b' r answer same a formed rest = record {
  goes = record {
    seat = refl;
    schema = same;
    session = refl;
    alone = refl;
    per_tend = refl;
    known = answered_grows b.list b'.list r answer a;
    counts = record { reads = omega arith; shuts = omega arith; splits = omega arith; fulls = omega arith; empties = omega arith; puts = omega arith; tends = omega arith };
    tends = refl;
  };
  letters = record { notes = refl; box = ap (λ (l : List PlainLetter). Some (map note_of l)) rest.letters; puts = refl; fulls = rest.fulls };
  reads = record { reads = rest.reads; shuts = refl };
  formed = formed;
  answers = a.answers;
  split = never_split (local_word b.list) (local_word b'.list) r answer _ a.alone;
  alone = λ _. a.alone;
}

-- a change was asked for, and answered by the list
pub asked_view : {X : Type 0} (schema : X → Attributes) (v b b' : Local X) (r : Request) (answer : Answer) → v ≡ b → schema b'.index ≡ schema v.index → IsAnswered v.list b'.list r answer → IsWellFormed b'.list → LeavesRest v b'
    → Asked (local_state (schema b.index) b) (local_state (schema b'.index) b') r answer
asked_view {X} schema v b b' r answer is same a formed rest =
    subst (λ (x : Local X). Asked (local_state (schema x.index) x) (local_state (schema b'.index) b') r answer) is (asked_local (schema v.index) (schema b'.index) v b' r answer same a formed rest)

-- the first letter was taken out of the box
pub record TakesFirst {X : Type 0} (v b' : Local X) (l : PlainLetter) : Type 0 where
  pub list : b'.list ≡ v.list
  pub letters : v.letters ≡ l ∷ b'.letters
  pub reads : b'.reads ≡ v.reads
  pub fulls : b'.fulls ≡ v.fulls
  pub empties : b'.empties ≡ v.empties

fetches_local : {X : Type 0} (s s' : Attributes) (v b' : Local X) (l : PlainLetter) → s' ≡ s → TakesFirst v b' l → IsDelivered v.list l → Fetches (local_state s v) (local_state s' b') (Some l)
fetches_local s s' v b' l same t d = record {
  goes = record {
    seat = refl;
    schema = same;
    session = refl;
    alone = refl;
    per_tend = refl;
    known = begins_same v.list b'.list t.list;
    counts = record { reads = omega arith; shuts = omega arith; splits = omega arith; fulls = omega arith; empties = omega arith; puts = omega arith; tends = omega arith };
    tends = refl;
  };
  known = t.list;
  own = ap (placed_of 1) t.list;
  puts = refl;
  fulls = t.fulls;
  reads = record { reads = t.reads; shuts = refl };
  splits = refl;
  from = (refl, map note_of b'.letters, refl, (ap (map note_of) t.letters, d));
}

pub fetches_view : {X : Type 0} (schema : X → Attributes) (v b b' : Local X) (l : PlainLetter) → v ≡ b → schema b'.index ≡ schema v.index → TakesFirst v b' l → IsDelivered v.list l
    → Fetches (local_state (schema b.index) b) (local_state (schema b'.index) b') (Some l)
fetches_view {X} schema v b b' l is same t d =
    subst (λ (x : Local X). Fetches (local_state (schema x.index) x) (local_state (schema b'.index) b') (Some l)) is (fetches_local (schema v.index) (schema b'.index) v b' l same t d)

note_local : (s : Attributes) (h : List Entry) (l : PlainLetter) → IsLocalLetter s h l → IsNoteFor 1 h (note_of l)
note_local s h l a = record {
  within = a.delivered.within;
  id = id_of l.row;
  row = l.row;
  stands = a.delivered.stands;
  owner = a.fit.owner;
  named = refl;
  satisfied = a.fit.satisfied;
}

-- the box holds letters for session 1
pub notes_local : (s : Attributes) (h : List Entry) (ls : List PlainLetter) → All (IsLocalLetter s h) ls → All (IsNoteFor 1 h) (map note_of ls)
notes_local s h [] all = All-nil (IsNoteFor 1 h)
notes_local s h (l ∷ ls) all =
    All-cons (IsNoteFor 1 h) (note_of l) (map note_of ls) (note_local s h l (All-head (IsLocalLetter s h) l ls all)) (notes_local s h ls (All-tail (IsLocalLetter s h) l ls all))

-- of letters of which one stands first, that one is a letter, and so are the others
pub letter_taken : (s : Attributes) (h : List Entry) (ls rest : List PlainLetter) (l : PlainLetter) → ls ≡ l ∷ rest → All (IsLocalLetter s h) ls → IsLocalLetter s h l × All (IsLocalLetter s h) rest
letter_taken s h ls rest l is all =
    let same : All (IsLocalLetter s h) (l ∷ rest) = subst (All (IsLocalLetter s h)) is all in
    (All-head (IsLocalLetter s h) l rest same, All-tail (IsLocalLetter s h) l rest same)

-- a board that was just opened
pub state_opened : {X : Type 0} (s s' : Attributes) (b : Local X) (rows : List Row) → IsTable rows → s' ≡ s → b.list ≡ opening_of rows → b.letters ≡ [] → b.reads ≡ 0 → b.fulls ≡ 0 → b.empties ≡ 0
    → local_state s' b ≡ opened_state s rows
state_opened s s' b rows t same list letters reads fulls empties =
    let none : placed_of 1 (opening_of rows) ≡ [] = placed_kept 1 [] (opening_of rows) (no_places 1 0 (opening_of rows) (none_opened rows t)).0 in
    let own : placed_of 1 b.list ≡ [] = ap (placed_of 1) list ∙ none in
    let box : map note_of b.letters ≡ [] = ap (map note_of) letters in
    cc
