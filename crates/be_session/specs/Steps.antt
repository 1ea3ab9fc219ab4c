-- What one answer of a board makes of a request's reply: what it leaves, and which lists of changes bear it out.
use Rattle.std.specs.Prelude.{◌≡◌, ℕ, ◌+◌, ◌++◌, true, false, not, List, [], ◌∷◌, length, map, is_some}
use Rattle.be_base.specs.Lists.{BeginsWith}
use Rattle.be_model.specs.Schemas.{Attributes}
use Rattle.be_change.specs.History.{Entry}
use Rattle.be_change.specs.Made.{change_made}
use Rattle.be_change.specs.Requests.{quit, Exchange}
use Rattle.be_change.specs.Walk.{Walk, Answers, place_accepted}
use Rattle.be_protocol.specs.Conduct.{Conduct}
use Rattle.be_protocol.specs.Ends.{goes_on}
use Rattle.be_protocol.specs.Readings.{reading}
use Rattle.be_protocol.specs.Runs.{comes_in_run, length_told, IsTold, RemovalMayWant}
use Rattle.be_board.specs.declared.answers.Answer.{Answer}
use Rattle.be_board.specs.Changes.{Asked}
use Rattle.be_board.specs.State.{BoardState, GoesOn, Tends, is_gone}
use Rattle.be_board.specs.Word.{own_in, Keeps}
use Rattle.be_session.specs.Bearing.{Bears, Stands, AddsOwn}
use Rattle.be_session.specs.Given.{GivesLetters, GivesInPart}
use Rattle.be_session.specs.Tied.{Tied, TiedFull, TiedPuts}

abbrev pub places_in : List (ℕ × Entry) → List ℕ
places_in own = map (λ (p : ℕ × Entry). p.0) own

-- a walk that stands where the board's word stands is led on by the exchange, over each list that bears the new word
pub record IsLedOn (s : Attributes) (h : List Entry) (w : Walk) (p : Exchange) (b b' : BoardState) : Type 0 where
  pub next : Walk
  pub answers : Answers s b.word.session h p.0 p.1 w next
  pub stands : Stands next b'.word
  pub ended : next.ended ≡ not (goes_on p)
  pub full : TiedFull h (p ∷ []) b.counts b'.counts

abbrev pub IsBorne : Attributes → Exchange → BoardState → BoardState → Type 0
IsBorne s p b b' = (h : List Entry) (w : Walk) → Bears h b'.word → Stands w b.word → w.ended ≡ false → IsLedOn s h w p b b'

-- the same where nobody else changes the list, and the box is told
pub record StepsAlone (p : Exchange) (b b' : BoardState) : Type 0 where
  pub told : is_some b'.box ≡ true
  pub plain : comes_in_run true p.1 ≡ true
  pub tells : IsTold (length b'.word.known) (length_told p.1)
  pub removal : RemovalMayWant b.word.session b.word.known p
  pub grows : b'.word.known ≡ b.word.known ++ change_made b.word.session (length (own_in b.word)) (length b.word.known) p
  pub counted : length (own_in b'.word) ≡ length (own_in b.word) + length (change_made b.word.session (length (own_in b.word)) (length b.word.known) p)
  pub keeps : Keeps b.word.known b.word → Keeps b'.word.known b'.word

-- the board was asked what the exchange says
pub record Steps (s : Attributes) (p : Exchange) (b b' : BoardState) : Type 0 where
  pub goes : GoesOn b b'
  pub own : AddsOwn b.word b'.word
  pub notes : BeginsWith b'.word.notes b.word.notes
  pub places : places_in (own_in b'.word) ≡ places_in (own_in b.word) ++ place_accepted p.1
  pub present : is_gone b ≡ false → goes_on p ≡ true → is_gone b' ≡ false
  pub borne : IsBorne s p b b'
  pub alone : b.alone ≡ true → is_some b.box ≡ true → StepsAlone p b b'

-- the reply was, or will be, written whole
pub record Replies (s : Attributes) (p : Exchange) (b b' : BoardState) : Type 0 where
  pub steps : Steps s p b b'
  pub tied : Tied false (p ∷ []) (p ∷ []) b.counts b'.counts
  pub puts : TiedPuts (p ∷ []) b b'
  pub letters : GivesLetters b.box (p ∷ []) b b'

-- only this part of the reply was written
pub record RepliesInPart (s : Attributes) (p : Exchange) (out : List ℕ) (b b' : BoardState) : Type 0 where
  pub steps : Steps s p b b'
  pub tied : Tied false (p ∷ []) [] b.counts b'.counts
  pub puts : TiedPuts (p ∷ []) b b'
  pub letters : GivesInPart b.box s [] p out b b'

-- what a session over a board makes of the board's state
abbrev pub session_conduct : Attributes → Conduct BoardState
session_conduct s = record {
  schema = s;
  asks = reading s;
  Replies = Replies s;
  RepliesInPart = RepliesInPart s;
  Tends = Tends;
  Leaves = λ b b'. (answer : Answer) × Asked b b' quit answer;
}
