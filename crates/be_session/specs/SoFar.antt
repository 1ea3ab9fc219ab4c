-- What a board gave in the exchanges of a session so far.
use Rattle.std.specs.Prelude.{◌≡◌, Bool, true, false, not, List, length, is_some}
use Rattle.be_base.specs.Lists.{BeginsWith}
use Rattle.be_model.specs.Schemas.{Attributes}
use Rattle.be_change.specs.History.{Entry}
use Rattle.be_change.specs.Made.{made, changes_made}
use Rattle.be_change.specs.Requests.{Exchange}
use Rattle.be_change.specs.Walk.{Walk, beginning_at, IsLegal, accepted}
use Rattle.be_protocol.specs.Runs.{AreAlone}
use Rattle.be_board.specs.State.{BoardState, HasGoneOn, is_gone}
use Rattle.be_board.specs.Word.{own_in, Keeps}
use Rattle.be_session.specs.Bearing.{Bears, Stands, AddsOwn}
use Rattle.be_session.specs.Given.{GivesLetters}
use Rattle.be_session.specs.Served.{BeginsAlone}
use Rattle.be_session.specs.Steps.{places_in}
use Rattle.be_session.specs.Tied.{Tied, TiedFull, TiedPuts}

-- the list bears out these exchanges, as those of a session that was told of all that was known at entry, and that goes on or not
pub record IsLegalSoFar (s : Attributes) (h : List Entry) (on : Bool) (ps : List Exchange) (b b' : BoardState) : Type 0 where
  pub walk : Walk
  pub legal : IsLegal s b.word.session h ps (beginning_at (length b.word.known)) walk
  pub stands : Stands walk b'.word
  pub ended : walk.ended ≡ not on
  pub full : TiedFull h ps b.counts b'.counts

-- nobody else changes the list, and it is what the exchanges made
pub record RunsOver (s : Attributes) (ps : List Exchange) (b b' : BoardState) : Type 0 where
  pub alone : b'.alone ≡ true
  pub told : is_some b'.box ≡ true
  pub made : made b.word.known b.word.session ps ≡ b'.word.known
  pub serials : length (changes_made b.word.session 0 (length b.word.known) ps) ≡ length (own_in b'.word)
  pub keeps : Keeps b'.word.known b'.word
  pub replies : AreAlone b.word.known b.word.session ps

-- the board gave these exchanges, and the session goes on or not
pub record BoardServes (s : Attributes) (on : Bool) (ps : List Exchange) (b b' : BoardState) : Type 0 where
  pub goes : HasGoneOn b b'
  pub own : AddsOwn b.word b'.word
  pub notes : BeginsWith b'.word.notes b.word.notes
  pub places : places_in (own_in b'.word) ≡ accepted ps
  pub present : on ≡ true → is_gone b' ≡ false
  pub borne : (h : List Entry) → Bears h b'.word → IsLegalSoFar s h on ps b b'
  pub alone : BeginsAlone b → RunsOver s ps b b'

-- what the board gave is tied to its counts, and so are the letters
pub record Serves (s : Attributes) (on : Bool) (ps : List Exchange) (b b' : BoardState) : Type 0 where
  pub board : BoardServes s on ps b b'
  pub tied : Tied false ps ps b.counts b'.counts
  pub puts : TiedPuts ps b b'
  pub letters : GivesLetters b.box ps b b'
