-- What a board answers to a change that is asked for.
use Rattle.std.specs.Prelude.{◌≡◌, ◌≢◌, ℕ, ◌-◌, ◌<◌, ◌≤◌, ◌⊎◌, true, false, [], ◌∷◌, ◌++◌, length, Some, slice_get}
use Rattle.be_base.specs.Counts.{raised}
use Rattle.be_change.specs.History.{Entry, live, is_live_name, is_live_name_of, IsWellFormed}
use Rattle.be_change.specs.Made.{change_named}
use Rattle.be_change.specs.Requests.{Request, subscribe, unsubscribe}
use Rattle.be_change.specs.Walk.{IsChangeOf, HasNameAt, HasNameOfAnotherAt}
use Rattle.be_board.specs.Word.{Word, own_in, top}
use Rattle.be_board.specs.State.{BoardState, GoesOn, LeavesLetters, LeavesReads}
use Rattle.be_board.specs.declared.answers.Answer.{Answer}
use Rattle.be_board.specs.declared.answers.Answer.TheVariants.{Done, Held, Dup, NoName, Other, Split, NoMemory}

-- the change that was asked for was accepted at place n - 1, behind all that was known and accepted before, and nothing
-- else was accepted
pub record Accepts (w w' : Word) (r : Request) (n : ℕ) : Type 0 where
  pub entry : Entry
  pub is_it : IsChangeOf w.session (length (own_in w)) (n - 1) r entry
  pub own : w'.own ≡ w.own ++ (n - 1, entry) ∷ []
  pub later : length w.known < n
  pub later_own : top w.own < n

-- the change is refused over the whole known list, which has all accepted changes
pub record RefusedAt (w w' : Word) (m : ℕ) : Type 0 where
  pub length : m ≡ length w'.known
  pub covers_own : top w'.own ≤ m
  pub own : w'.own ≡ w.own

-- two numbers that should agree and don't: the known list is longer than the published one; an accepted change lies
-- behind the published list; or the session stands elsewhere in the list than its accepted changes say
abbrev pub Differ : Word → ℕ → ℕ → Type 0
Differ w seen written =
    ((seen ≡ length w.known) × (written < seen))
    ⊎ ((seen ≡ top w.own) × (length w.known ≤ seen) × (written < seen))
    ⊎ ((seen ≡ length (own_in w)) × (written ≢ seen))

-- what each answer says of the word before and after
abbrev pub Answers : Word → Word → Request → Answer → Type 0
Answers w w' r (Done n) = (a : Accepts w w' r n) × (n ≡ length w'.known) × (slice_get w'.known (n - 1) ≡ Some a.entry)
Answers w w' r (Held n) = Accepts w w' r n × (length w'.known < n)
Answers w w' (subscribe name conj) (Dup m id) = RefusedAt w w' m × HasNameAt (live w'.known) id name
Answers w w' (unsubscribe name) (NoName m) = RefusedAt w w' m × (is_live_name name (live w'.known) ≡ false)
Answers w w' (unsubscribe name) (Other m id) = RefusedAt w w' m × HasNameOfAnotherAt w.session (live w'.known) id name
Answers w w' r (Split seen written) = (w'.own ≡ w.own) × Differ w' seen written
Answers w w' r NoMemory = w'.own ≡ w.own
Answers w w' _ _ = ⊥

-- what more is known where the board is alone: an accepted change is put last and nothing else is, no change is held,
-- and memory may be wanting to a removal only where the session has a live row of the name
abbrev pub AnswersAlone : Word → Word → Request → Answer → Type 0
AnswersAlone w w' r (Done n) = w'.known ≡ w.known ++ change_named w.session (length (own_in w)) (length w.known) r
AnswersAlone w w' r (Held n) = ⊥
AnswersAlone w w' r (Split seen written) = ⊥
AnswersAlone w w' (unsubscribe name) NoMemory = (w'.known ≡ w.known) × (is_live_name_of w.session name (live w.known) ≡ true)
AnswersAlone w w' r answer = w'.known ≡ w.known

-- that two numbers differ is counted once where it is told, and with no other answer to a change
abbrev pub CountsSplit : Answer → ℕ → ℕ → Type 0
CountsSplit (Split seen written) c c' = c' ≡ raised 1 c
CountsSplit answer c c' = c' ≡ c

-- a change was asked for, and answered so. What is known then is well formed
pub record Asked (b b' : BoardState) (r : Request) (answer : Answer) : Type 0 where
  pub goes : GoesOn b b'
  pub letters : LeavesLetters b b'
  pub reads : LeavesReads b b'
  pub formed : IsWellFormed b'.word.known
  pub answers : Answers b.word b'.word r answer
  pub split : CountsSplit answer b.counts.splits b'.counts.splits
  pub alone : b.alone ≡ true → AnswersAlone b.word b'.word r answer
