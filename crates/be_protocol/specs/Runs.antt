-- A run with one session, over an opening and the changes that it makes itself.
use Rattle.std.specs.Prelude.{◌≡◌, ℕ, ◌+◌, Bool, true, false, not, List, [], ◌∷◌, ◌++◌, length, Option, Some, None}
use Rattle.std.specs.List.{list_all}
use Rattle.be_io.specs.Lines.{TextLine}
use Rattle.be_model.specs.Schemas.{Attributes}
use Rattle.be_change.specs.History.{Entry, IsWellFormed, live, is_live_name_of}
use Rattle.be_change.specs.Requests.{Request, unsubscribe, quit, Reply, ok, held, bye, dup, none, other, hit, cost, listed, sent, dumped, tailed, split, no_memory, shut, Note, Exchange}
use Rattle.be_change.specs.Box.{KeepsBox}
use Rattle.be_change.specs.Walk.{accepted}
use Rattle.be_change.specs.Made.{made}
use Rattle.be_protocol.specs.Readings.{reading}
use Rattle.be_protocol.specs.Transcript.{AreExchanges}

abbrev pub is_opened : List Entry → Bool
is_opened [] = false
is_opened (e ∷ es) = true

-- a run with one session publishes each change at once and refuses no reader. Only an opening has another session's rows
abbrev pub comes_in_run : (opened : Bool) → Reply → Bool
comes_in_run opened (held n) = false
comes_in_run opened (other m id) = opened
comes_in_run opened (split a b) = false
comes_in_run opened shut = false
comes_in_run opened _ = true

-- the length of the list of changes that a reply tells
abbrev pub length_told : Reply → Option ℕ
length_told (ok n) = Some n
length_told (held n) = Some n
length_told (bye n) = Some n
length_told (dup m id) = Some m
length_told (none m) = Some m
length_told (other m id) = Some m
length_told (hit n names) = Some n
length_told (cost n c) = Some n
length_told (listed n names) = Some n
length_told (sent n put dropped) = Some n
length_told (dumped n rows) = Some n
length_told (tailed n place entries) = Some n
length_told _ = None

abbrev pub IsTold : ℕ → Option ℕ → Type 0
IsTold n (Some m) = m ≡ n
IsTold n None = Unit {0}

-- over a list of n entries, each reply tells exactly how many there are then, its own change with them
abbrev pub TellsCounts : ℕ → List Exchange → Type 0
TellsCounts n [] = Unit {0}
TellsCounts n (p ∷ ps) = IsTold (n + length (accepted (p ∷ []))) (length_told p.1) × TellsCounts (n + length (accepted (p ∷ []))) ps

-- memory may be wanting to a removal only where session k has a live row of the name
abbrev pub RemovalMayWant : (k : ℕ) → List Entry → Exchange → Type 0
RemovalMayWant k h (unsubscribe name, no_memory) = is_live_name_of k name (live h) ≡ true
RemovalMayWant k h _ = Unit {0}

-- the same of each exchange, over the list that those before it made
abbrev pub RemovalsMayWant : (opening : List Entry) (k : ℕ) (before : List Exchange) → List Exchange → Type 0
RemovalsMayWant opening k before [] = Unit {0}
RemovalsMayWant opening k before (p ∷ ps) =
    RemovalMayWant k (made opening k before) p × RemovalsMayWant opening k (before ++ p ∷ []) ps

-- what is more known of replies where session k is alone behind an opening
pub record AreAlone (opening : List Entry) (k : ℕ) (ps : List Exchange) : Type 0 where
  pub plain : list_all (λ (p : Exchange). comes_in_run (is_opened opening) p.1) ps ≡ true
  pub counts : TellsCounts (length opening) ps
  pub removals : RemovalsMayWant opening k [] ps

-- the exchanges of a run with one session, number 1, over the opening and what they make
pub record AreRun (s : Attributes) (opening : List Entry) (ls : List TextLine) (ps : List Exchange) : Type 0 where
  -- each line has its reply, legal over that list
  pub exchanges : AreExchanges s 1 (length opening) (made opening 1 ps) ls ps
  pub formed : IsWellFormed (made opening 1 ps)
  pub alone : AreAlone opening 1 ps
  -- letters are put into its box and taken out of it
  pub box : List Note
  pub boxed : KeepsBox (made opening 1 ps) ps [] box

abbrev pub is_quit : Request → Bool
is_quit quit = true
is_quit _ = false

-- none of these lines is a QUIT
abbrev pub HasNoQuit : Attributes → List TextLine → Type 0
HasNoQuit s ls = list_all (λ (line : TextLine). not (is_quit (reading s line))) ls ≡ true

-- the last of these lines is a QUIT, and no line before it is one
abbrev pub EndsWithQuit : Attributes → List TextLine → Type 0
EndsWithQuit s ls = (front : List TextLine) × (last : TextLine) × (ls ≡ front ++ last ∷ []) × HasNoQuit s front × (reading s last ≡ quit)
