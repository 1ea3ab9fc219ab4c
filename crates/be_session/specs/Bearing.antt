-- What a list of changes has to agree with so that it bears out what a board answered so far.
use Rattle.std.specs.Prelude.{◌≡◌, ℕ, ◌≤◌, ◌++◌, List, length, All, Some, slice_get}
use Rattle.be_base.specs.Lists.{BeginsWith}
use Rattle.be_change.specs.History.{Entry, IsWellFormed}
use Rattle.be_change.specs.Walk.{Walk}
use Rattle.be_board.specs.Word.{Word, own_of, own_in, top, IsDelivered}

-- the list has what the word says. Other than a list that keeps the word, it may have later changes of the session
pub record Bears (h : List Entry) (w : Word) : Type 0 where
  pub formed : IsWellFormed h
  pub known : BeginsWith h w.known
  pub own : All (λ (p : ℕ × Entry). slice_get h p.0 ≡ Some p.1) (own_in w)
  pub notes : All (IsDelivered h) w.notes

-- what the session has seen and changed, by the board's word
pub record Stands (w : Walk) (word : Word) : Type 0 where
  pub seen : w.seen ≤ length word.known
  pub own : w.own ≤ top word.own
  pub serial : w.serial ≡ length (own_in word)

-- changes were accepted beside those before, all of them the session's
abbrev pub AddsOwn : Word → Word → Type 0
AddsOwn w w' = (new : List (ℕ × Entry)) × (w'.own ≡ w.own ++ new) × (own_of w.session new ≡ new)
