-- What a board answers to a read.
use Rattle.std.specs.Prelude.{◌≡◌, ℕ, true, false, length}
use Rattle.be_base.specs.Counts.{raised}
use Rattle.be_base.specs.declared.names.NoRead.{NoRead}
use Rattle.be_base.specs.declared.names.NoRead.TheVariants.{Shut, NoMemory}
use Rattle.be_board.specs.State.{BoardState, GoesOn, LeavesLetters, LeavesReads}

-- a read changes nothing but what is known and what was counted of reads. Where the board is alone, nothing is new to it
pub record Looks (b b' : BoardState) : Type 0 where
  pub goes : GoesOn b b'
  pub own : b'.word.own ≡ b.word.own
  pub letters : LeavesLetters b b'
  pub splits : b'.counts.splits ≡ b.counts.splits
  pub alone : b.alone ≡ true → b'.word.known ≡ b.word.known

-- n is the length of the known list, and the read was counted, and no refused entry
pub record IsReadAt (b b' : BoardState) (n : ℕ) : Type 0 where
  pub length : n ≡ length b'.word.known
  pub counted : b'.counts.reads ≡ raised 1 b.counts.reads
  pub shuts : b'.counts.shuts ≡ b.counts.shuts

-- an entry was refused, which was counted, and no read
pub record CountsShut (b b' : BoardState) : Type 0 where
  pub reads : b'.counts.reads ≡ b.counts.reads
  pub shuts : b'.counts.shuts ≡ raised 1 b.counts.shuts

-- why a read was refused: an entry was refused and counted, or memory was wanting, and nothing was counted. Either leaves the word
abbrev pub Refuses : BoardState → BoardState → NoRead → Type 0
Refuses b b' Shut = (b'.word ≡ b.word) × CountsShut b b' × (b.alone ≡ false)
Refuses b b' NoMemory = (b'.word ≡ b.word) × LeavesReads b b'
