-- What a command works over: its shelf of files, its input, its output and its door, before and after it.
use Rattle.std.specs.Prelude.{◌≡◌, ℕ, List}
use Rattle.be_base.specs.Text.{Text}
use Rattle.be_door.specs.Door.{DoorState}
use Rattle.be_io.specs.Outside.{LinkState, source_state, sink_state}
use Rattle.be_io.specs.Sink.{SinkState}
use Rattle.be_io.specs.Source.{SourceState}
use Rattle.be_io.specs.declared.shelf.Shelf.{Ghosts as Shelf}
use Rattle.be_io.specs.declared.source.Source.{Ghosts as Source}
use Rattle.be_io.specs.declared.sink.Sink.{Ghosts as Sink}
use Rattle.be_server.specs.Files.{ToldFile}

-- what they tell of themselves at one moment
pub record Moment (L : Type 0) : Type 0 where
  -- of the shelf: what each file holds, where it tells so; the files that it was asked for; how many of its calls failed
  pub content : Text → ToldFile
  pub asked : List Text
  pub shelf : ℕ
  -- the input and the output
  pub link : LinkState
  pub door : DoorState L

-- before and after a command
pub record Passage (L : Type 0) : Type 1 where
  pub before : Moment L
  pub after : Moment L
  -- what a link of the door tells
  pub told : L → LinkState
  -- that the input, the output and the door are as they were
  pub InputKept : Type 0
  pub OutKept : Type 0
  pub DoorKept : Type 0

-- what a session reads from and writes to
abbrev pub link : SourceState → SinkState → LinkState
link source sink = record { source = source; sink = sink }

-- the objects that a command works over, as they stand at one moment
pub record Objects (F S K D : Type 0) : Type 0 where
  pub shelf : F
  pub input : S
  pub out : K
  pub door : D

abbrev pub objects : {F S K D : Type 0} → F → S → K → D → Objects F S K D
objects shelf input out door = record { shelf = shelf; input = input; out = out; door = door }

module _ {F S K D L : Type 0} (shelf : Shelf F) (source : Source S) (sink : Sink K) (door : D → DoorState L) where
  abbrev pub moment : Objects F S K D → Moment L
  moment o =
      record {
        content = shelf.content o.shelf;
        asked = shelf.asked o.shelf;
        shelf = shelf.read_faults o.shelf;
        link = link (source_state source o.input) (sink_state sink o.out);
        door = door o.door;
      }

  abbrev pub passage : (L → LinkState) → Objects F S K D → Objects F S K D → Passage L
  passage told before after =
      record {
        before = moment before;
        after = moment after;
        told = told;
        InputKept = after.input ≡ before.input;
        OutKept = after.out ≡ before.out;
        DoorKept = after.door ≡ before.door;
      }
