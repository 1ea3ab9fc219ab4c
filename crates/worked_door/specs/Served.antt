-- What a worker makes of its count.
use Rattle.std.specs.Prelude.{◌≡◌, true, false}
use Rattle.be_door.specs.Counts.{CountState}
use Rattle.be_door.specs.Door.{DoorState, IsOf}

module _ {L : Type 0} where
  -- it can still be given links, and none is out
  abbrev pub IsReady : DoorState L → CountState L → Type 0
  IsReady door count = IsOf door count × (count.ended ≡ false) × (count.back ≡ count.given)

  -- it has met the end, and none is out
  abbrev pub IsServed : DoorState L → CountState L → Type 0
  IsServed door count = IsOf door count × (count.ended ≡ true) × (count.back ≡ count.given)
