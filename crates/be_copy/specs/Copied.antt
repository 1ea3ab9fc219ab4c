-- A list of changes beside an index.
use Rattle.std.specs.Prelude.{List}
use Rattle.be_change.specs.History.{Entry}

-- the list, and the index that holds what is live in it
pub record Copied (X : Type 0) : Type 0 where
  pub list : List Entry
  pub index : X
