-- Lists of changes that are well formed and lie in a schema.
use Rattle.std.specs.Prelude.{◌≡◌, Bool, true, List}
use Rattle.std.specs.List.{list_all}
use Rattle.be_model.specs.Schemas.{Attributes}
pub use Rattle.be_model.specs.Lies.{entry_lies}
use Rattle.be_change.specs.History.{Entry, IsWellFormed, MayFollow}

abbrev pub all_lie : Attributes → List Entry → Bool
all_lie s h = list_all (entry_lies s) h

pub record Sound (s : Attributes) (h : List Entry) : Type 0 where
  pub formed : IsWellFormed h
  pub lies : all_lie s h ≡ true

-- the entry may come next
pub record MayAppend (s : Attributes) (h : List Entry) (e : Entry) : Type 0 where
  pub follows : MayFollow h e
  pub lies : entry_lies s e ≡ true
