-- What a search sees of an event.
use Rattle.std.specs.Prelude.{◌≡◌, ◌<◌, ℕ, List, length, get_or}
use Rattle.be_base.specs.declared.names.AttrNo.{AttrNo}
use Rattle.be_model.specs.Matching.{Assignments, values_of}
use Rattle.be_shape.specs.declared.sights.TheConstants.{SEEN}
use Rattle.be_shape.specs.Lanes.{seen}

-- for each attribute below 256, what is seen of its values
abbrev pub TellValues : List ℕ → Assignments → Type 0
TellValues table e = (a : AttrNo) (d : ℕ) → a.0 < SEEN → get_or table a.0 d ≡ seen (values_of e a)

pub record IsSight (table : List ℕ) (e : Assignments) : Type 0 where
  pub size : length table ≡ SEEN
  pub told : TellValues table e
