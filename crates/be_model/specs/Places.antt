-- Names by their texts.
use Rattle.std.specs.Prelude.{◌≡◌, ℕ, Bool, List, All}
use Rattle.std.specs.declared.hash.FoldHasher.{FoldHasher}
use Rattle.std.specs.declared.hash.BuildHasherDefault.{BuildHasherDefault}
use Rattle.std.specs.HashMap.{HashMap, get}
use Rattle.be_base.specs.Text.{Text, IsName, same_text}
use Rattle.be_base.specs.TextLists.{place_of, all_differ}

-- the map has the first place of each name, and the flag says whether the names differ
pub record FindsPlaces (places : HashMap Text ℕ (BuildHasherDefault FoldHasher)) (differ : Bool) (names : List Text) : Type 0 where
  pub form : All IsName names
  pub found : (text : Text) → get same_text places text ≡ place_of text names
  pub flag : differ ≡ all_differ names
