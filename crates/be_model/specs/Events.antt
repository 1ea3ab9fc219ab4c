-- What an event notes beside its items.
use Rattle.std.specs.Prelude.{◌≡◌, ℕ, ℤ, ◌<◌, List, length, nat_lt, get_or, set, if◌then◌else◌}
use Rattle.be_base.specs.declared.names.AttrNo.{AttrNo}
use Rattle.be_model.specs.declared.events.TheConstants.{NOTED}
use Rattle.be_model.specs.Forms.{IsEvent}
use Rattle.be_model.specs.Matching.{Assignments}

-- of each item whose attribute is noted, its place
abbrev pub TellPlaces : List ℕ → Assignments → Type 0
TellPlaces places e = (i : ℕ) (d : AttrNo × List ℤ) → i < length e → (get_or e i d).0.0 < NOTED → get_or places (get_or e i d).0.0 0 ≡ i

-- the places with that of one more item
abbrev pub noted : List ℕ → AttrNo → ℕ → List ℕ
noted places a place = if nat_lt a.0 NOTED then set places a.0 place else places

-- an event beside its places
pub record IsNoted (e : Assignments) (places : List ℕ) : Type 0 where
  pub form : IsEvent e
  pub size : length places ≡ NOTED
  pub told : TellPlaces places e
