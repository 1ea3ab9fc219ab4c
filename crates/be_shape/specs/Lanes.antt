-- What a search of an event of single values asks of a place: three lanes, each of an attribute and a slot of values, which goes
-- round.
use Rattle.std.specs.Prelude.{◌≡◌, ℕ, ℤ, pos, ◌+ℤ◌, ◌-ℤ◌, ◌+◌, ◌-◌, ◌%◌, ◌<◌, ◌==◌, ◌&&◌, Bool, true, false, List, [], ◌∷◌, length, nat_le, unsigned_abs, Option, Some, None, int_lt, if◌then◌else◌}
use Rattle.std.specs.List.{list_all}
use Rattle.be_base.specs.declared.names.AttrNo.{AttrNo}
use Rattle.be_model.specs.declared.preds.Pred.{Pred}
use Rattle.be_model.specs.Matching.{Assignments, values_of, satisfies}
use Rattle.be_model.specs.Schemas.{numbered}
use Rattle.be_shape.specs.declared.small_sets.Told.{Told}
use Rattle.be_shape.specs.Glances.{least, greatest, Test}
use Rattle.be_shape.specs.Told.{is_sure}

-- one value, strictly between the least and the greatest number
abbrev pub is_single : List ℤ → Bool
is_single [] = false
is_single (v ∷ []) = int_lt least v && int_lt v greatest
is_single (v ∷ w ∷ vs) = false

-- each attribute to which the event gives values has such a one alone
abbrev pub are_single : Assignments → Bool
are_single e = list_all (λ (item : AttrNo × List ℤ). is_single item.1) e

-- a number of 32 bits, counted from the least
abbrev pub raised : ℤ → ℕ
raised v = unsigned_abs (v +ℤ pos 2147483648)

abbrev pub lowered : ℕ → ℤ
lowered n = pos n -ℤ pos 2147483648

-- a difference that goes round at 32 bits
abbrev pub less : ℕ → ℕ → ℕ
less x y = (x + (4294967296 - y)) % 4294967296

-- a first value, and how many more there are from it on
abbrev pub Slot : Type 0
Slot = ℕ × ℕ

abbrev pub lets : ℕ → Slot → Bool
lets x slot = nat_le (less x slot.0) slot.1

-- the slot of the values between these ends, or of those beyond them where they are turned
abbrev pub slot_of : ℤ × ℤ → Slot
slot_of ends = (raised ends.0, less (raised ends.1) (raised ends.0))

abbrev pub ends_of : Slot → ℤ × ℤ
ends_of slot = (lowered slot.0, lowered ((slot.0 + slot.1) % 4294967296))

-- the slot that lets every event pass, also one without a value
abbrev pub free : Slot
free = (0, 4294967295)

abbrev pub is_free : Slot → Bool
is_free slot = (slot.0 == 0) && (slot.1 == 4294967295)

-- what a table has of an attribute: its only value, counted from the least; where it has none, a number beyond all values; else 0
abbrev pub seen : Option (List ℤ) → ℕ
seen None = 4294967295
seen (Some []) = 0
seen (Some (v ∷ [])) = if int_lt least v && int_lt v greatest then raised v else 0
seen (Some (v ∷ w ∷ vs)) = 0

-- the number of an attribute, and a slot of its values
abbrev pub Lane : Type 0
Lane = ℕ × Slot

abbrev pub lets_event : Assignments → Lane → Bool
lets_event e lane = lets (seen (values_of e (numbered lane.0))) lane.1

-- at most three tests, and three lanes
pub record Few : Type 0 where
  pub tests : List Test
  pub first : Lane
  pub second : Lane
  pub third : Lane

-- the event passes each lane
abbrev pub passes_lanes : Assignments → Few → Bool
passes_lanes e t = lets_event e t.first && (lets_event e t.second && lets_event e t.third)

-- a lane without a test lets all events pass
pub record AreFree (t : Few) : Type 0 where
  pub first : length t.tests < 1 → t.first.1 ≡ free
  pub second : length t.tests < 2 → t.second.1 ≡ free
  pub third : length t.tests < 3 → t.third.1 ≡ free

-- of the events of single values each that satisfies the condition passes the lanes, and where these are sure, no other
pub record HoldLanes (conj : List Pred) (told : Told) (t : Few) : Type 0 where
  pub lost : (e : Assignments) → are_single e ≡ true → satisfies e conj ≡ true → passes_lanes e t ≡ true
  pub sure : is_sure told ≡ true → (e : Assignments) → are_single e ≡ true → passes_lanes e t ≡ true → satisfies e conj ≡ true
