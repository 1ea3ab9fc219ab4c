-- What a place tells of a small set of numbers, one of which its row wants of an attribute.
use Rattle.std.specs.Prelude.{◌≡◌, ℕ, ℤ, ◌||◌, ◌==◌, ◌+◌, ◌/◌, ◌%◌, Bool, true, List, [], ◌∷◌, if◌then◌else◌}
use Rattle.be_model.specs.declared.preds.Pred.{Pred}
use Rattle.be_model.specs.Hulls.{first_of_values, last_of_values}
use Rattle.be_model.specs.Matching.{Assignments, is_among, values_of, satisfies}
use Rattle.be_model.specs.Schemas.{numbered}
use Rattle.be_shape.specs.Lanes.{raised, slot_of, Slot, Lane, Few, seen, is_single, are_single}
use Rattle.be_shape.specs.Listed.{low_part}

-- the value that is seen is one of the ends of the slot, or has these lower bits: those of the middle one of three numbers, or of the
-- first of fewer
abbrev pub may_be : Slot → ℕ → ℕ → Bool
may_be slot middle x = (x == slot.0) || (x == (slot.0 + slot.1) % 4294967296) || (low_part x == middle)

-- of a set whose ends can be told, each number that can be seen may be in it by these bits
abbrev pub LetsSet : List ℤ → ℕ → Type 0
LetsSet xs middle =
    is_single (first_of_values xs ∷ []) ≡ true → is_single (last_of_values xs ∷ []) ≡ true
    → (v : ℤ) → is_single (v ∷ []) ≡ true → is_among xs v ≡ true → may_be (slot_of (first_of_values xs, last_of_values xs)) middle (raised v) ≡ true

-- the event, of single values, may have a value of the set that the lane is of
abbrev pub passes_set : Assignments → ℕ → Lane → Bool
passes_set e middle lane = may_be lane.1 middle (seen (values_of e (numbered lane.0)))

-- the same of the lane at a place, counted from one, where there is one
abbrev pub passes_at : ℕ → ℕ → Few → Assignments → Bool
passes_at at middle t e =
    if at == 1 then passes_set e middle t.first
    else (if at == 2 then passes_set e middle t.second else (if at == 3 then passes_set e middle t.third else true))

-- the same of what a set note says: the place of a lane, and these bits
abbrev pub passes_note : ℕ → Few → Assignments → Bool
passes_note set_note t e = passes_at (set_note / 64) (set_note % 64) t e

-- no event of single values that satisfies the condition is refused by the note
abbrev pub LosesNone : List Pred → ℕ → Few → Type 0
LosesNone conj set_note t = (e : Assignments) → are_single e ≡ true → satisfies e conj ≡ true → passes_note set_note t e ≡ true
