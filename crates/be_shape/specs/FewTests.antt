-- At most three tests, as a list.
use Rattle.std.specs.Prelude.{Bool, true, false, List, [], ◌∷◌, if◌then◌else◌}
use Rattle.be_shape.specs.declared.test_counts.Count.{Count}
use Rattle.be_shape.specs.declared.test_counts.Count.TheVariants.{Zero, One, Two, Three}
use Rattle.be_model.specs.Schemas.{numbered}
use Rattle.be_shape.specs.Glances.{Test}
use Rattle.be_shape.specs.Lanes.{Slot, Lane, Few, ends_of, is_free}
use Rattle.be_shape.specs.declared.small_sets.Told.{Told}
use Rattle.be_shape.specs.Told.{is_set}

abbrev pub tests_of : Count → Test → Test → Test → List Test
tests_of Zero x y z = []
tests_of One x y z = x ∷ []
tests_of Two x y z = x ∷ y ∷ []
tests_of Three x y z = x ∷ y ∷ z ∷ []

-- the test that a lane is of
abbrev pub test_of : Lane → Test
test_of lane = (numbered lane.0, ends_of lane.1)

abbrev pub few_of : Count → Lane → Lane → Lane → Few
few_of count x y z = record { tests = tests_of count (test_of x) (test_of y) (test_of z); first = x; second = y; third = z }

-- how many tests there are, by the slots: a lane without a test is free, but where a set is all of the condition, which is one test,
-- and the lanes behind the first are of its gaps
abbrev pub count_told : Told → Slot → Slot → Slot → Count
count_told told x y z = if is_set told then One else (if is_free x then Zero else (if is_free y then One else (if is_free z then Two else Three)))

-- the lanes of a place, and the tests that they are of
abbrev pub few_told : Told → Lane → Lane → Lane → Few
few_told told x y z = few_of (count_told told x.1 y.1 z.1) x y z

abbrev pub has_first : Count → Bool
has_first Zero = false
has_first One = true
has_first Two = true
has_first Three = true

abbrev pub has_second : Count → Bool
has_second Zero = false
has_second One = false
has_second Two = true
has_second Three = true

abbrev pub has_third : Count → Bool
has_third Zero = false
has_third One = false
has_third Two = false
has_third Three = true
