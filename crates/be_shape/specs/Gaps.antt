-- The gaps of a small set.
use Rattle.std.specs.Prelude.{◌≡◌, ◌<ℤ◌, ℤ, ◌&&◌, true, List, [], ◌∷◌, length}
use Rattle.be_model.specs.declared.preds.Pred.{Pred}
use Rattle.be_model.specs.Matching.{Assignments, is_met, values_of}
use Rattle.be_shape.specs.declared.small_sets.Told.{Told}
use Rattle.be_shape.specs.declared.small_sets.Told.TheVariants.{AsFew}
use Rattle.be_shape.specs.Glances.{greatest}
use Rattle.be_shape.specs.Lanes.{Slot, Lane, Few, slot_of, free, are_single, lets_event}

-- rising numbers with these ends, below the greatest
pub record AreThree (x y z : ℤ) (ends : ℤ × ℤ) : Type 0 where
  pub low : ends.0 ≡ x
  pub rise : x <ℤ y
  pub again : y <ℤ z
  pub high : ends.1 ≡ z
  pub small : z <ℤ greatest

pub record AreTwo (x z : ℤ) (ends : ℤ × ℤ) : Type 0 where
  pub low : ends.0 ≡ x
  pub rise : x <ℤ z
  pub high : ends.1 ≡ z
  pub small : z <ℤ greatest

-- these slots refuse what is strictly between two neighbouring numbers of the set, and let the numbers themselves pass
abbrev pub AreGaps : List ℤ → ℤ × ℤ → Slot × Slot → Type 0
AreGaps [] ends gaps = ⊥
AreGaps (x ∷ []) ends gaps = ⊥
AreGaps (x ∷ z ∷ []) ends gaps = AreTwo x z ends × (gaps ≡ (slot_of (ends.1, ends.0), free))
AreGaps (x ∷ y ∷ z ∷ []) ends gaps = AreThree x y z ends × (gaps ≡ (slot_of (y, ends.0), slot_of (ends.1, y)))
AreGaps (x ∷ y ∷ z ∷ w ∷ more) ends gaps = ⊥

-- the events of single values that meet the predicate are those that pass the lanes
pub record TellSet (pred : Pred) (first second third : Lane) : Type 0 where
  pub kept : (e : Assignments) → are_single e ≡ true → is_met (values_of e pred.attr) pred.op ≡ true → (lets_event e first && (lets_event e second && lets_event e third)) ≡ true
  pub said : (e : Assignments) → are_single e ≡ true → (lets_event e first && (lets_event e second && lets_event e third)) ≡ true → is_met (values_of e pred.attr) pred.op ≡ true

-- the condition is one predicate, of which there is one test that isn't all of it, and the events of single values that meet it are those that pass the
-- lane of that test and these slots. Such slots are known of small sets
pub record IsOnlySet (conj : List Pred) (told : Told) (t : Few) (gaps : Slot × Slot) : Type 0 where
  pub pred : Pred
  pub only : conj ≡ pred ∷ []
  pub few : told ≡ AsFew
  pub one : length t.tests ≡ 1
  pub tells : TellSet pred t.first (t.first.0, gaps.0) (t.first.0, gaps.1)
