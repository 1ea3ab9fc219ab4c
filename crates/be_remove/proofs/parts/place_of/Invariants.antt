use Rattle.std.proofs.Common.{◌≡◌, ◌+◌, ℕ, List, true, drop}
use Rattle.be_base.specs.declared.names.AttrNo.{AttrNo}
use Rattle.be_shape.specs.declared.nodes.Part.{Part}
use Rattle.be_shape.specs.Plain.{parts_as}
use Rattle.be_shape.specs.Paths.{part_on}
use Rattle.be_remove.specs.Taken.{is_first}
use Rattle.be_remove.proofs.parts.place_of.Given as goal

-- the first among those that are left is the first of all
pub record Left (a : AttrNo) (parts : List Part) (place index : ℕ) : Type 0 where
  pub at : place ≡ index
  pub on : part_on a (parts_as (drop index parts)) ≡ part_on a (parts_as parts)
  pub first : (i : ℕ) → is_first a i (parts_as (drop index parts)) ≡ true → is_first a (index + i) (parts_as parts) ≡ true

abbrev pub invariant-loop-part : goal.invariant-loop-part
invariant-loop-part l = Left l.a l.parts l.place l.part-index
