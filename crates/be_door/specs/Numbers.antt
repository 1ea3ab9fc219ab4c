-- What the owner of drawn numbers and the workers know.
use Rattle.std.specs.Prelude.{ℕ, Bool, true, false}
use Rattle.atomic_table.specs.Seated.{TableId}

pub record NumbersState : Type 0 where
  pub of : TableId
  -- numbers from 0 that are below `links` have a link each
  pub links : ℕ
  pub workers : ℕ

-- one worker's turn: how many numbers below `links` it has drawn, and whether it has met the end
pub record TurnState : Type 0 where
  pub of : TableId
  pub links : ℕ
  pub drawn : ℕ
  pub ended : Bool

-- the shares that are at home, what their turns have drawn, and how many of these have met the end
pub record HomeState : Type 0 where
  pub of : TableId
  pub links : ℕ
  pub shares : ℕ
  pub drawn : ℕ
  pub ended : ℕ

abbrev pub ends : Bool → ℕ
ends true = 1
ends false = 0
