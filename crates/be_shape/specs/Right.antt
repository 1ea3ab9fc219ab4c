-- Nodes of which all hold that a tree's type keeps.
use Rattle.std.specs.Prelude.{◌≡◌, ◌&&◌, Bool, true}
use Rattle.std.specs.List.{list_all}
use Rattle.be_model.specs.Schemas.{Attributes}
use Rattle.be_shape.specs.Plain.{Plain, rows_below}
use Rattle.be_shape.specs.Shape.{Known, everywhere, is_placed_at, is_drawn_at, is_pruned_at, is_settled_at, may_stand}

-- a node is placed, drawn, pruned and settled
abbrev pub is_right_at : Attributes → Known → Plain → Bool
is_right_at s k n = (is_placed_at s k n && is_drawn_at s k n) && (is_pruned_at k n && is_settled_at s k n)

-- the nodes are all placed, drawn, pruned and settled, and the rows may stand in a tree of the schema
pub record IsRight (s : Attributes) (k : Known) (n : Plain) : Type 0 where
  pub right : everywhere (is_right_at s) s k n ≡ true
  pub may : list_all (may_stand s) (rows_below n) ≡ true
