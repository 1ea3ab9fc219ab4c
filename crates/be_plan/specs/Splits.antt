-- The first splits at a node.
use Rattle.std.specs.Prelude.{ℕ, zero, suc, ◌&&◌, ◌||◌, Bool, false, not, List, nat_le, count_by, Option, Some, None, if◌then◌else◌}
use Rattle.be_base.specs.declared.names.AttrNo.{AttrNo}
use Rattle.be_base.specs.declared.limits.TheConstants.{EARLY_ROWS}
use Rattle.be_model.specs.declared.changes.Row.{Row}
use Rattle.be_model.specs.declared.paths.Hop.{Hop}
use Rattle.be_model.specs.declared.paths.Hop.TheVariants.{Part, Low, High}
use Rattle.be_model.specs.Rows.{has}
use Rattle.be_model.specs.Schemas.{Attributes, numbered}
use Rattle.be_score.specs.Picks.{pick}
use Rattle.be_shape.specs.Shape.{NodeRange, Known, is_used, can_split}
use Rattle.be_shape.specs.Children.{may_pass}

-- at least 8 rows may pass
abbrev pub enough_pass : Attributes → Hop → NodeRange → List Row → Bool
enough_pass s hop r rows = nat_le EARLY_ROWS (count_by (may_pass s hop r) rows)

-- the attribute isn't used, and at least 8 rows have it
abbrev pub is_had : List AttrNo → List Row → AttrNo → Bool
is_had used rows a =
    not (is_used used a) && nat_le EARLY_ROWS (count_by (has a) rows)

-- that holds of an attribute below n
abbrev pub any_is_had : List AttrNo → List Row → ℕ → Bool
any_is_had used rows zero = false
any_is_had used rows (suc n) =
    any_is_had used rows n || is_had used rows (numbered n)

abbrev pub where_enough : Attributes → NodeRange → List Row → Option AttrNo → Option AttrNo
where_enough s r rows None = None
where_enough s r rows (Some a) = if enough_pass s (Part a) r rows then Some a else None

-- the attribute that divides the rows best, where at least 8 have it
abbrev pub early_part : Attributes → ℕ → Known → List Row → Option AttrNo
early_part s alpha k rows = where_enough s k.range rows (pick s rows k.used alpha)

-- the first half that encloses at least 8
abbrev pub early_half : Attributes → NodeRange → List Row → Option Hop
early_half s r rows =
    if can_split r && enough_pass s Low r rows then Some Low else (if can_split r && enough_pass s High r rows then Some High else None)
