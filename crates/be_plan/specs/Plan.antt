-- The plan: which step comes next.
use Rattle.std.specs.Prelude.{ℕ, ◌+◌, Bool, List, [], ◌∷◌, ◌++◌, nat_le, filter, map, count_by, Option}
use Rattle.std.specs.List.{find, flat_map}
use Rattle.std.specs.Option.{option_to_list}
use Rattle.be_base.specs.declared.names.AttrNo.{AttrNo}
use Rattle.be_base.specs.declared.limits.TheConstants.{EARLY_ROWS, SHIFT_GAIN}
use Rattle.be_model.specs.declared.changes.Row.{Row}
use Rattle.be_model.specs.declared.paths.Hop.{Hop}
use Rattle.be_model.specs.declared.paths.Hop.TheVariants.{Part, Low, High}
use Rattle.be_model.specs.declared.paths.Step.{Step}
use Rattle.be_model.specs.declared.paths.Step.TheVariants.{SplitPart, SplitHalf, Merge, Shift}
use Rattle.be_model.specs.Schemas.{Attributes}
use Rattle.be_model.specs.ByIds.{by_ids, rows_of}
use Rattle.be_score.specs.Scores.{weight}
use Rattle.be_score.specs.Picks.{pick}
use Rattle.be_shape.specs.Plain.{Plain, leaf_of, parts_under}
use Rattle.be_shape.specs.Shape.{attrs_of}
use Rattle.be_shape.specs.Children.{may_pass}
use Rattle.be_shape.specs.NodeList.{NodeAt, nodes}
use Rattle.be_shape.specs.Steps.{rows_at, stands}

-- the node is merged into the one above
abbrev pub merges : NodeAt → List Step
merges x = Merge x.path ∷ []

-- the row weighs at least 500 more on the second attribute than on the first
abbrev pub gains : Attributes → AttrNo → Row → AttrNo → Bool
gains s from row to = nat_le (weight s from row + SHIFT_GAIN) (weight s to row)

-- a row of the part `from` moves to another part on which it weighs at least 500 more, by rising attribute
abbrev pub shifts_of : Attributes → NodeAt → AttrNo → Row → List Step
shifts_of s x from row =
    map (λ to. Shift x.path from to row.id) (filter (gains s from row) (attrs_of (parts_under x.here)))

-- a row moves from one part to another: the parts by rising attribute, the rows of each by rising id
abbrev pub shifts : Attributes → NodeAt → List Step
shifts s x =
    flat_map (λ from. flat_map (shifts_of s x from) (rows_of (by_ids (rows_at (Part from) x.here)))) (attrs_of (parts_under x.here))

-- at least 8 rows of the leaf may pass
abbrev pub is_early : Attributes → NodeAt → Hop → Bool
is_early s x hop = nat_le EARLY_ROWS (count_by (may_pass s hop x.known.range) (leaf_of x.here))

-- rows of the leaf move to a new part, of the attribute that divides the leaf best, where at least 8 have it
abbrev pub part_splits : Attributes → ℕ → NodeAt → List Step
part_splits s alpha x =
    map (λ a. SplitPart x.path a) (filter (λ a. is_early s x (Part a)) (option_to_list (pick s (leaf_of x.here) x.known.used alpha)))

-- rows of the leaf move to a new half that encloses at least 8: the low one before the high one
abbrev pub half_splits : Attributes → NodeAt → List Step
half_splits s x = map (λ half. SplitHalf x.path half) (filter (is_early s x) (Low ∷ High ∷ []))

-- the steps that a plan may name, by kind and then by node, the first the most wanted
abbrev pub steps : Attributes → ℕ → Plain → List Step
steps s alpha root =
    flat_map merges (nodes s root) ++ flat_map (shifts s) (nodes s root) ++ flat_map (part_splits s alpha) (nodes s root) ++ flat_map (half_splits s) (nodes s root)

-- the first of them that stands in the tree
abbrev pub plan : Attributes → ℕ → Plain → Option Step
plan s alpha root = find (λ step. stands s step root) (steps s alpha root)
