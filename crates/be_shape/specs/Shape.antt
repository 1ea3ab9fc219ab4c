-- The shape of a tree: what holds at each node.
use Rattle.std.specs.Prelude.{◌==◌, ◌&&◌, ◌||◌, Bool, true, false, not, List, [], ◌∷◌, length, nat_le, nat_lt, int_le, int_lt, Option, Some, None, option_map}
use Rattle.std.specs.List.{list_any, list_all}
use Rattle.be_base.specs.declared.names.AttrNo.{AttrNo}
use Rattle.be_model.specs.declared.preds.Pred.{Pred}
use Rattle.be_base.specs.declared.limits.TheConstants.{LEAF_ROWS, LOG_CHANGES}
use Rattle.be_model.specs.Forms.{attrs_rise, is_conj}
use Rattle.be_model.specs.declared.changes.Row.{Row}
use Rattle.be_model.specs.Domains.{Range, low_half, high_half}
use Rattle.be_model.specs.Schemas.{Attributes, range_of}
use Rattle.be_model.specs.Hulls.{span_in}
use Rattle.be_model.specs.Lies.{row_lies}
use Rattle.be_model.specs.Rows.{id_of, has}
use Rattle.be_model.specs.ByIds.{ids_differ}
use Rattle.be_shape.specs.Plain.{Plain, node, Parts, no_part, part, Half, no_half, half, rows_below}

-- the range of a node, and on which attribute; the root has none
abbrev pub NodeRange : Type 0
NodeRange = Option (AttrNo × Range)

-- the root of a part has the whole domain
abbrev pub whole : Attributes → AttrNo → NodeRange
whole s a = option_map (λ r. (a, r)) (range_of s a)

abbrev pub lower : NodeRange → NodeRange
lower None = None
lower (Some r) = Some (r.0, low_half r.1)

abbrev pub upper : NodeRange → NodeRange
upper None = None
upper (Some r) = Some (r.0, high_half r.1)

-- what the path to a node says of it: its range, and the attributes used on the path
pub record Known : Type 0 where
  pub range : NodeRange
  pub used : List AttrNo

abbrev pub known : NodeRange → List AttrNo → Known
known range used = record { range = range; used = used }

-- of the root nothing is known
abbrev pub nothing : Known
nothing = known None []

abbrev pub in_part : Attributes → AttrNo → Known → Known
in_part s a k = known (whole s a) (a ∷ k.used)

abbrev pub in_low : Known → Known
in_low k = known (lower k.range) k.used

abbrev pub in_high : Known → Known
in_high k = known (upper k.range) k.used

-- a condition holds at each node, with what is known of it
abbrev mutual
  pub everywhere : (Known → Plain → Bool) → Attributes → Known → Plain → Bool
  everywhere c s k (node rows parts low high) =
      c k (node rows parts low high) && in_all_parts c s k parts && in_a_half c s (in_low k) low && in_a_half c s (in_high k) high

  pub in_all_parts : (Known → Plain → Bool) → Attributes → Known → Parts → Bool
  in_all_parts c s k no_part = true
  in_all_parts c s k (part a root more) = everywhere c s (in_part s a k) root && in_all_parts c s k more

  pub in_a_half : (Known → Plain → Bool) → Attributes → Known → Half → Bool
  in_a_half c s k no_half = true
  in_a_half c s k (half n) = everywhere c s k n

abbrev pub is_inside : Range → Option Range → Bool
is_inside whole None = false
is_inside whole (Some inner) = int_le whole.0 inner.0 && int_le inner.1 whole.1

-- a row has its span inside the range; where there is no range, this says nothing
abbrev pub spans_inside : Attributes → NodeRange → Row → Bool
spans_inside s None row = true
spans_inside s (Some r) row = is_inside r.1 (span_in s r.0 row.conj)

abbrev pub is_used : List AttrNo → AttrNo → Bool
is_used used a = list_any (λ b. b.0 == a.0) used

abbrev pub attrs_of : Parts → List AttrNo
attrs_of no_part = []
attrs_of (part a root more) = a ∷ attrs_of more

-- each row below a part has a predicate on the part's attribute
abbrev pub parts_fit : Parts → Bool
parts_fit no_part = true
parts_fit (part a root more) = list_all (has a) (rows_below root) && parts_fit more

-- a range of more than one value
abbrev pub can_split : NodeRange → Bool
can_split None = false
can_split (Some r) = int_lt r.1.0 r.1.1

abbrev pub is_here : Half → Bool
is_here no_half = false
is_here (half n) = true

-- The parts rise by attributes that aren't used above. Rows stand below parts of their attributes,
-- and in ranges that enclose their spans. Only a range of more than one value has halves.
abbrev pub is_placed_at : Attributes → Known → Plain → Bool
is_placed_at s k (node rows parts low high) =
    attrs_rise (attrs_of parts) && list_all (λ a. not (is_used k.used a)) (attrs_of parts) && parts_fit parts
    && list_all (spans_inside s k.range) (rows_below (node rows parts low high))
    && (can_split k.range || not (is_here low || is_here high))

-- a row could stand in a half that is there
abbrev pub fits_half : Attributes → Known → Half → Row → Bool
fits_half s k no_half row = false
fits_half s k (half n) row = spans_inside s k.range row

-- no row of the leaf has the attribute of a part, or has its span inside a half that is there
abbrev pub is_drawn_at : Attributes → Known → Plain → Bool
is_drawn_at s k (node rows parts low high) =
    list_all (λ row. not (list_any (λ a. has a row) (attrs_of parts) || fits_half s (in_low k) low row || fits_half s (in_high k) high row)) rows

abbrev pub is_some : List Row → Bool
is_some [] = false
is_some (row ∷ rows) = true

abbrev pub parts_hold_rows : Parts → Bool
parts_hold_rows no_part = true
parts_hold_rows (part a root more) = is_some (rows_below root) && parts_hold_rows more

abbrev pub half_holds_rows : Half → Bool
half_holds_rows no_half = true
half_holds_rows (half n) = is_some (rows_below n)

-- each child has a row in its subtree
abbrev pub is_pruned_at : Known → Plain → Bool
is_pruned_at k (node rows parts low high) = parts_hold_rows parts && half_holds_rows low && half_holds_rows high

-- neither half, there or not, encloses the span; where nothing can be split, there are no halves
abbrev pub is_between : Attributes → Known → Row → Bool
is_between s k row = not (can_split k.range && (spans_inside s (in_low k).range row || spans_inside s (in_high k).range row))

-- every attribute of the row is used, and no half would take it
abbrev pub is_stuck : Attributes → Known → Row → Bool
is_stuck s k row = list_all (λ (p : Pred). is_used k.used p.attr) row.conj && is_between s k row

-- at most 16 rows, or all are stuck
abbrev pub is_settled_at : Attributes → Known → Plain → Bool
is_settled_at s k (node rows parts low high) = nat_le (length rows) LEAF_ROWS || list_all (is_stuck s k) rows

abbrev pub is_placed : Attributes → Plain → Bool
is_placed s n = everywhere (is_placed_at s) s nothing n && ids_differ (rows_below n)

abbrev pub is_drawn : Attributes → Plain → Bool
is_drawn s n = everywhere (is_drawn_at s) s nothing n

abbrev pub is_pruned : Attributes → Plain → Bool
is_pruned s n = everywhere is_pruned_at s nothing n

abbrev pub is_settled : Attributes → Plain → Bool
is_settled s n = everywhere (is_settled_at s) s nothing n

-- the row's condition has the form of its type, and lies in the schema; the id is a place in a list of changes
abbrev pub may_stand : Attributes → Row → Bool
may_stand s row = is_conj row.conj && (row_lies s row && nat_lt (id_of row) LOG_CHANGES)

abbrev pub rows_lie : Attributes → Plain → Bool
rows_lie s n = list_all (may_stand s) (rows_below n)
