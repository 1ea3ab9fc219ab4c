-- The first shift at a node.
use Rattle.std.specs.Prelude.{◌≡◌, ◌+◌, ◌*◌, ◌==◌, ◌&&◌, ◌||◌, Bool, true, false, not, List, [], ◌∷◌, nat_lt, nat_le, ℕ, Option, Some, None, option_map, if◌then◌else◌}
use Rattle.std.specs.List.{find, list_all, list_any, AllByRecursion}
use Rattle.std.specs.Option.{option_or}
use Rattle.be_base.specs.declared.names.AttrNo.{AttrNo}
use Rattle.be_base.specs.declared.names.Id.{Id}
use Rattle.be_base.specs.declared.limits.TheConstants.{SHIFT_GAIN}
use Rattle.be_model.specs.declared.changes.Row.{Row}
use Rattle.be_model.specs.declared.preds.Pred.{Pred}
use Rattle.be_model.specs.declared.paths.Hop.{Hop}
use Rattle.be_model.specs.declared.paths.Hop.TheVariants.{Part, Low, High}
use Rattle.be_model.specs.Schemas.{Attributes}
use Rattle.be_model.specs.Domains.{width}
use Rattle.be_score.specs.declared.units.TheConstants.{FULL_WEIGHT}
use Rattle.be_shape.specs.Plain.{Plain, Parts, no_part, part, rows_below}
use Rattle.be_shape.specs.Shape.{NodeRange, Known, known, whole, is_used}
use Rattle.be_shape.specs.Paths.{range_below}
use Rattle.be_shape.specs.Children.{roots_of}
use Rattle.be_shape.specs.Ranges.{is_bounded, is_rising}
use Rattle.be_shape.specs.Right.{IsRight}
use Rattle.be_plan.specs.Plan.{gains}

-- the first attribute on which the row weighs enough more, with the row's id
abbrev pub gain_of : Attributes → List AttrNo → AttrNo → Row → Option (Id × AttrNo)
gain_of s attrs from row = option_map (λ to. (row.id, to)) (find (gains s from row) attrs)

-- the attribute is one of these, and the row weighs enough more on it
abbrev pub gains_among : Attributes → List AttrNo → AttrNo → Row → AttrNo → Bool
gains_among s attrs from row to = is_used attrs to && gains s from row to

-- that holds of an attribute of the row
abbrev pub any_gains : Attributes → List AttrNo → AttrNo → Row → Bool
any_gains s attrs from row = list_any (λ (p : Pred). gains_among s attrs from row p.attr) row.conj

-- of two gains that of the lower id
abbrev pub lower_id : Option (Id × AttrNo) → Option (Id × AttrNo) → Option (Id × AttrNo)
lower_id None next = next
lower_id (Some best) None = Some best
lower_id (Some best) (Some next) = if nat_lt best.0.0 next.0.0 then Some best else Some next

-- the gain of the lowest id
abbrev pub least_gain : Attributes → List AttrNo → AttrNo → List Row → Option (Id × AttrNo)
least_gain s attrs from [] = None
least_gain s attrs from (row ∷ rows) = lower_id (gain_of s attrs from row) (least_gain s attrs from rows)

-- the first part with a row that gains, and its gain of the lowest id
abbrev pub first_shift : Attributes → List AttrNo → Parts → Option (AttrNo × Id × AttrNo)
first_shift s attrs no_part = None
first_shift s attrs (part a root more) =
    option_or (option_map (λ (g : Id × AttrNo). (a, g.0, g.1)) (least_gain s attrs a (rows_below root))) (first_shift s attrs more)

-- no domain of these attributes has more values than weights have steps, so that no row has the full weight on one
abbrev pub is_small : NodeRange → Bool
is_small None = true
is_small (Some r) = nat_le (width r.1) FULL_WEIGHT

abbrev pub are_small : Attributes → List AttrNo → Bool
are_small s attrs = list_all (λ a. is_small (whole s a)) attrs

-- the fewest thousandths of its own part's domain that a row takes which gains: `true` where the domains are small
abbrev pub least_share : Bool → ℕ
least_share true = SHIFT_GAIN + 1
least_share false = SHIFT_GAIN

-- so many values are fewer thousandths of the domain than that
abbrev pub is_light : Bool → ℕ → ℕ → Bool
is_light small w d = nat_lt (FULL_WEIGHT * w) (least_share small * d)

-- the range is on the same attribute as the whole, and light in it
abbrev pub is_narrow : Bool → NodeRange → NodeRange → Bool
is_narrow small None w = false
is_narrow small (Some r) None = false
is_narrow small (Some r) (Some w) =
    r.0.0 == w.0.0 && is_light small (width r.1) (width w.1)

-- the attribute is the one that rows may leave, or isn't used
abbrev pub is_apart : AttrNo → List AttrNo → AttrNo → Bool
is_apart from used a = a.0 == from.0 || not (is_used used a)

-- a part of one of the attributes was entered on the way, or is by the step
abbrev pub meets_by : List AttrNo → Hop → Bool → Bool
meets_by attrs (Part a) met = met || is_used attrs a
meets_by attrs Low met = met
meets_by attrs High met = met

-- a node is right in its range; where none of the attributes was met on the way, none is used but that which rows may leave
pub record IsBelow (s : Attributes) (attrs : List AttrNo) (from : AttrNo) (met : Bool) (r : NodeRange) (n : Plain) : Type 0 where
  pub used : List AttrNo
  pub right : IsRight s (known r used) n
  pub bounded : is_bounded r ≡ true
  pub rising : is_rising r ≡ true
  pub apart : met ≡ false → list_all (is_apart from used) attrs ≡ true

-- the same of a child, from what is known of the node above
abbrev pub ChildBelow : Attributes → List AttrNo → AttrNo → Bool → NodeRange → Hop × Plain → Type 0
ChildBelow s attrs from met r x = IsBelow s attrs from (meets_by attrs x.0 met) (range_below s x.0 r) x.1

abbrev pub PartsBelow : Attributes → List AttrNo → AttrNo → Bool → Parts → Type 0
PartsBelow s attrs from met parts = AllByRecursion (ChildBelow s attrs from met None) (roots_of parts)

-- a node is right at some place
abbrev pub IsRightSomewhere : Attributes → Plain → Type 0
IsRightSomewhere s n = (k : Known) × IsRight s k n
