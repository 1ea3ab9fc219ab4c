-- The first shift, part by part.
use Rattle.std.proofs.lemmas.List.{at_drop_all}
use Rattle.std.proofs.Common.{◌≡◌, ℕ, ◌+◌, ◌<◌, ◌≤◌, cond, List, [], ◌∷◌, length, get_or, drop, Option, Some, None, option_map, refl, sym, ap, ◌∙◌, arith}
use Rattle.std.specs.Option.{option_or}
use Rattle.be_base.specs.declared.names.AttrNo.{AttrNo}
use Rattle.be_base.specs.declared.names.Id.{Id}
use Rattle.be_model.specs.declared.changes.Row.{Row}
use Rattle.be_model.specs.Schemas.{Attributes}
use Rattle.be_shape.specs.declared.nodes.Part.{Part}
use Rattle.be_shape.specs.declared.nodes.Node.TheViews.{out-Part}
use Rattle.be_shape.specs.Plain.{Plain, plain, part_as, parts_as, rows_below}
use Rattle.be_shape.specs.Shape.{attrs_of}
use Rattle.be_shape.proofs.Plains.{part_out}
use Rattle.be_plan.specs.Shifts.{lower_id, least_gain, first_shift}
use Rattle.be_plan.proofs.Gains.{no_self}
use Rattle.be_plan.proofs.Rows.{parts_left}

-- with one part there is nowhere to go
least_self : (s : Attributes) (a : AttrNo) (rows : List Row) → least_gain s (a ∷ []) a rows ≡ None
least_self s a [] = refl
least_self s a (row ∷ rows) =
    ap (λ t. lower_id (option_map (λ to. (row.id, to)) (cond t (Some a) None)) (least_gain s (a ∷ []) a rows)) (no_self s a row) ∙ least_self s a rows

pub one_part : (s : Attributes) (ps : List Part) → length ps < 2 → first_shift s (attrs_of (parts_as ps)) (parts_as ps) ≡ None
one_part s [] l = refl
one_part s (p ∷ []) l =
    ap (λ (g : Option (Id × AttrNo)). option_or (option_map (λ (x : Id × AttrNo). ((part_as p).0, x.0, x.1)) g) None) (least_self s (part_as p).0 (rows_below (part_as p).1))
one_part s (p ∷ q ∷ ps) l = absurd (omega arith)

-- the next part: a row of it gains, or none does
pub next_part : (s : Attributes) (attrs : List AttrNo) (ps : List Part) (i : ℕ) (p : Part) (o : Option (Id × AttrNo)) → i < length ps → p ≡ get_or ps i p
    → o ≡ least_gain s attrs (out-Part p).attr (rows_below (plain (out-Part p).root.value))
    → first_shift s attrs (parts_as (drop i ps)) ≡ option_or (option_map (λ (x : Id × AttrNo). ((out-Part p).attr, x.0, x.1)) o) (first_shift s attrs (parts_as (drop (i + 1) ps)))
next_part s attrs ps i p o l is e =
    ap (first_shift s attrs) (parts_left ps i p l is)
    ∙ ap (λ (z : AttrNo × Plain). option_or (option_map (λ (x : Id × AttrNo). (z.0, x.0, x.1)) (least_gain s attrs z.0 (rows_below z.1))) (first_shift s attrs (parts_as (drop (i + 1) ps)))) (part_out p)
    ∙ ap (λ g. option_or (option_map (λ (x : Id × AttrNo). ((out-Part p).attr, x.0, x.1)) g) (first_shift s attrs (parts_as (drop (i + 1) ps)))) (sym e)

pub no_more_parts : (s : Attributes) (attrs : List AttrNo) (ps : List Part) (i : ℕ) → length ps ≤ i → None ≡ first_shift s attrs (parts_as (drop i ps))
no_more_parts s attrs ps i l = sym (at_drop_all (λ xs. first_shift s attrs (parts_as xs)) ps i l)
