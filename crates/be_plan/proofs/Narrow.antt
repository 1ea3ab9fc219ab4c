-- Rows that take little of their part's domain gain nowhere.
use Rattle.std.proofs.Common.{◌≡◌, ℕ, ◌+◌, ◌-◌, ◌*◌, ◌/◌, ◌<◌, ◌≤◌, eqb, Bool, true, false, true≢false, List, [], ◌∷◌, Option, Some, None, option_map, refl, sym, ap, ◌∙◌, subst, arith}
use Rattle.std.specs.Prelude.{IfSome}
use Rattle.std.specs.Int.Signed.{le_z, le_z_yes}
use Rattle.std.specs.List.{list_all}
use Rattle.std.proofs.Math.Nat.{div-lt_iff_lt-mul}
use Rattle.std.proofs.lemmas.Bool.{and_parts, eqb-true, ltb-true, lt-ltb}
use Rattle.std.proofs.lemmas.Float.{T_from_true}
use Rattle.be_base.specs.declared.names.AttrNo.{AttrNo}
use Rattle.be_base.specs.declared.limits.TheConstants.{SHIFT_GAIN}
use Rattle.be_model.specs.declared.changes.Row.{Row}
use Rattle.be_model.specs.Domains.{Range, width}
use Rattle.be_model.specs.Hulls.{span_in}
use Rattle.be_model.specs.Laws.{IsPart}
use Rattle.be_model.specs.Schemas.{Attributes, IsSchema, range_of, numbered}
use Rattle.be_model.proofs.Spans.{spans_lie}
use Rattle.be_score.specs.Scores.{weight_in, weight}
use Rattle.be_score.proofs.Widths.{width-part}
use Rattle.be_shape.specs.Shape.{NodeRange, whole, is_inside, spans_inside, may_stand}
use Rattle.be_plan.specs.Shifts.{lower_id, least_gain, are_small, is_narrow, is_light, least_share}
use Rattle.be_plan.proofs.Gains.{heavy, may_form, may_lies}

-- a span inside so little of the domain takes as few thousandths of it
pub light_share : (small : Bool) (w d : ℕ) → is_light small w d ≡ true → 1000 * w / d < least_share small
light_share true w d h =
    let l = ltb-true (1000 * w) (least_share true * d) h in (div-lt_iff_lt-mul {k = d} {x = 1000 * w} {y = SHIFT_GAIN + 1} (omega (arith, l))).1 (omega (arith, l))
light_share false w d h =
    let l = ltb-true (1000 * w) (least_share false * d) h in (div-lt_iff_lt-mul {k = d} {x = 1000 * w} {y = SHIFT_GAIN} (omega (arith, l))).1 (omega (arith, l))

lighter : (small : Bool) (w v d : ℕ) → w ≤ v → is_light small v d ≡ true → is_light small w d ≡ true
lighter true w v d l h =
    let k = ltb-true (1000 * v) (least_share true * d) h in lt-ltb (1000 * w) (least_share true * d) (omega (arith, l, k))
lighter false w v d l h =
    let k = ltb-true (1000 * v) (least_share false * d) h in lt-ltb (1000 * w) (least_share false * d) (omega (arith, l, k))

pub light_weighs : (small : Bool) (w d : ℕ) → is_light small w d ≡ true → 1000 < (1000 - 1000 * w / d) + least_share small
light_weighs small w d h = let l = light_share small w d h in omega (arith, l)

weighs : (small : Bool) (d r x : Range) → IsPart d x → is_inside r (Some x) ≡ true → is_light small (width r) (width d) ≡ true → 1000 < weight_in (Some d) (Some x) + least_share small
weighs small d r x p i l =
    let k = and_parts (le_z r.0 x.0) (le_z x.1 r.1) i in
    let m = width-part r x (le_z_yes (T_from_true (le_z r.0 x.0) k.0)) p.rising (le_z_yes (T_from_true (le_z x.1 r.1) k.1)) in
    light_weighs small (width x) (width d) (lighter small (width x) (width r) (width d) m l)

narrow_weighs : (small : Bool) (s : Attributes) (a : AttrNo) (r : NodeRange) (row : Row) → IsSchema s → may_stand s row ≡ true → is_narrow small r (whole s a) ≡ true → spans_inside s r row ≡ true → 1000 < weight s a row + least_share small
narrow_weighs small s a None row f may n i = absurd (true≢false (sym n))
narrow_weighs small s a (Some r) row f may n i = by_range (range_of s a) refl n
  where
    by_span : (d : Range) (o : Option Range) → range_of s a ≡ Some d → span_in s a row.conj ≡ o → is_inside r.1 o ≡ true → is_light small (width r.1) (width d) ≡ true → 1000 < weight_in (Some d) o + least_share small
    by_span d None e g h l = absurd (true≢false (sym h))
    by_span d (Some x) e g h l =
        weighs small d r.1 x (subst (λ o. IfSome o (IsPart d)) g (spans_lie s a row.conj d f (may_form s row may) (may_lies s row may) e)) h l

    by_range : (o : Option Range) → range_of s a ≡ o → is_narrow small (Some r) (option_map (λ d. (a, d)) o) ≡ true → 1000 < weight s a row + least_share small
    by_range None e h = absurd (true≢false (sym h))
    by_range (Some d) e h =
        let k = and_parts (eqb r.0.0 a.0) (is_light small (width r.1) (width d)) h in
        let same : is_inside r.1 (span_in s a row.conj) ≡ true = sym (ap (λ j. is_inside r.1 (span_in s (numbered j) row.conj)) (eqb-true r.0.0 a.0 k.0)) ∙ i in
        subst (λ o. 1000 < weight_in o (span_in s a row.conj) + least_share small) (sym e) (by_span d (span_in s a row.conj) e refl same k.1)

pub narrow_gains : (small : Bool) (s : Attributes) (attrs : List AttrNo) (a : AttrNo) (r : NodeRange) (rows : List Row) → small ≡ are_small s attrs → IsSchema s → is_narrow small r (whole s a) ≡ true → list_all (may_stand s) rows ≡ true → list_all (spans_inside s r) rows ≡ true → least_gain s attrs a rows ≡ None
narrow_gains small s attrs a r [] is f n may i = refl
narrow_gains small s attrs a r (row ∷ rows) is f n may i =
    let m = and_parts (may_stand s row) (list_all (may_stand s) rows) may in
    let j = and_parts (spans_inside s r row) (list_all (spans_inside s r) rows) i in
    let h = heavy s a row attrs small is f m.0 (narrow_weighs small s a r row f m.0 n j.0) in
    ap (λ o. lower_id (option_map (λ (to : AttrNo). (row.id, to)) o) (least_gain s attrs a rows)) h ∙ narrow_gains small s attrs a r rows is f n m.1 j.1
