use Rattle.std.proofs.Common.{◌≡◌, ℕ, ℤ, true, [], Some, None, option_map, length, sym, ap, ◌∙◌, subst, arith}
use Rattle.be_model.specs.declared.paths.Hop.TheVariants.{Part, Low, High}
use Rattle.be_model.specs.Rows.{has}
use Rattle.be_shape.specs.declared.nodes.Node.TheViews.{out-Node, out-Part}
use Rattle.be_shape.specs.Plain.{parts_as, half_as}
use Rattle.be_shape.specs.Shape.{known, fits_half, attrs_of}
use Rattle.be_shape.proofs.Plains.{plain_out, part_out}
use Rattle.be_insert.specs.Ways.{IsWay, NoWay, best_from}
use Rattle.be_shape.proofs.PartPlaces.{attr_there, part_within}
use Rattle.be_insert.proofs.Ways.{low_way, high_way, part_way, no_way}
use Rattle.be_insert.proofs.places.way.Goals as goal

pub returns-then-takes : goal.returns-then-takes
returns-then-takes c =
    let s = c.args.s.now in
    let n = out-Node c.args.n.now in
    let r = c.args.range in
    let row = c.args.row.now in
    subst (λ m. IsWay s r m row (Low, 0)) (sym (plain_out c.args.n.now)) (low_way s r n.leaf (parts_as n.parts.items) (half_as n.low) (half_as n.high) row (ap (λ q. fits_half s (known q []) (half_as n.low) row) (sym c.lower_range.ensures.range) ∙ sym c.takes.ensures ∙ c.if-takes.true))

pub returns-then-takes-2 : goal.returns-then-takes-2
returns-then-takes-2 c =
    let s = c.args.s.now in
    let n = out-Node c.args.n.now in
    let r = c.args.range in
    let row = c.args.row.now in
    subst (λ m. IsWay s r m row (High, 0)) (sym (plain_out c.args.n.now)) (high_way s r n.leaf (parts_as n.parts.items) (half_as n.low) (half_as n.high) row (ap (λ q. fits_half s (known q []) (half_as n.high) row) (sym c.upper_range.ensures.range) ∙ sym c.takes-2.ensures ∙ c.if-takes-2.true))

pub index-requires : goal.index-requires
index-requires c =
    let s = c.args.s.now in
    let n = out-Node c.args.n.now in
    let r = c.args.range in
    let row = c.args.row.now in
    let w = part_way s row (attrs_of (parts_as n.parts.items)) c.in-Some.place (ap (λ ps. option_map (λ (b : ℕ × ℤ). b.0) (best_from s row 0 None (attrs_of (parts_as ps)))) (sym c.as_slice.ensures.value) ∙ sym c.best_part.ensures.best ∙ c.in-Some.is) in
    omega (arith, part_within n.parts.items c.in-Some.place w.attr w.at, c.as_slice.ensures.len, ap length c.as_slice.ensures.value)

pub returns-in-Some : goal.returns-in-Some
returns-in-Some c =
    let s = c.args.s.now in
    let n = out-Node c.args.n.now in
    let r = c.args.range in
    let row = c.args.row.now in
    let i = c.in-Some.place in
    let p = c.index.result.now in
    let w = part_way s row (attrs_of (parts_as n.parts.items)) i (ap (λ ps. option_map (λ (b : ℕ × ℤ). b.0) (best_from s row 0 None (attrs_of (parts_as ps)))) (sym c.as_slice.ensures.value) ∙ sym c.best_part.ensures.best ∙ c.in-Some.is) in
    let at = attr_there n.parts.items i p (part_within n.parts.items i w.attr w.at) c.index.ensures ∙ ap (λ z. Some z.0) (part_out p) in
    let same : w.attr ≡ (out-Part p).attr = let e = sym w.at ∙ at in cc in
    subst (λ m. IsWay s r m row (Part (out-Part p).attr, i)) (sym (plain_out c.args.n.now)) (record { passes = subst (λ a. has a row ≡ true) same w.takes; there = at })

pub returns-in-None : goal.returns-in-None
returns-in-None c =
    let s = c.args.s.now in
    let n = out-Node c.args.n.now in
    let r = c.args.range in
    let row = c.args.row.now in
    subst (λ m. NoWay s r m row) (sym (plain_out c.args.n.now)) (no_way s r n.leaf (parts_as n.parts.items) (half_as n.low) (half_as n.high) row (ap (λ q. fits_half s (known q []) (half_as n.low) row) (sym c.lower_range.ensures.range) ∙ sym c.takes.ensures ∙ c.if-takes.false)
    (ap (λ q. fits_half s (known q []) (half_as n.high) row) (sym c.upper_range.ensures.range) ∙ sym c.takes-2.ensures ∙ c.if-takes-2.false)
    (ap (λ ps. option_map (λ (b : ℕ × ℤ). b.0) (best_from s row 0 None (attrs_of (parts_as ps)))) (sym c.as_slice.ensures.value) ∙ sym c.best_part.ensures.best ∙ c.in-None.is))
