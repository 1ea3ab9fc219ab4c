use Rattle.std.proofs.Common.{Bool, List, false, ◌||◌, [], sym, ap, ◌∙◌}
use Rattle.std.specs.List.{list_any}
use Rattle.be_model.specs.Rows.{has}
use Rattle.be_shape.specs.declared.nodes.Node.TheViews.{out-Node}
use Rattle.be_shape.specs.declared.nodes.Part.{Part}
use Rattle.be_shape.specs.Plain.{parts_as, half_as}
use Rattle.be_shape.specs.Shape.{known, lower, fits_half, attrs_of}
use Rattle.be_shape.proofs.Plains.{plain_out}
use Rattle.be_remove.specs.Taken.{has_way}
use Rattle.be_remove.proofs.Ways.{way_is, low_way, high_way}
use Rattle.be_remove.proofs.takes.has_way.Goals as goal

pub returns-then-has_half : goal.returns-then-has_half
returns-then-has_half c =
    let s = c.args.s.now in
    let r = c.args.range in
    let row = c.args.row.now in
    let x = out-Node c.args.n.now in
    low_way s r x.leaf (parts_as x.parts.items) (half_as x.low) (half_as x.high) row (ap (λ q. fits_half s (known q []) (half_as x.low) row) (sym c.lower_range.ensures.range) ∙ sym c.has_half.ensures ∙ c.if-has_half.true) ∙ ap (λ m. has_way s r m row) (sym (plain_out c.args.n.now))

pub returns-then-has_half-2 : goal.returns-then-has_half-2
returns-then-has_half-2 c =
    let s = c.args.s.now in
    let r = c.args.range in
    let row = c.args.row.now in
    let x = out-Node c.args.n.now in
    high_way s r x.leaf (parts_as x.parts.items) (half_as x.low) (half_as x.high) row (ap (λ q. fits_half s (known q []) (half_as x.low) row) (sym c.lower_range.ensures.range) ∙ sym c.has_half.ensures ∙ c.if-has_half.false)
    (ap (λ q. fits_half s (known q []) (half_as x.high) row) (sym c.upper_range.ensures.range) ∙ sym c.has_half-2.ensures ∙ c.if-has_half-2.true)
    ∙ ap (λ m. has_way s r m row) (sym (plain_out c.args.n.now))

pub returns : goal.returns
returns c =
    let s = c.args.s.now in
    let r = c.args.range in
    let row = c.args.row.now in
    let x = out-Node c.args.n.now in
    let l = ap (λ q. fits_half s (known q []) (half_as x.low) row) (sym c.lower_range.ensures.range) ∙ sym c.has_half.ensures ∙ c.if-has_half.false in
    let u = ap (λ q. fits_half s (known q []) (half_as x.high) row) (sym c.upper_range.ensures.range) ∙ sym c.has_half-2.ensures ∙ c.if-has_half-2.false in
    let p : List Part → Bool = λ ps. list_any (λ a. has a row) (attrs_of (parts_as ps)) in
    c.has_part.ensures ∙ ap p c.as_slice.ensures.value ∙ ap (λ b. b || false || p x.parts.items) (sym l) ∙ ap (λ b. fits_half s (known (lower r) []) (half_as x.low) row || b || p x.parts.items) (sym u) ∙ way_is s r x.leaf (parts_as x.parts.items) (half_as x.low) (half_as x.high) row ∙ ap (λ m. has_way s r m row) (sym (plain_out c.args.n.now))
