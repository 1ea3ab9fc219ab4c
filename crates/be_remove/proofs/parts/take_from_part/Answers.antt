use Rattle.std.proofs.Common.{◌≡◌, ◌<◌, ◌∷◌, true, length, sym, ap, ◌∙◌, subst, arith, length-set}
use Rattle.std.specs.Prelude.{IsPermutation}
use Rattle.std.specs.List.{Contains}
use Rattle.be_shape.specs.Plain.{plain, parts_as, rows_below}
use Rattle.be_shape.specs.Paths.{part_on}
use Rattle.be_shape.specs.Children.{roots_of}
use Rattle.be_shape.specs.Less.{IsRightBelow, IsLess}
use Rattle.be_remove.specs.Taken.{is_first, rows_on}
use Rattle.be_remove.proofs.Groups.{if_any}
use Rattle.be_remove.proofs.FirstParts.{first_within, left_on, others_on}
use Rattle.be_remove.proofs.OneLent.{Lent, with_root, lent_right, lent_less, lent_same, first_rows, first_changed}
use Rattle.be_remove.proofs.parts.take_from_part.Goals as goal
use Rattle.be_remove.proofs.parts.take_from_part.Goals.{In_ok-place, After-deref_mut}

-- the place is that of the first part of the attribute, and within the parts
first : (c : In_ok-place) → is_first c.args.a c.in_ok-place.place (parts_as c.args.parts.now.items) ≡ true
first c = subst (λ z. is_first c.args.a c.in_ok-place.place (parts_as z) ≡ true) c.as_slice.ensures.value c.in_ok-place.ensures

within : (c : In_ok-place) → c.in_ok-place.place < length c.args.parts.now.items
within c = first_within c.args.a c.args.parts.now.items c.in_ok-place.place (first c)

-- the part there is lent
lent : (c : After-deref_mut) → c.in_ok-place.place < length c.args.parts.now.items → Lent c.args.parts.now.items c.in_ok-place.place c.index.result.now c.index_mut.result.now c.deref_mut.result.now
lent c l = record { within = l; read = c.index.ensures; lent = c.index_mut.ensures.value; root = c.deref_mut.ensures.value }

pub index-requires : goal.index-requires
index-requires c = omega (arith, within (goal.at.index-requires c).In_ok-place, c.args.parts.now.ok.0)

pub index_mut-requires : goal.index_mut-requires
index_mut-requires c = omega (arith, within (goal.at.index_mut-requires c).In_ok-place, c.args.parts.now.ok.0)

pub take_from_child-requires-clause-right : goal.take_from_child-requires-clause-right
take_from_child-requires-clause-right c =
    let at = goal.at.take_from_child-requires-clause-right c in
    lent_right (lent at.After-deref_mut (within at.In_ok-place)) (IsRightBelow c.args.s.now c.args.range) c.requires.right

pub returns-in_err-taken-clause-others : goal.returns-in_err-taken-clause-others
returns-in_err-taken-clause-others c =
    let at = goal.at.returns-in_err-taken-clause-others c in
    λ b _. ap (part_on b) (lent_same (lent at.After-deref_mut (within at.In_ok-place)) c.take_from_child.new.n c.in_err-taken.ensures.none)

pub returns-in_err-taken-clause-none : goal.returns-in_err-taken-clause-none
returns-in_err-taken-clause-none c =
    let at = goal.at.returns-in_err-taken-clause-none c in
    if_any c.from_residual-in_err-taken.result (lent_same (lent at.After-deref_mut (within at.In_ok-place)) c.take_from_child.new.n c.in_err-taken.ensures.none)

pub returns-in_err-taken-clause-lacks : goal.returns-in_err-taken-clause-lacks
returns-in_err-taken-clause-lacks c =
    let at = goal.at.returns-in_err-taken-clause-lacks c in
    let rows = first_rows (lent at.After-deref_mut (within at.In_ok-place)) c.args.a (first at.In_ok-place) in
    if_any c.from_residual-in_err-taken.result (λ h. c.in_err-taken.ensures.lacks (subst (λ l. Contains l c.args.row.now) rows h))

pub drop_part-requires : goal.drop_part-requires
drop_part-requires c =
    let ps = c.args.parts.now.items in
    omega (arith, within (goal.at.drop_part-requires c).In_ok-place, length-set ps c.in_ok-place.place (with_root c.index_mut.result.now c.take_from_child.new.n))

pub returns-clause-less : goal.returns-clause-less
returns-clause-less c =
    let at = goal.at.returns-clause-less c in
    subst (λ z. IsLess c.args.s.now c.args.range c.args.row.now (roots_of (parts_as c.args.parts.now.items)) (roots_of z)) (sym c.drop_part.ensures)
    (lent_less (lent at.After-deref_mut (within at.In_ok-place)) c.args.s.now c.args.range c.args.row.now c.take_from_child.new.n c.in_ok-taken.ensures.taken c.take_from_child.ensures.right)

pub returns-clause-taken : goal.returns-clause-taken
returns-clause-taken c =
    let at = goal.at.returns-clause-taken c in
    let a = c.args.a in
    let ps = c.args.parts.now.items in
    let row = c.args.row.now in
    let o = c.take_from_child.new.n in
    let z = lent at.After-deref_mut (within at.In_ok-place) in
    let f = first at.In_ok-place in
    let left : rows_on a (parts_as c.drop_part.new.parts.items) ≡ rows_below (plain o) = ap (rows_on a) c.drop_part.ensures ∙ left_on a ps c.in_ok-place.place (with_root c.index_mut.result.now o) (plain o) c.requires.rise f (first_changed z a f o) in
    subst (λ l. IsPermutation l (row ∷ rows_on a (parts_as c.drop_part.new.parts.items))) (sym (first_rows z a f))
    (subst (λ l. IsPermutation (rows_below (plain c.deref_mut.result.now)) (row ∷ l)) (sym left) c.in_ok-taken.ensures.taken)

pub returns-clause-others : goal.returns-clause-others
returns-clause-others c =
    let at = goal.at.returns-clause-others c in
    let a = c.args.a in
    let o = c.take_from_child.new.n in
    let f = first at.In_ok-place in
    λ b other. ap (part_on b) c.drop_part.ensures
    ∙ others_on a b c.args.parts.now.items c.in_ok-place.place (with_root c.index_mut.result.now o) (plain o) other f (first_changed (lent at.After-deref_mut (within at.In_ok-place)) a f o)
