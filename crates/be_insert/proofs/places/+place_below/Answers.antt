use Rattle.std.proofs.Common.{◌≡◌, ◌<◌, ℕ, ◌++◌, ◌∷◌, [], length, slice_get, Some, sym, ap, ◌∙◌, subst, rules, arith}
use Rattle.std.specs.Prelude.{IsPermutation}
use Rattle.std.specs.Arc.{arc_value}
use Rattle.std.specs.Box.{with_value}
use Rattle.be_base.specs.declared.names.AttrNo.{AttrNo}
use Rattle.be_model.specs.declared.paths.Hop.{Hop}
use Rattle.be_model.specs.declared.paths.Hop.TheVariants.{Part, Low, High}
use Rattle.be_shape.specs.declared.nodes.Node.{Node}
use Rattle.be_shape.specs.declared.nodes.Node.TheFolds.{fold-roll-Part}
use Rattle.be_shape.specs.declared.nodes.Node.TheViews.{out-Node, out-Part, the_lemmas}
use Rattle.be_shape.specs.declared.nodes.Part.{Part as PartOf, roll-Part}
use Rattle.be_shape.specs.Plain.{Plain, plain, plain_node, plain_part, node, half, part_as, parts_as, half_as, rows_below, parts_under}
use Rattle.be_shape.specs.Shape.{attrs_of}
use Rattle.be_shape.specs.Children.{known_below, may_pass}
use Rattle.be_shape.specs.Right.{IsRight}
use Rattle.be_shape.specs.Spots.{known_of}
use Rattle.be_shape.proofs.Plains.{plain_out, part_out, plain_roll}
use Rattle.be_shape.proofs.PartPlaces.{part_within, attr_there}
use Rattle.be_insert.specs.Refusals.{back}
use Rattle.be_insert.specs.Ways.{IsWay, IsThere}
use Rattle.be_insert.proofs.Downwards.{Goes, way_open, low_takes, high_takes, part_takes, low_left, high_left, part_left}
use Rattle.be_insert.proofs.places.+place_below.Goals as goal
use Rattle.be_insert.proofs.places.+place_below.Goals.{In-Some, In_default-enter, In-Part, After-deref_mut, After-deref_mut-in-Some-low, After-deref_mut-in-Some-high}

-- the way is the row's
way : (t : ℕ) (c : In-Some t) → IsWay c.args.s.now (known_of c.args.k.now).range (plain c.args.n.now) (arc_value c.args.row) (c.in-Some.hop, c.in-Some.place)
way t c =
    subst (λ row. IsWay c.args.s.now (known_of c.args.k.now).range (plain c.args.n.now) row (c.in-Some.hop, c.in-Some.place)) c.deref.ensures c.in-Some.ensures

-- and it goes down there
goes : (t : ℕ) (c : In_default-enter t) (hop : Hop) → IsWay c.args.s.now (known_of c.args.k.now).range (plain c.args.n.now) (arc_value c.args.row) (c.in-Some.hop, c.in-Some.place) → c.in-Some.hop ≡ hop
    → Goes c.args.s.now (known_of c.args.k.now) (known_of c.enter.new.self) (plain c.args.n.now) hop (arc_value c.args.row)
goes t c hop v is =
    record {
      form = c.count.ensures.form;
      here = c.requires.right;
      may = c.requires.may;
      inside = c.requires.inside;
      passes = ap (λ g. may_pass c.args.s.now g (known_of c.args.k.now).range (arc_value c.args.row)) (sym is) ∙ v.passes;
      at = c.in_default-enter.ensures.entered ∙ ap (λ g. known_below c.args.s.now g (known_of c.args.k.now)) is;
    }

-- the node with its low half, its high half or one of its parts apart
low_out : (t : ℕ) (c : After-deref_mut-in-Some-low t) → plain c.args.n.now ≡ node (out-Node c.args.n.now).leaf (parts_as (out-Node c.args.n.now).parts.items) (half (plain c.deref_mut-in-Some-low.result.now)) (half_as (out-Node c.args.n.now).high)
low_out t c =
    let x = out-Node c.args.n.now in
    plain_out c.args.n.now ∙ ap (λ h. node x.leaf (parts_as x.parts.items) h (half_as x.high)) (ap half_as c.in-Some-low.is ∙ ap (λ m. half (plain m)) (sym c.deref_mut-in-Some-low.ensures.value))

high_out : (t : ℕ) (c : After-deref_mut-in-Some-high t) → plain c.args.n.now ≡ node (out-Node c.args.n.now).leaf (parts_as (out-Node c.args.n.now).parts.items) (half_as (out-Node c.args.n.now).low) (half (plain c.deref_mut-in-Some-high.result.now))
high_out t c =
    let x = out-Node c.args.n.now in
    plain_out c.args.n.now ∙ ap (λ h. node x.leaf (parts_as x.parts.items) (half_as x.low) h) (ap half_as c.in-Some-high.is ∙ ap (λ m. half (plain m)) (sym c.deref_mut-in-Some-high.ensures.value))

part_there : (t : ℕ) (c : In-Part t) → IsWay c.args.s.now (known_of c.args.k.now).range (plain c.args.n.now) (arc_value c.args.row) (c.in-Some.hop, c.in-Some.place) → slice_get (attrs_of (parts_as (out-Node c.args.n.now).parts.items)) c.in-Some.place ≡ Some c.in-Part.field-0
part_there t c v =
    ap (λ m. slice_get (attrs_of (parts_under m)) c.in-Some.place) (sym (plain_out c.args.n.now)) ∙ subst (λ g. IsThere (plain c.args.n.now) (g, c.in-Some.place)) c.in-Part.is v.there

-- a part with another root
abbrev with_root : PartOf → Node → PartOf
with_root q o = roll-Part (record { attr = (out-Part q).attr; root = with_value (out-Part q).root o })

root_is : (q : PartOf) (o : Node) → part_as (with_root q o) ≡ ((out-Part q).attr, plain o)
root_is q o = fold-roll-Part Plain (AttrNo × Plain) plain_node plain_part (record { attr = (out-Part q).attr; root = with_value (out-Part q).root o })

-- the part at the way's place, which the way leads to
lent : (t : ℕ) (c : After-deref_mut t) → slice_get (attrs_of (parts_as (out-Node c.args.n.now).parts.items)) c.in-Some.place ≡ Some c.in-Part.field-0
    → (c.in-Some.place < length (out-Node c.args.n.now).parts.items) × (part_as c.index_mut.result.now ≡ ((out-Part c.index_mut.result.now).attr, plain c.deref_mut.result.now)) × (c.in-Some.hop ≡ Part (out-Part c.index_mut.result.now).attr)
lent t c there =
    let items = (out-Node c.args.n.now).parts.items in
    let q = c.index_mut.result.now in
    let l = part_within items c.in-Some.place c.in-Part.field-0 there in
    let same : c.in-Part.field-0 ≡ (out-Part q).attr = let e = sym there ∙ attr_there items c.in-Some.place q l c.index_mut.ensures.value ∙ ap (λ z. Some z.0) (part_out q) in cc in
    (l, part_out q ∙ ap (λ n. ((out-Part q).attr, plain n)) (sym c.deref_mut.ensures.value), c.in-Part.is ∙ ap (λ z. Part z) same)

pub enter-requires : goal.enter-requires
enter-requires t c =
    way_open c.args.s.now (known_of c.args.k.now) (plain c.args.n.now) (arc_value c.args.row) c.in-Some.hop c.in-Some.place c.requires.right (way t (goal.at.enter-requires t c).In-Some)

pub place_below-requires-in-Some-low : goal.place_below-requires-in-Some-low
place_below-requires-in-Some-low t c =
    let at = goal.at.place_below-requires-in-Some-low t c in
    (search (rules, the_lemmas), low_takes (goes t at.In_default-enter Low (way t at.In-Some) c.in-Low.is) (low_out t at.After-deref_mut-in-Some-low))

pub returns-in-Some-low : goal.returns-in-Some-low
returns-in-Some-low t c =
    let at = goal.at.returns-in-Some-low t c in
    let done = c.place_below-in-Some-low.ensures in
    let w = low_left c.place_below-in-Some-low.result (goes t at.In_default-enter Low (way t at.In-Some) c.in-Low.is) (low_out t at.After-deref_mut-in-Some-low) done.right done.rows in
    record {
      right = subst (IsRight c.args.s.now (known_of c.args.k.now)) (sym (plain_roll _)) w.right;
      rows = subst (λ m. IsPermutation (rows_below (plain c.args.n.now) ++ arc_value c.args.row ∷ []) (rows_below m ++ back c.place_below-in-Some-low.result)) (sym (plain_roll _)) w.same;
      same = done.same;
    }

pub place_below-requires-in-Some-high : goal.place_below-requires-in-Some-high
place_below-requires-in-Some-high t c =
    let at = goal.at.place_below-requires-in-Some-high t c in
    (search (rules, the_lemmas), high_takes (goes t at.In_default-enter High (way t at.In-Some) c.in-High.is) (high_out t at.After-deref_mut-in-Some-high))

pub returns-in-Some-high : goal.returns-in-Some-high
returns-in-Some-high t c =
    let at = goal.at.returns-in-Some-high t c in
    let done = c.place_below-in-Some-high.ensures in
    let w = high_left c.place_below-in-Some-high.result (goes t at.In_default-enter High (way t at.In-Some) c.in-High.is) (high_out t at.After-deref_mut-in-Some-high) done.right done.rows in
    record {
      right = subst (IsRight c.args.s.now (known_of c.args.k.now)) (sym (plain_roll _)) w.right;
      rows = subst (λ m. IsPermutation (rows_below (plain c.args.n.now) ++ arc_value c.args.row ∷ []) (rows_below m ++ back c.place_below-in-Some-high.result)) (sym (plain_roll _)) w.same;
      same = done.same;
    }

pub index_mut-requires : goal.index_mut-requires
index_mut-requires t c =
    let at = goal.at.index_mut-requires t c in
    let x = out-Node c.args.n.now in
    omega (arith, part_within x.parts.items c.in-Some.place c.in-Part.field-0 (part_there t at.In-Part (way t at.In-Some)), x.parts.ok.0)

pub place_below-requires : goal.place_below-requires
place_below-requires t c =
    let at = goal.at.place_below-requires t c in
    let v = way t at.In-Some in
    let z = lent t at.After-deref_mut (part_there t at.In-Part v) in
    let q = c.index_mut.result.now in
    (search (rules, the_lemmas), part_takes (out-Node c.args.n.now).parts.items c.in-Some.place q (goes t at.In_default-enter (Part (out-Part q).attr) v z.2) (plain_out c.args.n.now) z.0 c.index_mut.ensures.value z.1)

pub returns-in-Part : goal.returns-in-Part
returns-in-Part t c =
    let at = goal.at.returns-in-Part t c in
    let v = way t at.In-Some in
    let z = lent t at.After-deref_mut (part_there t at.In-Part v) in
    let q = c.index_mut.result.now in
    let done = c.place_below.ensures in
    let w = part_left (out-Node c.args.n.now).parts.items c.in-Some.place (with_root q c.place_below.new.n) q c.place_below.result (goes t at.In_default-enter (Part (out-Part q).attr) v z.2) (plain_out c.args.n.now) z.0 c.index_mut.ensures.value z.1 (root_is q c.place_below.new.n) done.right done.rows in
    record {
      right = subst (IsRight c.args.s.now (known_of c.args.k.now)) (sym (plain_roll _)) w.right;
      rows = subst (λ m. IsPermutation (rows_below (plain c.args.n.now) ++ arc_value c.args.row ∷ []) (rows_below m ++ back c.place_below.result)) (sym (plain_roll _)) w.same;
      same = done.same;
    }
