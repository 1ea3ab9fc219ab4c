-- A row goes below a child of a node.
use Rattle.std.proofs.Common.{◌≡◌, ◌<◌, ◌≤◌, ℕ, true, List, [], ◌∷◌, ◌++◌, length, get_or, Result, Ok, Err, sym, ap, ◌∙◌, subst, arith}
use Rattle.std.specs.Prelude.{IsPermutation}
use Rattle.std.specs.List.{slice_set}
use Rattle.std.specs.declared.sync.Arc.{Arc}
use Rattle.be_base.specs.declared.names.AttrNo.{AttrNo}
use Rattle.be_base.specs.declared.names.NoMemory.{NoMemory}
use Rattle.be_model.specs.declared.changes.Row.{Row}
use Rattle.be_model.specs.declared.paths.Hop.{Hop}
use Rattle.be_model.specs.declared.paths.Hop.TheVariants.{Part, Low, High}
use Rattle.be_model.specs.Schemas.{Attributes, IsSchema}
use Rattle.be_shape.specs.declared.nodes.Part.{Part as PartOf}
use Rattle.be_shape.specs.Plain.{Plain, node, Parts, Half, half, part_as, parts_as, rows_below, leaf_of, parts_under}
use Rattle.be_shape.specs.Shape.{Known, attrs_of, spans_inside, may_stand}
use Rattle.be_shape.specs.Children.{roots_of, root_of, children, known_below, is_open, may_pass}
use Rattle.be_shape.proofs.Placed.{at_child}
use Rattle.be_shape.specs.Right.{IsRight}
use Rattle.be_insert.specs.Refusals.{back}
use Rattle.be_insert.specs.Ways.{IsWay}
use Rattle.be_insert.proofs.Steps.{Leaves, deeper}
use Rattle.be_shape.proofs.Among.{Among, placed_at, open_part, child_right, row_inside, low_among, high_among, part_set, behind_parts}

pub few_back : {A Z : Type 0} (result : Result A (Arc Row Z × NoMemory)) → length (back result) ≤ 1
few_back (Ok x) = omega arith
few_back (Err e) = omega arith

pub way_open : (s : Attributes) (k : Known) (n : Plain) (row : Row) (hop : Hop) (i : ℕ) → IsRight s k n → IsWay s k.range n row (hop, i) → is_open hop k ≡ true
way_open s k n row (Part a) i r v = open_part s k n i a (placed_at s k n r) v.there
way_open s k n row Low i r v = at_child (λ (x : Hop × Plain). is_open x.0 k ≡ true) Low n v.there.0 v.there.1 (placed_at s k n r).open_steps
way_open s k n row High i r v = at_child (λ (x : Hop × Plain). is_open x.0 k ≡ true) High n v.there.0 v.there.1 (placed_at s k n r).open_steps

-- a row goes down a step of a node that is right
pub record Goes (s : Attributes) (k j : Known) (n : Plain) (hop : Hop) (row : Row) : Type 0 where
  pub form : IsSchema s
  pub here : IsRight s k n
  pub may : may_stand s row ≡ true
  pub inside : spans_inside s k.range row ≡ true
  pub passes : may_pass s hop k.range row ≡ true
  pub at : j ≡ known_below s hop k

-- the child at the end of the step takes it
abbrev pub Takes : Attributes → Known → Plain → Row → Type 0
Takes s j m row = IsRight s j m × ((may_stand s row ≡ true) × (spans_inside s j.range row ≡ true))

takes : {s : Attributes} {k j : Known} {n m : Plain} {hop : Hop} {row : Row} → Goes s k j n hop row → Among n m hop → Takes s j m row
takes {s = s} {k = k} {n = n} {m = m} {hop = hop} {row = row} g a = (
  subst (λ i. IsRight s i m) (sym g.at) (child_right s k n m hop g.here a),
  (g.may, subst (λ i. spans_inside s i.range row ≡ true) (sym g.at) (row_inside s hop k row g.form g.may g.passes)),
)

pub low_takes : {s : Attributes} {k j : Known} {n m : Plain} {rows : List Row} {parts : Parts} {high : Half} {row : Row} → Goes s k j n Low row → n ≡ node rows parts (half m) high → Takes s j m row
low_takes {m = m} {rows = rows} {parts = parts} {high = high} g e =
    let a = low_among rows parts m high in takes g (record { before = a.before; after = a.after; is = ap children e ∙ a.is })

pub high_takes : {s : Attributes} {k j : Known} {n m : Plain} {rows : List Row} {parts : Parts} {low : Half} {row : Row} → Goes s k j n High row → n ≡ node rows parts low (half m) → Takes s j m row
high_takes {m = m} {rows = rows} {parts = parts} {low = low} g e =
    let a = high_among rows parts low m in takes g (record { before = a.before; after = a.after; is = ap children e ∙ a.is })

pub part_takes : {s : Attributes} {k j : Known} {n m : Plain} {a : AttrNo} {rows : List Row} {low high : Half} {row : Row} (ps : List PartOf) (i : ℕ) (q : PartOf) → Goes s k j n (Part a) row → n ≡ node rows (parts_as ps) low high
    → i < length ps → q ≡ get_or ps i q → part_as q ≡ (a, m) → Takes s j m row
part_takes {m = m} {a = a} {low = low} {high = high} ps i q g e l there is =
    let z = part_set ps i q q a m m l there is is in
    takes g (record { before = z.before; after = z.after ++ root_of Low low ++ root_of High high; is = ap children e ∙ behind_parts (roots_of (parts_as ps)) z.before z.after (Part a, m) (root_of Low low) (root_of High high) z.was })

-- what is left where the row has gone below the low half, the high one or a part
pub low_left : {A Z : Type 0} {s : Attributes} {k j : Known} {n m o : Plain} {rows : List Row} {parts : Parts} {high : Half} {row : Row} (result : Result A (Arc Row Z × NoMemory)) → Goes s k j n Low row → n ≡ node rows parts (half m) high
    → IsRight s j o → IsPermutation (rows_below m ++ row ∷ []) (rows_below o ++ back result) → Leaves s k (rows_below n ++ row ∷ []) (node rows parts (half o) high) (back result)
low_left {s = s} {k = k} {n = n} {m = m} {o = o} {rows = rows} {parts = parts} {high = high} {row = row} result g e right same =
    let a = low_among rows parts m high in
    deeper s k n (node rows parts (half o) high) m o Low a.before a.after row (back result) g.here (ap children e ∙ a.is) (low_among rows parts o high).is (ap leaf_of (sym e)) (ap (λ q. attrs_of (parts_under q)) (sym e)) g.passes g.inside g.may (few_back result)
    (record { right = subst (λ i. IsRight s i o) g.at right; same = same })

pub high_left : {A Z : Type 0} {s : Attributes} {k j : Known} {n m o : Plain} {rows : List Row} {parts : Parts} {low : Half} {row : Row} (result : Result A (Arc Row Z × NoMemory)) → Goes s k j n High row → n ≡ node rows parts low (half m)
    → IsRight s j o → IsPermutation (rows_below m ++ row ∷ []) (rows_below o ++ back result) → Leaves s k (rows_below n ++ row ∷ []) (node rows parts low (half o)) (back result)
high_left {s = s} {k = k} {n = n} {m = m} {o = o} {rows = rows} {parts = parts} {low = low} {row = row} result g e right same =
    let a = high_among rows parts low m in
    deeper s k n (node rows parts low (half o)) m o High a.before a.after row (back result) g.here (ap children e ∙ a.is) (high_among rows parts low o).is (ap leaf_of (sym e)) (ap (λ q. attrs_of (parts_under q)) (sym e)) g.passes g.inside g.may (few_back result)
    (record { right = subst (λ i. IsRight s i o) g.at right; same = same })

pub part_left : {A Z : Type 0} {s : Attributes} {k j : Known} {n m o : Plain} {a : AttrNo} {rows : List Row} {low high : Half} {row : Row} (ps : List PartOf) (i : ℕ) (p q : PartOf) (result : Result A (Arc Row Z × NoMemory)) → Goes s k j n (Part a) row
    → n ≡ node rows (parts_as ps) low high → i < length ps → q ≡ get_or ps i q → part_as q ≡ (a, m) → part_as p ≡ (a, o) → IsRight s j o → IsPermutation (rows_below m ++ row ∷ []) (rows_below o ++ back result)
    → Leaves s k (rows_below n ++ row ∷ []) (node rows (parts_as (slice_set ps i p)) low high) (back result)
part_left {s = s} {k = k} {n = n} {m = m} {o = o} {a = a} {rows = rows} {low = low} {high = high} {row = row} ps i p q result g e l there was is right same =
    let z = part_set ps i p q a m o l there was is in
    let u = root_of Low low in
    let v = root_of High high in
    deeper s k n (node rows (parts_as (slice_set ps i p)) low high) m o (Part a) z.before (z.after ++ u ++ v) row (back result) g.here (ap children e ∙ behind_parts (roots_of (parts_as ps)) z.before z.after (Part a, m) u v z.was)
    (behind_parts (roots_of (parts_as (slice_set ps i p))) z.before z.after (Part a, o) u v z.is) (ap leaf_of (sym e)) (z.same ∙ ap (λ y. attrs_of (parts_under y)) (sym e)) g.passes g.inside g.may (few_back result) (record { right = subst (λ x. IsRight s x o) g.at right; same = same })
