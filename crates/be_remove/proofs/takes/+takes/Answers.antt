use Rattle.std.proofs.Common.{◌≡◌, ◌<◌, ℕ, ◌∷◌, ◌++◌, length, get_or, refl, sym, ap, ◌∙◌, subst, rules, arith, length-set}
use Rattle.std.specs.Prelude.{IsPermutation}
use Rattle.std.specs.List.{AllByRecursion}
use Rattle.std.proofs.lemmas.List.{get_or-set_other}
use Rattle.be_model.specs.declared.paths.Hop.{Hop}
use Rattle.be_model.specs.declared.paths.Hop.TheVariants.{Low, High}
use Rattle.be_shape.specs.declared.nodes.Node.{Node}
use Rattle.be_shape.specs.declared.nodes.Part.{Part as PartOf}
use Rattle.be_shape.specs.declared.nodes.Node.TheOpen.{Node-F}
use Rattle.be_shape.specs.declared.nodes.Node.TheViews.{out-Node, the_lemmas}
use mathlib.Core.Logic.{dite}
use native.Mathlib.Decide.{ℕ_discrete}
use Rattle.be_shape.specs.Plain.{Plain, plain, half, half_as, part_as, parts_as, rows_below}
use Rattle.be_shape.specs.Shape.{known}
use Rattle.be_shape.specs.Children.{root_of, roots_of}
use Rattle.be_shape.specs.Right.{IsRight}
use Rattle.be_shape.specs.Less.{IsRightIn, IsRightBelow, IsLess}
use Rattle.be_shape.proofs.Children.{Each-append, Each-parts}
use Rattle.be_shape.proofs.Plains.{plain_out}
use Rattle.be_shape.proofs.OneLess.{right_below}
use Rattle.be_remove.specs.Taken.{has_way, Lacks}
use Rattle.be_remove.proofs.Groups.{StaysRight, half_less, same_place, either, on_some, if_none}
use Rattle.be_remove.proofs.Lacking.{no_way, a_way}
use Rattle.be_remove.proofs.Nodes.{level, taken_at, right_at, leaf_taken_at, leaf_right_at, same_at, low_at, high_at, parts_at}
use Rattle.be_remove.proofs.OneLent.{Lent, with_root, lent_is, lent_right, lent_less, lent_same}
use Rattle.be_remove.specs.Turns.{place_at}
use Rattle.be_remove.proofs.Turns.{place_within, places_differ, at_each, each_root}
use Rattle.be_remove.proofs.takes.+takes.Goals as goal

-- the children at the node's parts, and at its halves, stand right below it
below : (s : _) (r : _) (n : Node) → IsRightIn s r (plain n)
    → AllByRecursion (IsRightBelow s r) (roots_of (parts_as (out-Node n).parts.items)) × AllByRecursion (IsRightBelow s r) (root_of Low (half_as (out-Node n).low)) × AllByRecursion (IsRightBelow s r) (root_of High (half_as (out-Node n).high))
below s r n (used, right) =
    let P = IsRightBelow s r in
    let parts = roots_of (parts_as (out-Node n).parts.items) in
    let low = root_of Low (half_as (out-Node n).low) in
    let high = root_of High (half_as (out-Node n).high) in
    let both = Each-parts P (parts ++ low) high (right_below s r used (level (out-Node n)) (subst (IsRight s (known r used)) (plain_out n) right)) in
    let front = Each-parts P parts low both.0 in (front.0, front.1, both.1)

here : (s : _) (r : _) (n : Node) → IsRightIn s r (plain n) → IsRightIn s r (level (out-Node n))
here s r n (used, right) = (used, subst (IsRight s (known r used)) (plain_out n) right)

pub take_from_half-returns-clause-less : goal.take_from_half-returns-clause-less
take_from_half-returns-clause-less t c =
    let s = c.args.s.now in
    let r = c.args.range in
    let row = c.args.row.now in
    let hop = c.args.hop in
    let m = plain c.in-Some.n.value in
    let o = plain c.take_from_child.new.n in
    let gone = subst (λ n. IsPermutation (rows_below (plain n)) (row ∷ rows_below o)) c.deref_mut.ensures.value c.in_ok-taken-in-Some.ensures.taken in
    let right = subst (λ n. StaysRight s r hop (plain n) o) c.deref_mut.ensures.value c.take_from_child.ensures.right in
    subst (λ h. IsLess s r row (root_of hop h) (root_of hop (half_as c.drop_half.new.half))) (sym (ap half_as c.in-Some.is)) (subst (λ h. IsLess s r row (root_of hop (half m)) (root_of hop h)) (sym c.drop_half.ensures) (half_less s r row hop m o gone right))

pub take_from-returns-then-not-has_way-clause-taken : goal.take_from-returns-then-not-has_way-clause-taken
take_from-returns-then-not-has_way-clause-taken t c =
    on_some c.take_row.result c.take_row.ensures.taken (leaf_taken_at c.args.n.now c.take_row.new.leaf c.args.row.now)

pub take_from-returns-then-not-has_way-clause-right : goal.take_from-returns-then-not-has_way-clause-right
take_from-returns-then-not-has_way-clause-right t c =
    let s = c.args.s.now in
    let r = c.args.range in
    let n = c.args.n.now in
    λ used u. either c.take_row.result c.take_row.ensures.taken c.take_row.ensures.none (λ h. leaf_right_at s r n c.take_row.new.leaf c.args.row.now h used u)
    (λ e. subst (IsRight s (known r used)) (sym (same_at n (record (out-Node n) { leaf = c.take_row.new.leaf }) e refl refl refl)) u)

pub take_from-returns-then-not-has_way-clause-lacks : goal.take_from-returns-then-not-has_way-clause-lacks
take_from-returns-then-not-has_way-clause-lacks t c =
    let s = c.args.s.now in
    let r = c.args.range in
    let row = c.args.row.now in
    let n = c.args.n.now in
    if_none c.take_row.result c.take_row.ensures.lacks
    (λ h. subst (Lacks row) (sym (plain_out n)) (no_way s r (level (out-Node n)) row (here s r n c.requires.right) (ap (λ m. has_way s r m row) (sym (plain_out n)) ∙ sym c.has_way.ensures ∙ c.if-not-has_way.true) h))

pub take_from-take_from_half-requires : goal.take_from-take_from_half-requires
take_from-take_from_half-requires t c =
    (search (rules, the_lemmas), (c.requires.lies, (c.requires.bounded, (c.requires.rising, (below c.args.s.now c.args.range c.args.n.now c.requires.right).1))))

pub take_from-returns-in-Some-clause-taken : goal.take_from-returns-in-Some-clause-taken
take_from-returns-in-Some-clause-taken t c =
    let s = c.args.s.now in
    let n = c.args.n.now in
    taken_at s c.args.range c.args.row.now n (record (out-Node n) { low = c.take_from_half.new.half }) refl (low_at s c.args.range c.args.row.now n c.take_from_half.new.half c.in-Some.ensures.less)

pub take_from-returns-in-Some-clause-right : goal.take_from-returns-in-Some-clause-right
take_from-returns-in-Some-clause-right t c =
    let s = c.args.s.now in
    let n = c.args.n.now in
    right_at s c.args.range c.args.row.now n (record (out-Node n) { low = c.take_from_half.new.half }) refl (low_at s c.args.range c.args.row.now n c.take_from_half.new.half c.in-Some.ensures.less)

pub take_from-take_from_half-requires-2 : goal.take_from-take_from_half-requires-2
take_from-take_from_half-requires-2 t c =
    (search (rules, the_lemmas), (c.requires.lies, (c.requires.bounded, (c.requires.rising, (below c.args.s.now c.args.range c.args.n.now c.requires.right).2))))

pub take_from-returns-in-Some-take_from_half-clause-taken : goal.take_from-returns-in-Some-take_from_half-clause-taken
take_from-returns-in-Some-take_from_half-clause-taken t c =
    let s = c.args.s.now in
    let n = c.args.n.now in
    let low = c.take_from_half.new.half in
    let high = c.take_from_half-2.new.half in
    taken_at s c.args.range c.args.row.now n (record (out-Node n) { low = low; high = high }) refl (high_at s c.args.range c.args.row.now n low high c.in_default.ensures.none c.in-Some-take_from_half.ensures.less)

pub take_from-returns-in-Some-take_from_half-clause-right : goal.take_from-returns-in-Some-take_from_half-clause-right
take_from-returns-in-Some-take_from_half-clause-right t c =
    let s = c.args.s.now in
    let n = c.args.n.now in
    let low = c.take_from_half.new.half in
    let high = c.take_from_half-2.new.half in
    right_at s c.args.range c.args.row.now n (record (out-Node n) { low = low; high = high }) refl (high_at s c.args.range c.args.row.now n low high c.in_default.ensures.none c.in-Some-take_from_half.ensures.less)

pub take_from-take_from_parts-requires : goal.take_from-take_from_parts-requires
take_from-take_from_parts-requires t c =
    (search (rules, the_lemmas), (c.requires.lies, (c.requires.bounded, (c.requires.rising, (below c.args.s.now c.args.range c.args.n.now c.requires.right).0))))

pub take_from-returns-clause-taken : goal.take_from-returns-clause-taken
take_from-returns-clause-taken t c =
    let s = c.args.s.now in
    let r = c.args.range in
    let n = c.args.n.now in
    let y : Node-F Node PartOf = record (out-Node n) { parts = c.take_from_parts.new.parts; low = c.take_from_half.new.half; high = c.take_from_half-2.new.half } in
    on_some c.take_from_parts.result c.take_from_parts.ensures.less (λ l. taken_at s r c.args.row.now n y refl (parts_at s r c.args.row.now n y c.in_default.ensures.none c.in_default-take_from_half.ensures.none l))

pub take_from-returns-clause-right : goal.take_from-returns-clause-right
take_from-returns-clause-right t c =
    let s = c.args.s.now in
    let r = c.args.range in
    let n = c.args.n.now in
    let y : Node-F Node PartOf = record (out-Node n) { parts = c.take_from_parts.new.parts; low = c.take_from_half.new.half; high = c.take_from_half-2.new.half } in
    λ used u. either c.take_from_parts.result c.take_from_parts.ensures.less c.take_from_parts.ensures.none
    (λ l. right_at s r c.args.row.now n y refl (parts_at s r c.args.row.now n y c.in_default.ensures.none c.in_default-take_from_half.ensures.none l) used u)
    (λ e. subst (IsRight s (known r used)) (sym (same_at n y refl e c.in_default.ensures.none c.in_default-take_from_half.ensures.none)) u)

pub take_from-returns-clause-none : goal.take_from-returns-clause-none
take_from-returns-clause-none t c =
    let n = c.args.n.now in
    let y : Node-F Node PartOf = record (out-Node n) { parts = c.take_from_parts.new.parts; low = c.take_from_half.new.half; high = c.take_from_half-2.new.half } in
    if_none c.take_from_parts.result c.take_from_parts.ensures.none (λ e. same_at n y refl e c.in_default.ensures.none c.in_default-take_from_half.ensures.none)

pub take_from-returns-clause-lacks : goal.take_from-returns-clause-lacks
take_from-returns-clause-lacks t c =
    let s = c.args.s.now in
    let r = c.args.range in
    let row = c.args.row.now in
    let n = c.args.n.now in
    let x = out-Node n in
    let roots = roots_of (parts_as x.parts.items) in
    let low = root_of Low (half_as x.low) in
    let high = root_of High (half_as x.high) in
    let P : Hop × Plain → Type 0 = λ z. Lacks row z.1 in
    if_none c.take_from_parts.result c.take_from_parts.ensures.lacks (λ h. subst (Lacks row) (sym (plain_out n)) (a_way s r (level x) row (here s r n c.requires.right) (ap (λ m. has_way s r m row) (sym (plain_out n)) ∙ sym c.has_way.ensures ∙ c.if-not-has_way.false)
    (Each-append P (roots ++ low) high (Each-append P roots low h c.in_default.ensures.lacks) c.in_default-take_from_half.ensures.lacks)))

pub take_from_parts-take_from_child-requires : goal.take_from_parts-take_from_child-requires
take_from_parts-take_from_child-requires t c =
    let inv = c.loop-turn.invariant in
    let was = c.args.parts.now.items in
    let ps = c.loop-turn.parts.items in
    let i = c.place_at-place.result in
    let P = IsRightBelow c.args.s.now c.args.range in
    let u : c.loop-turn.turn < length ps = omega (arith, c.loop-turn-test.true, inv.end, inv.many) in
    let w : c.likely_part-likely.result < length ps = let some = c.likely_part-likely.ensures (omega (arith, u, inv.many, ap length c.as_slice.ensures.value)) in omega (arith, some, inv.many, ap length c.as_slice.ensures.value) in
    let l : i < length ps = subst (λ j. j < length ps) (sym c.place_at-place.ensures) (place_within c.likely_part-likely.result (length ps) c.loop-turn.turn w u) in
    let at : Lent ps i c.index.result.now c.index_mut.result.now c.deref_mut.result.now = record { within = l; read = c.index.ensures; lent = c.index_mut.ensures.value; root = c.deref_mut.ensures.value } in
    let left : (d : PartOf) → get_or ps i d ≡ get_or was i d = λ d. subst (λ j. get_or ps j d ≡ get_or was j d) (sym c.place_at-place.ensures) (inv.left c.loop-turn.turn d (omega arith)) in
    (search (rules, the_lemmas, left), (c.requires.lies, (c.requires.bounded, (c.requires.rising, lent_right at P (subst (λ z. AllByRecursion P (roots_of z)) (sym inv.same) c.requires.right)))))

pub take_from_parts-returns-in-Some-clause-less : goal.take_from_parts-returns-in-Some-clause-less
take_from_parts-returns-in-Some-clause-less t c =
    let s = c.args.s.now in
    let r = c.args.range in
    let row = c.args.row.now in
    let inv = c.loop-turn.invariant in
    let ps = c.loop-turn.parts.items in
    let i = c.place_at-place.result in
    let u : c.loop-turn.turn < length ps = omega (arith, c.loop-turn-test.true, inv.end, inv.many) in
    let w : c.likely_part-likely.result < length ps = let some = c.likely_part-likely.ensures (omega (arith, u, inv.many, ap length c.as_slice.ensures.value)) in omega (arith, some, inv.many, ap length c.as_slice.ensures.value) in
    let l : i < length ps = subst (λ j. j < length ps) (sym c.place_at-place.ensures) (place_within c.likely_part-likely.result (length ps) c.loop-turn.turn w u) in
    let at : Lent ps i c.index.result.now c.index_mut.result.now c.deref_mut.result.now = record { within = l; read = c.index.ensures; lent = c.index_mut.ensures.value; root = c.deref_mut.ensures.value } in
    subst (λ z. IsLess s r row (roots_of z) (roots_of (parts_as c.drop_part.new.parts.items))) inv.same
    (subst (λ z. IsLess s r row (roots_of (parts_as ps)) (roots_of z)) (sym c.drop_part.ensures) (lent_less at s r row c.take_from_child.new.n c.in-Some.ensures.taken c.take_from_child.ensures.right))

pub take_from_parts-loop-turn-preserved : goal.take_from_parts-loop-turn-preserved
take_from_parts-loop-turn-preserved t c =
    let row = c.args.row.now in
    let inv = c.loop-turn.invariant in
    let was = c.args.parts.now.items in
    let ps = c.loop-turn.parts.items in
    let likely = c.likely_part-likely.result in
    let turn = c.loop-turn.turn in
    let i = c.place_at-place.result in
    let q = c.index_mut.result.now in
    let u : turn < length ps = omega (arith, c.loop-turn-test.true, inv.end, inv.many) in
    let w : likely < length ps = let some = c.likely_part-likely.ensures (omega (arith, u, inv.many, ap length c.as_slice.ensures.value)) in omega (arith, some, inv.many, ap length c.as_slice.ensures.value) in
    let l : i < length ps = subst (λ j. j < length ps) (sym c.place_at-place.ensures) (place_within likely (length ps) turn w u) in
    let at : Lent ps i c.index.result.now q c.deref_mut.result.now = record { within = l; read = c.index.ensures; lent = c.index_mut.ensures.value; root = c.deref_mut.ensures.value } in
    let p = with_root q c.take_from_child.new.n in
    let here : Lacks row (part_as q).1 = subst (λ z. Lacks row z.1) (sym (lent_is at)) c.in_default.ensures.lacks in
    let now : (x : PartOf) → x ≡ get_or was (place_at likely turn) x → Lacks row (part_as x).1 = λ x e.
    let f : x ≡ get_or ps i x = e ∙ sym (inv.left turn x (omega arith)) ∙ ap (λ j. get_or ps j x) (sym c.place_at-place.ensures) in
    subst (λ z. Lacks row (part_as z).1) (same_place ps i q x l at.lent f) here in
    record {
      same = lent_same at c.take_from_child.new.n c.in_default.ensures.none ∙ inv.same;
      many = length-set ps i p ∙ inv.many;
      end = inv.end;
      lacks = λ k h x e. dite (ℕ_discrete k turn)
          (λ same. now x (e ∙ ap (λ j. get_or was (place_at likely j) x) same))
          (λ ne. inv.lacks k (omega (arith, h, ne)) x e);
      left = λ k d h. get_or-set_other ps i (place_at likely k) p d (λ e. places_differ likely turn k (omega (arith, h)) (e ∙ c.place_at-place.ensures)) ∙ inv.left k d (omega (arith, h));
    }

pub take_from_parts-returns-clause-lacks : goal.take_from_parts-returns-clause-lacks
take_from_parts-returns-clause-lacks t c =
    let row = c.args.row.now in
    let inv = c.loop-turn.invariant in
    let was = c.args.parts.now.items in
    let likely = c.likely_part-likely.result in
    let P : Hop × Plain → Type 0 = λ z. Lacks row z.1 in
    let Q : ℕ → Type 0 = λ i. (q : PartOf) → q ≡ get_or was i q → Lacks row (part_as q).1 in
    let e : c.loop-turn.turn ≡ length was = omega (arith, inv.end, c.loop-turn-test.false, c.loop-turn.auto.turn-end) in
    each_root P was (λ i l. at_each Q likely (length was) (let some = c.likely_part-likely.ensures (omega (arith, l, ap length c.as_slice.ensures.value)) in omega (arith, some, ap length c.as_slice.ensures.value)) (λ k h. inv.lacks k (omega (arith, h, e))) i l)
