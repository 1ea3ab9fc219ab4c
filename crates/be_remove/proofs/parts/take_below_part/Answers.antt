use Rattle.std.proofs.Common.{◌≡◌, ◌++◌, refl, sym, ap, subst}
use Rattle.std.specs.List.{Contains}
use Rattle.be_model.specs.declared.paths.Hop.TheVariants.{Part, Low, High}
use Rattle.be_shape.specs.declared.nodes.Node.{Node}
use Rattle.be_shape.specs.declared.nodes.Part.{Part as PartOf}
use Rattle.be_shape.specs.declared.nodes.Node.TheOpen.{Node-F}
use Rattle.be_shape.specs.declared.nodes.Node.TheViews.{out-Node}
use Rattle.be_shape.specs.Plain.{plain, parts_as, half_as}
use Rattle.be_shape.specs.Children.{root_of, roots_of}
use Rattle.be_shape.specs.Steps.{rows_at}
use Rattle.be_shape.specs.Right.{IsRight}
use Rattle.be_shape.specs.Spots.{known_of}
use Rattle.be_shape.specs.Less.{IsRightBelow}
use Rattle.be_shape.proofs.Children.{Each-parts}
use Rattle.be_shape.proofs.Plains.{plain_out}
use Rattle.be_shape.proofs.OneLess.{right_below}
use Rattle.be_remove.specs.Taken.{rows_on}
use Rattle.be_remove.proofs.Groups.{either, on_some}
use Rattle.be_remove.proofs.Nodes.{level, taken_at, right_at, same_at, parts_at}
use Rattle.be_remove.proofs.Roots.{there_from}
use Rattle.be_remove.proofs.parts.take_below_part.Goals as goal

pub take_from_part-requires-clause-right : goal.take_from_part-requires-clause-right
take_from_part-requires-clause-right c =
    let s = c.args.s.now in
    let k = c.args.k.now in
    let x = out-Node c.args.n.now in
    let P = IsRightBelow s k.range in
    let all = right_below s k.range k.used.items (level x) (subst (IsRight s (known_of k)) (plain_out c.args.n.now) c.requires.right) in
    let roots = roots_of (parts_as x.parts.items) in
    let low = root_of Low (half_as x.low) in
    (Each-parts P roots low (Each-parts P (roots ++ low) (root_of High (half_as x.high)) all).0).0

pub returns-clause-there : goal.returns-clause-there
returns-clause-there c =
    let x = out-Node c.args.n.now in
    let a = c.args.a in
    let row = c.args.row.now in
    let on : rows_at (Part a) (plain c.args.n.now) ≡ rows_on a (parts_as x.parts.items) = ap (rows_at (Part a)) (plain_out c.args.n.now) in
    let t = there_from c.take_from_part.result (rows_on a (parts_as x.parts.items)) (rows_on a (parts_as c.take_from_part.new.parts.items)) row c.take_from_part.ensures.taken c.take_from_part.ensures.lacks in
    (λ h. subst (λ l. Contains l row) (sym on) (t.0 h), λ h. t.1 (subst (λ l. Contains l row) on h))

pub returns-clause-right : goal.returns-clause-right
returns-clause-right c =
    let s = c.args.s.now in
    let k = c.args.k.now in
    let n = c.args.n.now in
    let x = out-Node n in
    let y : Node-F Node PartOf = record x { parts = c.take_from_part.new.parts } in
    either c.take_from_part.result c.take_from_part.ensures.less c.take_from_part.ensures.none (λ l. right_at s k.range c.args.row.now n y refl (parts_at s k.range c.args.row.now n y refl refl l) k.used.items c.requires.right)
    (λ e. subst (IsRight s (known_of k)) (sym (same_at n y refl e refl refl)) c.requires.right)

pub returns-clause-rows : goal.returns-clause-rows
returns-clause-rows c =
    let n = c.args.n.now in
    let y : Node-F Node PartOf = record (out-Node n) { parts = c.take_from_part.new.parts } in
    on_some c.take_from_part.result c.take_from_part.ensures.less (λ l. taken_at c.args.s.now c.args.k.now.range c.args.row.now n y refl (parts_at c.args.s.now c.args.k.now.range c.args.row.now n y refl refl l))
