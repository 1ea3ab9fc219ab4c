-- A node in memory of which the leaf, the parts or the halves have changed.
use Rattle.std.proofs.Common.{◌≡◌, List, ◌∷◌, Option, sym, ap, ◌∙◌, subst}
use Rattle.std.specs.Prelude.{IsPermutation}
use Rattle.std.specs.Global.{Box}
use Rattle.be_base.specs.declared.names.AttrNo.{AttrNo}
use Rattle.be_model.specs.declared.changes.Row.{Row}
use Rattle.be_model.specs.Schemas.{Attributes}
use Rattle.be_model.specs.declared.paths.Hop.TheVariants.{Low, High}
use Rattle.be_shape.specs.declared.nodes.Node.{Node, roll-Node}
use Rattle.be_shape.specs.declared.nodes.Part.{Part}
use Rattle.be_shape.specs.declared.nodes.Node.TheOpen.{Node-F}
use Rattle.be_shape.specs.declared.nodes.Node.TheViews.{out-Node}
use Rattle.be_shape.specs.Plain.{Plain, node, plain, parts_as, half_as, rows_below}
use Rattle.be_shape.specs.Shape.{NodeRange, known}
use Rattle.be_shape.specs.Children.{children, root_of, roots_of}
use Rattle.be_shape.specs.Right.{IsRight}
use Rattle.be_shape.specs.Less.{IsLess}
use Rattle.be_shape.proofs.Plains.{plain_out, plain_roll}
use Rattle.be_shape.proofs.OneLess.{less_rows, less_right}
use Rattle.be_shape.proofs.LeafLess.{leaf_gone, leaf_right}
use Rattle.be_remove.proofs.Groups.{low_less, high_less, parts_less}

abbrev pub level : Node-F Node Part → Plain
level x = node x.leaf (parts_as x.parts.items) (half_as x.low) (half_as x.high)

abbrev pub Less : Attributes → NodeRange → Row → Node → Node-F Node Part → Type 0
Less s r row n y = IsLess s r row (children (level (out-Node n))) (children (level y))

-- a child has the row less
pub taken_at : (s : Attributes) (r : NodeRange) (row : Row) (n : Node) (y : Node-F Node Part) → y.leaf ≡ (out-Node n).leaf → Less s r row n y → IsPermutation (rows_below (plain n)) (row ∷ rows_below (plain (roll-Node y)))
taken_at s r row n y e l =
    subst (λ w. IsPermutation (rows_below (plain n)) (row ∷ rows_below w)) (sym (plain_roll y))
    (subst (λ m. IsPermutation (rows_below m) (row ∷ rows_below (level y))) (sym (plain_out n)) (less_rows s r row (level (out-Node n)) (level y) l e))

pub right_at : (s : Attributes) (r : NodeRange) (row : Row) (n : Node) (y : Node-F Node Part) → y.leaf ≡ (out-Node n).leaf → Less s r row n y → (used : List AttrNo) → IsRight s (known r used) (plain n) → IsRight s (known r used) (plain (roll-Node y))
right_at s r row n y e l used h =
    subst (IsRight s (known r used)) (sym (plain_roll y)) (less_right s r used row (level (out-Node n)) (level y) l e (subst (IsRight s (known r used)) (plain_out n) h))

-- the leaf has the row less
pub leaf_taken_at : (n : Node) (leaf : List Row) (row : Row) → IsPermutation (out-Node n).leaf (row ∷ leaf) → IsPermutation (rows_below (plain n)) (row ∷ rows_below (plain (roll-Node (record (out-Node n) { leaf = leaf }))))
leaf_taken_at n leaf row h =
    subst (λ w. IsPermutation (rows_below (plain n)) (row ∷ rows_below w)) (sym (plain_roll (record (out-Node n) { leaf = leaf })))
    (subst (λ m. IsPermutation (rows_below m) (row ∷ rows_below (level (record (out-Node n) { leaf = leaf })))) (sym (plain_out n)) (leaf_gone (level (out-Node n)) leaf row h))

pub leaf_right_at : (s : Attributes) (r : NodeRange) (n : Node) (leaf : List Row) (row : Row) → IsPermutation (out-Node n).leaf (row ∷ leaf) → (used : List AttrNo) → IsRight s (known r used) (plain n) → IsRight s (known r used) (plain (roll-Node (record (out-Node n) { leaf = leaf })))
leaf_right_at s r n leaf row h used t =
    subst (IsRight s (known r used)) (sym (plain_roll (record (out-Node n) { leaf = leaf }))) (leaf_right s (known r used) (level (out-Node n)) leaf row h (subst (IsRight s (known r used)) (plain_out n) t))

-- the node is as before
pub same_at : (n : Node) (y : Node-F Node Part) → y.leaf ≡ (out-Node n).leaf → parts_as y.parts.items ≡ parts_as (out-Node n).parts.items → half_as y.low ≡ half_as (out-Node n).low → half_as y.high ≡ half_as (out-Node n).high → plain (roll-Node y) ≡ plain n
same_at n y l p a b =
    let x = out-Node n in
    plain_roll y ∙ ap (λ q. node q (parts_as y.parts.items) (half_as y.low) (half_as y.high)) l ∙ ap (λ q. node x.leaf q (half_as y.low) (half_as y.high)) p ∙ ap (λ q. node x.leaf (parts_as x.parts.items) q (half_as y.high)) a ∙ ap (λ q. node x.leaf (parts_as x.parts.items) (half_as x.low) q) b
    ∙ sym (plain_out n)

-- the low half has it less, or the high half where the low one is as before, or a part where both halves are
pub low_at : (s : Attributes) (r : NodeRange) (row : Row) (n : Node) (low : Option (Box Node)) → IsLess s r row (root_of Low (half_as (out-Node n).low)) (root_of Low (half_as low)) → Less s r row n (record (out-Node n) { low = low })
low_at s r row n low l =
    let x = out-Node n in
    low_less s r row x.leaf (parts_as x.parts.items) (half_as x.low) (half_as low) (half_as x.high) l

pub high_at : (s : Attributes) (r : NodeRange) (row : Row) (n : Node) (low high : Option (Box Node)) → half_as low ≡ half_as (out-Node n).low → IsLess s r row (root_of High (half_as (out-Node n).high)) (root_of High (half_as high)) → Less s r row n (record (out-Node n) { low = low; high = high })
high_at s r row n low high e l =
    let x = out-Node n in
    subst (λ q. IsLess s r row (children (level x)) (children (node x.leaf (parts_as x.parts.items) q (half_as high)))) (sym e) (high_less s r row x.leaf (parts_as x.parts.items) (half_as x.low) (half_as x.high) (half_as high) l)

pub parts_at : (s : Attributes) (r : NodeRange) (row : Row) (n : Node) (y : Node-F Node Part) → half_as y.low ≡ half_as (out-Node n).low → half_as y.high ≡ half_as (out-Node n).high → IsLess s r row (roots_of (parts_as (out-Node n).parts.items)) (roots_of (parts_as y.parts.items)) → Less s r row n y
parts_at s r row n y a b l =
    let x = out-Node n in
    let p = parts_as y.parts.items in
    subst (λ q. IsLess s r row (children (level x)) (children (node x.leaf p (half_as y.low) q))) (sym b)
    (subst (λ q. IsLess s r row (children (level x)) (children (node x.leaf p q (half_as x.high)))) (sym a) (parts_less s r row x.leaf (parts_as x.parts.items) p (half_as x.low) (half_as x.high) l))
