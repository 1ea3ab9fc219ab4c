-- Steps that reshape a tree: where each stands, and what it leaves.
use Rattle.std.specs.Prelude.{◌≡◌, ◌≢◌, ℕ, ◌==◌, ◌+◌, ◌&&◌, Bool, true, false, not, List, [], ◌∷◌, ◌++◌, length, filter, nat_le, Option, Some, None, IsPermutation, if◌then◌else◌}
use Rattle.std.specs.List.{list_any, list_all}
use Rattle.be_base.specs.declared.names.AttrNo.{AttrNo}
use Rattle.be_base.specs.declared.limits.TheConstants.{LEAF_ROWS, MERGE_ROWS}
use Rattle.be_model.specs.declared.changes.Row.{Row}
use Rattle.be_model.specs.declared.paths.Hop.{Hop}
use Rattle.be_model.specs.declared.paths.Hop.TheVariants.{Part, Low, High}
use Rattle.be_model.specs.declared.paths.Step.{Step}
use Rattle.be_model.specs.declared.paths.Step.TheVariants.{SplitPart, SplitHalf, Merge, Shift}
use Rattle.be_model.specs.Schemas.{Attributes}
use Rattle.be_model.specs.Rows.{id_of, has}
use Rattle.be_shape.specs.Plain.{Plain, node, Parts, no_part, part, Half, no_half, half, rows_below, leaf_of}
use Rattle.be_shape.specs.Shape.{Known, nothing}
use Rattle.be_shape.specs.Paths.{child, walk}
use Rattle.be_shape.specs.NodeList.{known_along}
use Rattle.be_shape.specs.Children.{children, is_open, may_pass, with_child, with_leaf}

abbrev pub is_node : Option Plain → Bool
is_node None = false
is_node (Some n) = true

abbrev pub rows_of_node : Option Plain → List Row
rows_of_node None = []
rows_of_node (Some n) = rows_below n

-- the rows below the child at the end of a step; none where it isn't there
abbrev pub rows_at : Hop → Plain → List Row
rows_at hop n = rows_of_node (child hop n)

-- a node without a child
abbrev pub without_part : AttrNo → Parts → Parts
without_part a no_part = no_part
without_part a (part b root more) = if b.0 == a.0 then more else part b root (without_part a more)

abbrev pub without_child : Hop → Plain → Plain
without_child (Part a) (node rows parts low high) = node rows (without_part a parts) low high
without_child Low (node rows parts low high) = node rows parts no_half high
without_child High (node rows parts low high) = node rows parts low no_half

-- a node with another child in the place of one that is there
abbrev pub other_part : AttrNo → Plain → Parts → Parts
other_part a m no_part = no_part
other_part a m (part b root more) = if b.0 == a.0 then part b m more else part b root (other_part a m more)

abbrev pub other_half : Plain → Half → Half
other_half m no_half = no_half
other_half m (half n) = half m

abbrev pub other_child : Hop → Plain → Plain → Plain
other_child (Part a) m (node rows parts low high) = node rows (other_part a m parts) low high
other_child Low m (node rows parts low high) = node rows parts (other_half m low) high
other_child High m (node rows parts low high) = node rows parts low (other_half m high)

-- a tree with another node at the end of a path that is there
abbrev pub change_child : Hop → (Plain → Plain) → Option Plain → Plain → Plain
change_child hop change None n = n
change_child hop change (Some m) n = other_child hop (change m) n

abbrev pub replaced : List Hop → Plain → Plain → Plain
replaced [] m n = m
replaced (hop ∷ hops) m n = change_child hop (replaced hops m) (child hop n) n

-- a test of the node at the end of a path, with what is known along the path; false where it isn't there
abbrev pub test_at : (Known → Plain → Bool) → Known → Option Plain → Bool
test_at test k None = false
test_at test k (Some n) = test k n

abbrev pub at_end : (Known → Plain → Bool) → Attributes → List Hop → Plain → Bool
at_end test s path root = test_at test (known_along s path nothing) (walk path root)

-- a tree in which the node at the end of a path is changed
abbrev pub change_node : (Known → Plain → Plain) → Known → List Hop → Option Plain → Plain → Plain
change_node change k path None root = root
change_node change k path (Some n) root = replaced path (change k n) root

abbrev pub changed_at : (Known → Plain → Plain) → Attributes → List Hop → Plain → Plain
changed_at change s path root = change_node change (known_along s path nothing) path (walk path root) root

-- Split: the step may be made, leads nowhere yet, and a row of the leaf may pass it
abbrev pub can_split_off : Attributes → Hop → Known → Plain → Bool
can_split_off s hop k n = is_open hop k && not (is_node (child hop n)) && list_any (may_pass s hop k.range) (leaf_of n)

-- the rows of the leaf that may pass the step move to a new child
abbrev pub split_off : Attributes → Hop → Known → Plain → Plain
split_off s hop k n =
    with_child hop (node (filter (may_pass s hop k.range) (leaf_of n)) no_part no_half no_half)
    (with_leaf (filter (λ row. not (may_pass s hop k.range row)) (leaf_of n)) n)

-- Merge, at the node above: the child is there, its rows are few, they have room in the leaf, and none may pass to another child
abbrev pub may_merge : Attributes → Hop → Known → Plain → Option Plain → Bool
may_merge s hop k n None = false
may_merge s hop k n (Some m) =
    nat_le (length (rows_below m)) MERGE_ROWS && nat_le (length (rows_below m) + length (leaf_of n)) LEAF_ROWS
    && list_all (λ row. not (list_any (λ (x : Hop × Plain). may_pass s x.0 k.range row) (children (without_child hop n)))) (rows_below m)

abbrev pub can_merge : Attributes → Hop → Known → Plain → Bool
can_merge s hop k n = may_merge s hop k n (child hop n)

-- the rows of the child move to the leaf, and the child is dropped
abbrev pub merged : Hop → Plain → Plain
merged hop n = with_leaf (leaf_of n ++ rows_at hop n) (without_child hop n)

-- a path by its last step and those before it; the empty path has no last step
abbrev pub front : Hop → List Hop → List Hop
front hop [] = []
front hop (next ∷ hops) = hop ∷ front next hops

abbrev pub last : Hop → List Hop → Hop
last hop [] = hop
last hop (next ∷ hops) = last next hops

abbrev pub can_merge_at : Attributes → List Hop → Plain → Bool
can_merge_at s [] root = false
can_merge_at s (hop ∷ hops) root = at_end (can_merge s (last hop hops)) s (front hop hops) root

abbrev pub merged_at : Attributes → List Hop → Plain → Plain
merged_at s [] root = root
merged_at s (hop ∷ hops) root = changed_at (λ k n. merged (last hop hops) n) s (front hop hops) root

-- Shift: both parts are there and differ, and a row of this id below the first has the attribute of the second
abbrev pub can_shift : AttrNo → AttrNo → ℕ → Plain → Bool
can_shift from to id n =
    not (from.0 == to.0) && is_node (child (Part from) n) && is_node (child (Part to) n)
    && list_any (λ row. id_of row == id && has to row) (rows_at (Part from) n)

-- the row stands below the second part in the place of the first; the leaf and the other children are as before, and of these
-- two parts the rows are told
pub record IsShifted (from to : AttrNo) (id : ℕ) (n m : Plain) : Type 0 where
  pub row : Row
  pub is : id_of row ≡ id
  pub leaf : leaf_of m ≡ leaf_of n
  pub others : (hop : Hop) → hop ≢ Part from → hop ≢ Part to → child hop m ≡ child hop n
  pub gone : IsPermutation (rows_at (Part from) n) (row ∷ rows_at (Part from) m)
  pub come : IsPermutation (row ∷ rows_at (Part to) n) (rows_at (Part to) m)

pub record IsShiftedAt (from to : AttrNo) (id : ℕ) (path : List Hop) (root after : Plain) : Type 0 where
  pub here : Plain
  pub there : walk path root ≡ Some here
  pub changed : Plain
  pub shifted : IsShifted from to id here changed
  pub is : after ≡ replaced path changed root

abbrev pub is_half : Hop → Bool
is_half (Part a) = false
is_half Low = true
is_half High = true

-- the step stands in the tree
abbrev pub stands : Attributes → Step → Plain → Bool
stands s (SplitPart path a) root = at_end (can_split_off s (Part a)) s path root
stands s (SplitHalf path hop) root = is_half hop && at_end (can_split_off s hop) s path root
stands s (Merge path) root = can_merge_at s path root
stands s (Shift path from to id) root = at_end (λ k n. can_shift from to id.0 n) s path root

-- the step was made: what stands after it
abbrev pub IsMade : Attributes → Step → Plain → Plain → Type 0
IsMade s (SplitPart path a) root after = after ≡ changed_at (split_off s (Part a)) s path root
IsMade s (SplitHalf path hop) root after = after ≡ changed_at (split_off s hop) s path root
IsMade s (Merge path) root after = after ≡ merged_at s path root
IsMade s (Shift path from to id) root after = IsShiftedAt from to id.0 path root after
