-- The rows of a node in memory, list by list.
use Rattle.std.proofs.Common.{◌≡◌, ◌<◌, ◌+◌, ℕ, List, ◌++◌, length, drop, get_or, sym, ap, ◌∙◌}
use Rattle.be_model.specs.declared.changes.Row.{Row}
use Rattle.be_shape.specs.declared.nodes.Node.{Node}
use Rattle.be_shape.specs.declared.nodes.Part.{Part}
use Rattle.be_shape.specs.declared.nodes.Node.TheViews.{out-Node, out-Part}
use Rattle.be_shape.specs.Plain.{plain, parts_as, half_as, rows_below, rows_in_parts, rows_in_half}
use Rattle.be_shape.proofs.Plains.{plain_out}
use Rattle.be_adjust.proofs.Fitting.{rows_next}

abbrev pub parts_rows : Node → List Row
parts_rows n = rows_in_parts (parts_as (out-Node n).parts.items)

abbrev pub low_rows : Node → List Row
low_rows n = rows_in_half (half_as (out-Node n).low)

abbrev pub high_rows : Node → List Row
high_rows n = rows_in_half (half_as (out-Node n).high)

-- the rows below it are those of its leaf, its parts and its halves
pub rows_out : (n : Node) → rows_below (plain n) ≡ (out-Node n).leaf ++ parts_rows n ++ low_rows n ++ high_rows n
rows_out n = ap rows_below (plain_out n)

-- the rows below parts from a place on, those of the root that is lent there apart
pub rows_lent : (ps : List Part) (i : ℕ) (q : Part) (n : Node) → i < length ps → q ≡ get_or ps i q → n ≡ (out-Part q).root.value → rows_in_parts (parts_as (drop i ps)) ≡ rows_below (plain n) ++ rows_in_parts (parts_as (drop (i + 1) ps))
rows_lent ps i q n l there is = rows_next ps i q l there ∙ ap (λ m. rows_below (plain m) ++ rows_in_parts (parts_as (drop (i + 1) ps))) (sym is)
