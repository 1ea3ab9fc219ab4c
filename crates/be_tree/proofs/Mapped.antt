-- What a tree contains is a finite map, and what is wanted of it.
use Rattle.std.proofs.Common.{◌≡◌, ℕ, true, eqb, ltb, List, [], ◌∷◌, Some, None, refl, sym, ap}
use Rattle.std.specs.List.{list_all}
use Rattle.std.specs.Arc.{arc_value}
use Rattle.std.proofs.lemmas.Bool.{and_parts, ltb-true}
use Rattle.be_base.specs.declared.limits.TheConstants.{LOG_CHANGES}
use Rattle.be_base.specs.declared.names.SessionNo.{SessionNo}
use Rattle.be_model.specs.declared.changes.Row.{Row}
use Rattle.be_model.specs.Rows.{id_of}
use Rattle.be_model.specs.ByIds.{ByIds, by_ids, AllBelow, ids_differ, rows_of, session_rows}
use Rattle.be_model.proofs.RowsByIds.{put_below, ids_rise, all_say, rows_of-filter}
use Rattle.be_index.specs.Promise.{IsMap}
use Rattle.be_shape.specs.declared.trees.Tree.{Tree}
use Rattle.be_shape.specs.Plain.{plain, rows_below, contents}
use Rattle.be_shape.specs.Shape.{nothing, everywhere, is_placed_at}
use Rattle.be_shape.proofs.RowCounts.{lies_low}
use Rattle.be_tree.specs.Gathered.{wanted}

all_low : (n : ℕ) (rows : List Row) → list_all (λ row. ltb (id_of row) n) rows ≡ true → AllBelow n (by_ids rows)
all_low n [] h = tt
all_low n (row ∷ rows) h =
    let k = and_parts (ltb (id_of row) n) (list_all (λ r. ltb (id_of r) n) rows) h in
    put_below n row (by_ids rows) (ltb-true (id_of row) n k.0) (all_low n rows k.1)

-- a tree's contents are a finite map
pub is_map : (t : Tree) → IsMap (contents (plain t.root))
is_map t =
    let rows = rows_below (plain t.root) in
    record {
      rising = ids_rise rows (and_parts (everywhere (is_placed_at (arc_value t.schema)) (arc_value t.schema) nothing (plain t.root)) (ids_differ rows) t.placed).1;
      say = all_say rows;
      low = all_low LOG_CHANGES rows (lies_low (arc_value t.schema) rows t.lie);
    }

-- a session's rows, and all rows
pub wanted_of : (k : SessionNo) (m : ByIds) → wanted (Some k) (rows_of m) ≡ session_rows k.0 m
wanted_of k m = sym (rows_of-filter (λ row. eqb row.session.0 k.0) m)

pub wanted_all : (rows : List Row) → wanted None rows ≡ rows
wanted_all [] = refl
wanted_all (row ∷ rows) = ap (λ l. row ∷ l) (wanted_all rows)
