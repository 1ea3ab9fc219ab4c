-- The cost of a search of a tree is within its bounds, and 64 bits count it.
use Rattle.std.proofs.Common.{◌≡◌, ℕ, ◌<◌, ◌≤◌, true, cond, List, length, None, ap, arith}
use Rattle.std.specs.Prelude.{IsPermutation}
use Rattle.std.proofs.lemmas.List.{length-map}
use Rattle.std.proofs.lemmas.List.Sums.{length-filter, count_by-le-length}
use Rattle.std.proofs.lemmas.List.Sorted.{length_permutation, sum_by-IsPermutation}
use Rattle.be_model.specs.declared.changes.Row.{Row}
use Rattle.be_model.specs.declared.costs.Cost.{Cost}
use Rattle.be_model.specs.Schemas.{Attributes, IsSchema}
use Rattle.be_model.specs.Forms.{IsEvent}
use Rattle.be_model.specs.Matching.{Assignments, satisfies, satisfied}
use Rattle.be_model.specs.Lies.{event_lies}
use Rattle.be_model.specs.ByIds.{rows_of, ids_differ}
use Rattle.be_model.specs.Bounds.{IsWithinBound, shared, visits_bound, is_covered}
use Rattle.be_model.proofs.Attributes.{and_left}
use Rattle.be_model.proofs.FewItems.{few_visits}
use Rattle.be_model.proofs.RowsByIds.{rows_permuted, filter_permuted}
use Rattle.std.specs.Arc.{arc_value}
use Rattle.be_shape.specs.declared.trees.Tree.{Tree}
use Rattle.be_shape.specs.Plain.{Plain, node, plain, rows_below, contents}
use Rattle.be_shape.specs.Shape.{nothing, everywhere, is_placed_at, is_placed, is_pruned, is_settled, rows_lie}
use Rattle.be_shape.specs.Search.{visited, visits, tested, all_of}
use Rattle.be_shape.proofs.RowCounts.{few_rows}
use Rattle.be_index.specs.Puts.{hits_of}
use Rattle.be_match.specs.Leaves.{AreCountable}
use Rattle.be_match.proofs.Exact.{exact}
use Rattle.be_match.proofs.VisitsBound.{visits_within}
use Rattle.be_match.proofs.TestedBound.{tested_within, tested_below}

-- a tree, and an event that lies in its schema
pub record IsSearched (s : Attributes) (e : Assignments) (n : Plain) : Type 0 where
  pub schema : IsSchema s
  pub form : IsEvent e
  pub lies : event_lies s e ≡ true
  pub rows : rows_lie s n ≡ true
  pub placed : is_placed s n ≡ true
  pub pruned : is_pruned s n ≡ true
  pub settled : is_settled s n ≡ true

-- what the type of a tree keeps, and an event that lies in its schema
pub searched : (t : Tree) (e : Assignments) → IsSchema (arc_value t.schema) → IsEvent e → event_lies (arc_value t.schema) e ≡ true → IsSearched (arc_value t.schema) e (plain t.root)
searched t e f r l =
    record { schema = f; form = r; lies = l; rows = t.lie; placed = t.placed; pruned = t.pruned; settled = t.settled }

placed_everywhere : (s : Attributes) (n : Plain) → is_placed s n ≡ true → everywhere (is_placed_at s) s nothing n ≡ true
placed_everywhere s n h = and_left (everywhere (is_placed_at s) s nothing n) (ids_differ (rows_below n)) h

-- all that is satisfied stands in the visited leaves
pub all_found : (s : Attributes) (e : Assignments) (n : Plain) → IsSearched s e n → satisfied e (all_of (visited s e None n)) ≡ satisfied e (rows_below n)
all_found s e n t = exact s e nothing n t.lies (placed_everywhere s n t.placed) t.rows

-- where there is no room for what a search finds, there is none for what there is to find
pub no_room_in_tree : {X : Type 0} (of : Row → X) (sure : ℕ) (s : Attributes) (e : Assignments) (n : Plain) → IsSearched s e n → sure < length (hits_of of e (all_of (visited s e None n))) → sure < length (satisfied e (rows_of (contents n)))
no_room_in_tree of sure s e n t h =
    omega (arith, h, length-map (satisfied e (all_of (visited s e None n))) of, ap length (all_found s e n t), length_permutation (satisfied e (rows_below n)) (satisfied e (rows_of (contents n))) (filter_permuted (λ (row : Row). satisfies e row.conj) (rows_below n)))

visits_few : (s : Attributes) (e : Assignments) (n : Plain) → IsSearched s e n → visits s e n ≤ visits_bound s e (rows_below n)
visits_few s e n t = visits_within s e n (placed_everywhere s n t.placed) t.pruned

all_visited : (s : Attributes) (e : Assignments) (n : Plain) → IsSearched s e n → 1 ≤ visits s e n
all_visited s e (node rows parts low high) t = omega arith

tested_most : (e : Assignments) (rows all : List Row) → satisfied e rows ≡ satisfied e all → length (satisfied e all) ≤ length rows
tested_most e rows all h =
    omega (arith, ap length h, length-filter (λ (row : Row). satisfies e row.conj) rows, count_by-le-length (λ (row : Row). satisfies e row.conj) rows)

-- rows in another order have the same bounds
same_bounds : (s : Attributes) (e : Assignments) (rows others : List Row) (c : Cost) → IsPermutation rows others → IsPermutation (satisfied e rows) (satisfied e others) → IsWithinBound s e rows c → IsWithinBound s e others c
same_bounds s e rows others c same found w =
    record {
      some = w.some;
      visits = omega (arith, w.visits, sum_by-IsPermutation (shared s e) rows others same);
      found = omega (arith, w.found, length_permutation (satisfied e rows) (satisfied e others) found);
      tested = omega (arith, w.tested, sum_by-IsPermutation (λ row. cond (is_covered e row) 1 0) rows others same);
    }

pub within_bound : (s : Attributes) (e : Assignments) (n : Plain) (c : Cost) → IsSearched s e n → c.visits ≡ visits s e n → c.tested ≡ tested s e n → IsWithinBound s e (rows_of (contents n)) c
within_bound s e n c t v u =
    same_bounds s e (rows_below n) (rows_of (contents n)) c (rows_permuted (rows_below n)) (filter_permuted (λ (row : Row). satisfies e row.conj) (rows_below n))
    (record {
      some = omega (arith, v, all_visited s e n t);
      visits = omega (arith, v, visits_few s e n t);
      found = omega (arith, u, tested_most e (all_of (visited s e None n)) (rows_below n) (all_found s e n t));
      tested = omega (arith, v, u, tested_within s e n t.settled);
    })

-- 64 bits count what a search visits and tests
pub countable : (s : Attributes) (e : Assignments) (n : Plain) → IsSearched s e n → AreCountable (visited s e None n)
countable s e n t =
    let few = few_rows s n t.rows t.placed in
    let v = visits_few s e n t in
    let w = few_visits s e (rows_below n) t.schema t.form.rising t.lies few in
    record { few = omega (arith, v, w); few_rows = omega (arith, tested_below s e n, few) }
