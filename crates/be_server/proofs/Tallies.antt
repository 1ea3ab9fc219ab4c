-- The sums of what some events find and cost, and how large they are.
use Rattle.std.proofs.Common.{◌≡◌, ℤ, ◌+◌, ◌*◌, ◌≤◌, Bool, true, false, cond, List, [], ◌∷◌, ◌++◌, length, length-append, get_or, refl, arith}
use Rattle.std.specs.List.{count_by}
use Rattle.std.proofs.lemmas.List.Sums.{sum_by_push, sum_by-le, length-filter, count_by-le-length}
use Rattle.be_base.specs.declared.names.AttrNo.{AttrNo}
use Rattle.be_model.specs.declared.changes.Row.{Row}
use Rattle.be_model.specs.declared.costs.Cost.{Cost}
use Rattle.be_model.specs.Bounds.{bits_at, ranges_to, shared, visits_bound, is_covered, IsWithinBound}
use Rattle.be_model.specs.Matching.{Assignments, satisfies, satisfied}
use Rattle.be_model.specs.Rows.{has}
use Rattle.be_model.proofs.FewItems.{few_items}
use Rattle.be_model.proofs.RangeBits.{bits_few}
use Rattle.be_workload.specs.Asked.{schema, IsOfSchema}
use Rattle.be_workload.proofs.Attributes.{schema_is_schema}
use Rattle.be_server.specs.declared.sums.Sums.{Sums}
use Rattle.be_server.specs.Sums.{hits_among, visits_bounds, tested_bounds, no_script_sums, with_hits, with_cost}

-- events were told of and events were costed, over these rows
pub record Tallies (rows : List Row) (told costs : List Assignments) (sums : Sums) : Type 0 where
  pub hits : sums.hits ≡ hits_among rows told
  pub some : length costs ≤ sums.cost.visits
  pub visits : sums.cost.visits ≤ visits_bounds schema rows costs
  pub found : hits_among rows costs ≤ sums.cost.tested
  pub tested : sums.cost.tested ≤ tested_bounds rows costs sums.cost.visits
  pub few_hits : sums.hits ≤ length told * 100000
  pub few_visits : sums.cost.visits ≤ length costs * 40000000
  pub few_tested : sums.cost.tested ≤ length costs * 700000000

pub tally_none : (rows : List Row) → Tallies rows [] [] no_script_sums
tally_none rows = record {
  hits = refl;
  some = omega arith;
  visits = omega arith;
  found = omega arith;
  tested = omega arith;
  few_hits = omega arith;
  few_visits = omega arith;
  few_tested = omega arith;
}

-- an event satisfies no more rows than there are
pub few_satisfied : (e : Assignments) (rows : List Row) → length (satisfied e rows) ≤ length rows
few_satisfied e rows =
    let test = λ (row : Row). satisfies e row.conj in
    omega (arith, length-filter test rows, count_by-le-length test rows)

few_ranges : (row : Row) (item : AttrNo × List ℤ) → ranges_to schema row item ≤ 33
few_ranges row item = by_test (has item.0 row) (bits_few schema item.0 schema_is_schema)
  where
    by_test : (b : Bool) → bits_at schema item.0 ≤ 32 → cond b (1 + bits_at schema item.0) 0 ≤ 33
    by_test true h = omega arith
    by_test false h = omega arith

few_shared : (e : Assignments) (row : Row) → IsOfSchema e → shared schema e row ≤ 330
few_shared e row h =
    omega (arith, sum_by-le (ranges_to schema row) 33 e (λ k d l. few_ranges row (get_or e k d)), few_items schema e h.0.rising h.1)

few_visits_of : (e : Assignments) (rows : List Row) → IsOfSchema e → length rows ≤ 100000 → visits_bound schema e rows ≤ 40000000
few_visits_of e rows h few =
    omega (arith, sum_by-le (shared schema e) 330 rows (λ k d l. few_shared e (get_or rows k d) h))

-- one cost is small
pub record IsSmallCost (c : Cost) : Type 0 where
  pub visits : c.visits ≤ 40000000
  pub tested : c.tested ≤ 700000000

pub small_cost : (e : Assignments) (rows : List Row) (c : Cost) → IsOfSchema e → length rows ≤ 100000 → IsWithinBound schema e rows c → IsSmallCost c
small_cost e rows c h few within =
    let visits : c.visits ≤ 40000000 = omega (arith, within.visits, few_visits_of e rows h few) in
    record { visits = visits; tested = omega (arith, within.tested, count_by-le-length (is_covered e) rows) }

pub tally_hits : (rows : List Row) (told costs : List Assignments) (sums : Sums) (e : Assignments) → length rows ≤ 100000 → Tallies rows told costs sums
    → Tallies rows (told ++ e ∷ []) costs (with_hits (length (satisfied e rows)) sums)
tally_hits rows told costs sums e few t = record {
  hits = omega (arith, t.hits, sum_by_push (λ (x : Assignments). length (satisfied x rows)) told e);
  some = t.some;
  visits = t.visits;
  found = t.found;
  tested = t.tested;
  few_hits = omega (arith, t.few_hits, few_satisfied e rows, length-append told (e ∷ []));
  few_visits = t.few_visits;
  few_tested = t.few_tested;
}

pub tally_cost : (rows : List Row) (told costs : List Assignments) (sums : Sums) (e : Assignments) (c : Cost) → IsOfSchema e → length rows ≤ 100000
    → IsWithinBound schema e rows c → Tallies rows told costs sums → Tallies rows told (costs ++ e ∷ []) (with_cost c sums)
tally_cost rows told costs sums e c h few within t =
    let small = small_cost e rows c h few within in
    let more = length-append costs (e ∷ []) in
    record {
      hits = t.hits;
      some = omega (arith, t.some, within.some, more);
      visits = omega (arith, t.visits, within.visits, sum_by_push (λ (x : Assignments). visits_bound schema x rows) costs e);
      found = omega (arith, t.found, within.found, sum_by_push (λ (x : Assignments). length (satisfied x rows)) costs e);
      tested = omega (arith, t.tested, within.tested, sum_by_push (λ (x : Assignments). count_by (is_covered x) rows) costs e);
      few_hits = t.few_hits;
      few_visits = omega (arith, t.few_visits, small.visits, more);
      few_tested = omega (arith, t.few_tested, small.tested, more);
    }
