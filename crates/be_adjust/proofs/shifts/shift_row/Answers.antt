use Rattle.std.proofs.Common.{◌≡◌, ◌≤◌, ◌∷◌, ◌++◌, [], true, List, length, refl, sym, ◌∙◌, subst, arith}
use Rattle.std.specs.Prelude.{IsPermutation}
use Rattle.std.specs.List.{Contains}
use Rattle.std.specs.Arc.{arc_value}
use Rattle.std.proofs.lemmas.Bool.{and_parts, and_from}
use Rattle.be_model.specs.declared.changes.Row.{Row}
use Rattle.be_model.specs.declared.paths.Hop.TheVariants.{Part}
use Rattle.be_model.specs.Lies.{row_lies}
use Rattle.be_model.specs.Rows.{id_of}
use Rattle.be_shape.specs.Plain.{plain, rows_below}
use Rattle.be_shape.specs.Shape.{may_stand}
use Rattle.be_shape.specs.Spots.{known_of}
use Rattle.be_shape.specs.Steps.{rows_at, rows_of_node}
use Rattle.be_insert.proofs.Settled.{row_lie}
use Rattle.be_insert.proofs.Steps.{Leaves}
use Rattle.be_adjust.specs.Shifts.{PlacedBelow}
use Rattle.be_adjust.proofs.Shifted.{may_go, part_takes, placed_below, rows_back, rows_same, first_same, is_shifted}
use Rattle.be_adjust.proofs.shifts.shift_row.Goals as goal
use Rattle.be_adjust.proofs.shifts.shift_row.Goals.{After-place_in_part}

-- what is left once the row was placed below the second part, or handed back
left : (c : After-place_in_part) (back : List Row) → length back ≤ 1 → PlacedBelow c.args.s.now (known_of c.args.below.now) (Part c.args.to) (arc_value c.args.row) (plain c.args.n.now) (plain c.place_in_part.new.n) back
    → Leaves c.args.s.now (known_of c.args.k.now) (rows_below (plain c.args.n.now) ++ arc_value c.args.row ∷ []) (plain c.place_in_part.new.n) back
left c back few p =
    let r = c.requires in
    placed_below c.args.s.now (known_of c.args.k.now) (known_of c.args.below.now) c.args.from c.args.to (id_of (arc_value c.args.row)) (plain c.args.n.now) (plain c.place_in_part.new.n) (arc_value c.args.row) back few r.form r.right r.below r.may p

pub place_in_part-requires : goal.place_in_part-requires
place_in_part-requires c =
    let r = c.requires in
    record { there = part_takes c.args.s.now (known_of c.args.k.now) (known_of c.args.below.now) c.args.from c.args.to (id_of (arc_value c.args.row)) (plain c.args.n.now) (arc_value c.args.row) r.form r.right r.below r.may }

pub returns-in_err-place_in_part-clause-right : goal.returns-in_err-place_in_part-clause-right
returns-in_err-place_in_part-clause-right c =
    (left (goal.at.returns-in_err-place_in_part-clause-right c).After-place_in_part (arc_value c.args.row ∷ []) (omega arith) c.in_err-place_in_part.ensures.refused).right

pub returns-in_err-place_in_part-clause-rows : goal.returns-in_err-place_in_part-clause-rows
returns-in_err-place_in_part-clause-rows c =
    let row = arc_value c.args.row in
    let l = left (goal.at.returns-in_err-place_in_part-clause-rows c).After-place_in_part (row ∷ []) (omega arith) c.in_err-place_in_part.ensures.refused in
    rows_back (plain c.args.n.now) (plain c.place_in_part.new.n) row c.requires.differ l.same

pub take_below_part-requires-clause-lies : goal.take_below_part-requires-clause-lies
take_below_part-requires-clause-lies c =
    let s = c.args.s.now in
    let row = arc_value c.args.row in
    let g = may_go s (known_of c.args.k.now) c.args.from c.args.to (id_of row) (plain c.args.n.now) row c.requires.form c.requires.right c.requires.may in
    subst (λ r. row_lies s r ≡ true) (sym (c.deref.ensures ∙ c.in_ok-same.ensures)) (and_parts (row_lies s row) true (row_lie s (row ∷ []) (and_from (may_stand s row) true g.may refl))).0

pub take_below_part-requires-clause-right : goal.take_below_part-requires-clause-right
take_below_part-requires-clause-right c =
    (left (goal.at.take_below_part-requires-clause-right c).After-place_in_part [] (omega arith) c.in_ok-place_in_part.ensures.placed).right

pub unreachable-requires : goal.unreachable-requires
unreachable-requires c =
    let from = c.args.from in
    let row = arc_value c.args.row in
    let w = plain c.place_in_part.new.n in
    let same = first_same c.args.s.now (known_of c.args.below.now) from c.args.to (id_of row) (plain c.args.n.now) w row [] c.requires.may c.in_ok-place_in_part.ensures.placed in
    let there : Contains (rows_at (Part from) w) c.deref.result.now = subst (Contains (rows_at (Part from) w)) (sym (c.deref.ensures ∙ c.in_ok-same.ensures)) (subst (λ q. Contains (rows_of_node q) row) (sym same) c.requires.may.there) in
    let e = c.in-None.ensures.there.1 there in absurd (cc)

pub returns-clause-rows : goal.returns-clause-rows
returns-clause-rows c =
    let w = plain c.place_in_part.new.n in
    let v = plain c.take_below_part.new.n in
    let l = left (goal.at.returns-clause-rows c).After-place_in_part [] (omega arith) c.in_ok-place_in_part.ensures.placed in
    rows_same (plain c.args.n.now) w v (arc_value c.args.row) c.requires.differ l.same (subst (λ r. IsPermutation (rows_below w) (r ∷ rows_below v)) (c.deref.ensures ∙ c.in_ok-same.ensures) c.in-Some.ensures.rows)

pub returns-clause-done : goal.returns-clause-done
returns-clause-done c =
    let from = c.args.from in
    let w = plain c.place_in_part.new.n in
    let v = plain c.take_below_part.new.n in
    let gone = subst (λ r. IsPermutation (rows_at (Part from) w) (r ∷ rows_at (Part from) v)) (c.deref.ensures ∙ c.in_ok-same.ensures) c.in-Some.ensures.taken in
    is_shifted c.args.s.now (known_of c.args.below.now) from c.args.to (plain c.args.n.now) w v (arc_value c.args.row) c.requires.may c.in_ok-place_in_part.ensures.placed c.in-Some.ensures.others c.in-Some.ensures.leaf gone
