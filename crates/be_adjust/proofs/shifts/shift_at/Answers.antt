use Rattle.std.proofs.Common.{◌≡◌, true, Some, sym, ap, ◌∙◌, subst}
use Rattle.std.specs.Prelude.{IsPermutation}
use Rattle.std.specs.Arc.{arc_value}
use Rattle.be_model.specs.declared.paths.Hop.TheVariants.{Part}
use Rattle.be_model.specs.ByIds.{ids_differ}
use Rattle.be_model.specs.Rows.{id_of}
use Rattle.be_shape.specs.Plain.{Plain, plain, rows_below}
use Rattle.be_shape.specs.Shape.{nothing}
use Rattle.be_shape.specs.Children.{is_open, known_below}
use Rattle.be_shape.specs.Paths.{walk}
use Rattle.be_shape.specs.NodeList.{known_along}
use Rattle.be_shape.specs.Right.{IsRight}
use Rattle.be_shape.specs.Steps.{replaced, IsShifted}
use Rattle.be_shape.proofs.Replacements.{Reshaped, right_along, open_on, replaced_right}
use Rattle.std.proofs.lemmas.Result.{on_ok_weaker}
use Rattle.be_shape.proofs.Reshaping.{taken_out, put_back}
use Rattle.be_adjust.specs.Shifts.{MayShift}
use Rattle.be_adjust.proofs.Shifted.{shift_there, shift_stands, open_there, differ_along}
use Rattle.be_adjust.proofs.shifts.shift_at.Goals as goal
use Rattle.be_adjust.proofs.shifts.shift_at.Goals.{Start, After-swap_at, After-swap_at-2}

-- the node at the end of the path, below which the row may be shifted
found : (c : Start) → (m : Plain) × (walk c.args.hops.now (plain c.args.root.now) ≡ Some m) × MayShift c.args.from c.args.to (id_of (arc_value c.args.row)) m (arc_value c.args.row)
found c = shift_there c.args.from c.args.to (id_of (arc_value c.args.row)) (walk c.args.hops.now (plain c.args.root.now)) (arc_value c.args.row) c.requires.may

-- it is taken out, and another put in its place
taken : (c : After-swap_at) (m : Plain) → walk c.args.hops.now (plain c.args.root.now) ≡ Some m → plain c.swap_at.new.other ≡ m
taken c m there = taken_out c.args.hops.now (plain c.args.root.now) m (plain c.make-here.result) (plain c.swap_at.new.other) there c.swap_at.ensures.taken

put : (c : After-swap_at-2) (m : Plain) → walk c.args.hops.now (plain c.args.root.now) ≡ Some m → plain c.swap_at-2.new.n ≡ replaced c.args.hops.now (plain c.shift_row-done.new.n) (plain c.args.root.now)
put c m there =
    put_back c.args.hops.now (plain c.args.root.now) m (plain c.make-here.result) (plain c.shift_row-done.new.n) (plain c.swap_at.new.n) (plain c.swap_at-2.new.n) there c.swap_at.ensures.put c.swap_at-2.ensures.put

-- so that the tree is right, and has the same rows
reshaped : (c : After-swap_at-2) (m : Plain) → walk c.args.hops.now (plain c.args.root.now) ≡ Some m → plain c.swap_at.new.other ≡ m → Reshaped c.args.s.now nothing (plain c.args.root.now) (plain c.swap_at-2.new.n)
reshaped c m there is =
    let s = c.args.s.now in
    let n = plain c.args.root.now in
    let o = plain c.shift_row-done.new.n in
    let d : Reshaped s (known_along s c.args.hops.now nothing) m o = record { right = subst (λ i. IsRight s i o) c.in_ok-spot.ensures c.shift_row-done.ensures.right; same = subst (λ x. IsPermutation (rows_below x) (rows_below o)) is c.shift_row-done.ensures.rows } in
    subst (Reshaped s nothing n) (sym (put c m there)) (replaced_right s c.args.hops.now nothing n m o c.requires.right there d)

pub along-requires : goal.along-requires
along-requires c =
    let e = found (goal.at.along-requires c).Start in
    open_on c.args.s.now c.args.hops.now nothing (plain c.args.root.now) e.0 c.requires.right e.1

pub along-requires-2 : goal.along-requires-2
along-requires-2 c =
    let e = found (goal.at.along-requires-2 c).Start in
    open_on c.args.s.now c.args.hops.now nothing (plain c.args.root.now) e.0 c.requires.right e.1

pub enter-requires : goal.enter-requires
enter-requires c =
    let s = c.args.s.now in
    let hops = c.args.hops.now in
    let e = found (goal.at.enter-requires c).Start in
    let z = shift_stands c.args.from c.args.to (id_of (arc_value c.args.row)) e.0 e.2.stands in
    subst (λ i. is_open (Part c.args.to) i ≡ true) (sym c.in_ok-below.ensures) (open_there s (known_along s hops nothing) e.0 z.second (Part c.args.to) (right_along s hops nothing (plain c.args.root.now) e.0 c.requires.right e.1) z.to_there)

pub shift_row-done-requires-clause-right : goal.shift_row-done-requires-clause-right
shift_row-done-requires-clause-right c =
    let at = goal.at.shift_row-done-requires-clause-right c in
    let s = c.args.s.now in
    let hops = c.args.hops.now in
    let e = found at.Start in
    subst (λ i. IsRight s i (plain c.swap_at.new.other)) (sym c.in_ok-spot.ensures) (subst (IsRight s (known_along s hops nothing)) (sym (taken at.After-swap_at e.0 e.1)) (right_along s hops nothing (plain c.args.root.now) e.0 c.requires.right e.1))

pub shift_row-done-requires-clause-differ : goal.shift_row-done-requires-clause-differ
shift_row-done-requires-clause-differ c =
    let at = goal.at.shift_row-done-requires-clause-differ c in
    let e = found at.Start in
    subst (λ x. ids_differ (rows_below x) ≡ true) (sym (taken at.After-swap_at e.0 e.1)) (differ_along c.args.hops.now (plain c.args.root.now) e.0 e.1 c.requires.differ)

pub shift_row-done-requires-clause-below : goal.shift_row-done-requires-clause-below
shift_row-done-requires-clause-below c =
    c.in_ok-enter.ensures.entered ∙ ap (known_below c.args.s.now (Part c.args.to)) (c.in_ok-below.ensures ∙ sym c.in_ok-spot.ensures)

pub shift_row-done-requires-clause-may : goal.shift_row-done-requires-clause-may
shift_row-done-requires-clause-may c =
    let at = goal.at.shift_row-done-requires-clause-may c in
    let e = found at.Start in
    subst (λ x. MayShift c.args.from c.args.to (id_of (arc_value c.args.row)) x (arc_value c.args.row)) (sym (taken at.After-swap_at e.0 e.1)) e.2

pub returns-clause-right : goal.returns-clause-right
returns-clause-right c =
    let at = goal.at.returns-clause-right c in
    let e = found at.Start in
    (reshaped at.After-swap_at-2 e.0 e.1 (taken at.After-swap_at e.0 e.1)).right

pub returns-clause-rows : goal.returns-clause-rows
returns-clause-rows c =
    let at = goal.at.returns-clause-rows c in
    let e = found at.Start in
    (reshaped at.After-swap_at-2 e.0 e.1 (taken at.After-swap_at e.0 e.1)).same

pub returns-clause-done : goal.returns-clause-done
returns-clause-done c =
    let at = goal.at.returns-clause-done c in
    let e = found at.Start in
    let o = plain c.shift_row-done.new.n in
    let shifted = subst (λ x. IsShifted c.args.from c.args.to (id_of (arc_value c.args.row)) x o) (taken at.After-swap_at e.0 e.1) in
    on_ok_weaker c.shift_row-done.result (λ h. record { here = e.0; there = e.1; changed = o; shifted = shifted h; is = put at.After-swap_at-2 e.0 e.1 }) c.shift_row-done.ensures.done
