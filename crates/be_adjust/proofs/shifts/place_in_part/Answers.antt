use Rattle.std.proofs.Common.{◌≡◌, ◌∷◌, ◌++◌, [], List, Some, option_and_then, sym, ap, ◌∙◌, subst}
use Rattle.std.specs.Prelude.{IsPermutation}
use Rattle.std.specs.Arc.{arc_value}
use Rattle.be_model.specs.declared.changes.Row.{Row}
use Rattle.be_model.specs.declared.paths.Hop.TheVariants.{Part}
use Rattle.be_shape.specs.Plain.{Plain, plain, rows_below}
use Rattle.be_shape.specs.Paths.{child, walk}
use Rattle.be_shape.specs.Right.{IsRight}
use Rattle.be_shape.specs.Spots.{known_of}
use Rattle.be_shape.specs.Steps.{change_child, replaced}
use Rattle.be_shape.proofs.Reshaping.{taken_out, put_back}
use Rattle.be_adjust.specs.Shifts.{TakesRow, PlacedBelow}
use Rattle.be_adjust.proofs.Shifted.{takes_there}
use Rattle.be_adjust.proofs.shifts.place_in_part.Goals as goal
use Rattle.be_adjust.proofs.shifts.place_in_part.Goals.{Start, After-swap_at, After-swap_at-2}

-- the part is there, and takes the row
found : (c : Start) → (m : Plain) × (child (Part c.args.to) (plain c.args.n.now) ≡ Some m) × TakesRow c.args.s.now (known_of c.args.below.now) (arc_value c.args.row) m
found c = takes_there c.args.s.now (known_of c.args.below.now) (arc_value c.args.row) (child (Part c.args.to) (plain c.args.n.now)) c.requires.there

-- it is taken out
taken : (c : After-swap_at) (m : Plain) → child (Part c.args.to) (plain c.args.n.now) ≡ Some m → plain c.swap_at.new.other ≡ m
taken c m there =
    taken_out (Part c.args.to ∷ []) (plain c.args.n.now) m (plain c.make-part.result) (plain c.swap_at.new.other) (ap (option_and_then (walk [])) there) c.swap_at.ensures.taken

-- and put back with the row below it, or what was handed back
placed : (c : After-swap_at-2) (m : Plain) (back : List Row) → child (Part c.args.to) (plain c.args.n.now) ≡ Some m → plain c.swap_at.new.other ≡ m → IsRight c.args.s.now (known_of c.args.below.now) (plain c.place_below-placed.new.n)
    → IsPermutation (rows_below (plain c.swap_at.new.other) ++ arc_value c.args.row ∷ []) (rows_below (plain c.place_below-placed.new.n) ++ back)
    → PlacedBelow c.args.s.now (known_of c.args.below.now) (Part c.args.to) (arc_value c.args.row) (plain c.args.n.now) (plain c.swap_at-2.new.n) back
placed c m back there is right rows =
    let n = plain c.args.n.now in
    let o = plain c.place_below-placed.new.n in
    record {
      was = m;
      there = there;
      now = o;
      is = put_back (Part c.args.to ∷ []) n m (plain c.make-part.result) o (plain c.swap_at.new.n) (plain c.swap_at-2.new.n) (ap (option_and_then (walk [])) there) c.swap_at.ensures.put c.swap_at-2.ensures.put ∙ ap (λ q. change_child (Part c.args.to) (replaced [] o) q n) there;
      right = right;
      rows = subst (λ x. IsPermutation (rows_below x ++ arc_value c.args.row ∷ []) (rows_below o ++ back)) is rows;
    }

pub place_below-placed-requires-clause-right : goal.place_below-placed-requires-clause-right
place_below-placed-requires-clause-right c =
    let at = goal.at.place_below-placed-requires-clause-right c in
    let e = found at.Start in
    subst (IsRight c.args.s.now (known_of c.args.below.now)) (sym (taken at.After-swap_at e.0 e.1)) e.2.right

pub returns-in-Ok-clause-placed : goal.returns-in-Ok-clause-placed
returns-in-Ok-clause-placed c =
    let at = goal.at.returns-in-Ok-clause-placed c in
    let e = found at.Start in
    placed at.After-swap_at-2 e.0 [] e.1 (taken at.After-swap_at e.0 e.1) c.in-Ok.ensures.right c.in-Ok.ensures.rows

pub returns-clause-refused : goal.returns-clause-refused
returns-clause-refused c =
    let at = goal.at.returns-clause-refused c in
    let e = found at.Start in
    let row = arc_value c.args.row in
    placed at.After-swap_at-2 e.0 (row ∷ []) e.1 (taken at.After-swap_at e.0 e.1) c.in-Err.ensures.right
    (subst (λ r. IsPermutation (rows_below (plain c.swap_at.new.other) ++ row ∷ []) (rows_below (plain c.place_below-placed.new.n) ++ r ∷ [])) c.in-Err.ensures.same c.in-Err.ensures.rows)
