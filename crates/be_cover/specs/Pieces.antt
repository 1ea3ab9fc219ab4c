-- What comparisons leave of ranges.
use Rattle.std.specs.Prelude.{ℤ, pos, ◌+ℤ◌, ◌-ℤ◌, ◌&&◌, Bool, List, [], ◌∷◌, ◌++◌, int_le, if◌then◌else◌}
use Rattle.std.specs.Ordering.{int_eq}
use Rattle.std.specs.Int.{int_max, int_min}
use Rattle.be_base.specs.declared.limits.TheConstants.{FIRST_INT, LAST_INT}
use Rattle.be_model.specs.declared.ops.Op.{Op}
use Rattle.be_model.specs.declared.ops.Op.TheVariants.{Lt, Le, Eq, Ne, Ge, Gt, Between, OneOf, NoneOf}
use Rattle.be_model.specs.Domains.{Range, is_within}

-- the bounds are those of a domain
abbrev pub is_near : Range → Bool
is_near r = int_le FIRST_INT r.0 && int_le r.1 LAST_INT

-- the range, unless it is empty
abbrev pub whole : Range → List Range
whole r = if int_le r.0 r.1 then r ∷ [] else []

-- what is left of a range without rising numbers
abbrev pub gaps : List ℤ → Range → List Range
gaps [] r = whole r
gaps (x ∷ xs) r = if is_within r x then whole (r.0, x -ℤ pos 1) ++ gaps xs (x +ℤ pos 1, r.1) else gaps xs r

-- no value, right before a range
abbrev pub before : Range → Range
before r = (r.0, r.0 -ℤ pos 1)

-- the run with a number more, where it goes on there, and else a new one
abbrev pub run_after : Range → ℤ → Range
run_after run x = if int_eq (x -ℤ pos 1) run.1 then (run.0, x) else (x, x)

-- the run that the number ends
abbrev pub run_ended : Range → ℤ → List Range
run_ended run x = if int_eq (x -ℤ pos 1) run.1 then [] else whole run

-- the runs of rising numbers that stand in a range, behind the run so far
abbrev pub runs : List ℤ → Range → Range → List Range
runs [] r run = whole run
runs (x ∷ xs) r run = if is_within r x then run_ended run x ++ runs xs r (run_after run x) else runs xs r run

-- what a comparison leaves of a range
abbrev pub pieces : Op → Range → List Range
pieces (Lt x) r = whole (r.0, int_min r.1 (x -ℤ pos 1))
pieces (Le x) r = whole (r.0, int_min r.1 x)
pieces (Eq x) r = whole (int_max r.0 x, int_min r.1 x)
pieces (Ne x) r = gaps (x ∷ []) r
pieces (Ge x) r = whole (int_max r.0 x, r.1)
pieces (Gt x) r = whole (int_max r.0 (x +ℤ pos 1), r.1)
pieces (Between x y) r = whole (int_max r.0 x, int_min r.1 y)
pieces (OneOf xs) r = runs xs r (before r)
pieces (NoneOf xs) r = gaps xs r
