-- Where a row isn't.
use Rattle.std.proofs.Common.{◌≡◌, zero, suc, Bool, true, false, not, List, [], ◌∷◌, ◌⊎◌, inl, inr, sym, ap, ◌∙◌, subst, arith}
use Rattle.std.specs.List.{list_all, flat_map, AllByRecursion, Contains}
use Rattle.std.proofs.lemmas.Bool.{and_parts, false≢true, not-true, or_parts}
use Rattle.std.proofs.lemmas.List.Elements.{Contains-append_cases}
use Rattle.be_model.specs.declared.changes.Row.{Row}
use Rattle.be_model.specs.declared.paths.Hop.{Hop}
use Rattle.be_model.specs.Schemas.{Attributes}
use Rattle.be_shape.specs.Plain.{Plain, rows_below, leaf_of}
use Rattle.be_shape.specs.Shape.{NodeRange, known}
use Rattle.be_shape.specs.Children.{children, may_pass}
use Rattle.be_shape.specs.Right.{is_right_at}
use Rattle.be_shape.specs.Less.{IsRightIn}
use Rattle.be_shape.proofs.Children.{levels, rows_of, rows_are}
use Rattle.be_shape.proofs.Levels.{passes_one, drawn_is}
use Rattle.be_shape.proofs.OneLevel.{right_here}
use Rattle.be_shape.proofs.Among.{placed_at}
use Rattle.be_remove.specs.Taken.{has_way, Lacks}

-- a row of a list passes what all pass
pub all_contain : (p : Row → Bool) (rows : List Row) (row : Row) → list_all p rows ≡ true → Contains rows row → p row ≡ true
all_contain p [] row h c = absurd (omega (arith, c.1))
all_contain p (x ∷ rows) row h (zero, l, is) = ap p (sym is) ∙ (and_parts (p x) (list_all p rows) h).0
all_contain p (x ∷ rows) row h (suc i, l, is) =
    all_contain p rows row (and_parts (p x) (list_all p rows) h).1 (i, omega arith, is)

nowhere : (row : Row) (xs : List (Hop × Plain)) → AllByRecursion (λ (x : Hop × Plain). Lacks row x.1) xs → Contains (flat_map rows_of xs) row → ⊥
nowhere row [] h k = omega (arith, k.1)
nowhere row (x ∷ xs) h k = by_child (nowhere row xs h.1) (Contains-append_cases (rows_below x.1) (flat_map rows_of xs) row k)
  where
    by_child : (Contains (flat_map rows_of xs) row → ⊥) → Contains (rows_below x.1) row ⊎ Contains (flat_map rows_of xs) row → ⊥
    by_child f (inl a) = h.0 a
    by_child f (inr b) = f b

pub lacks_from : (row : Row) (n : Plain) → (Contains (leaf_of n) row → ⊥) → AllByRecursion (λ (x : Hop × Plain). Lacks row x.1) (children n) → Lacks row n
lacks_from row n leaf each c =
    by_place (Contains-append_cases (leaf_of n) (flat_map rows_of (children n)) row (subst (λ l. Contains l row) (rows_are n) c))
  where
    by_place : Contains (leaf_of n) row ⊎ Contains (flat_map rows_of (children n)) row → ⊥
    by_place (inl a) = leaf a
    by_place (inr b) = nowhere row (children n) each b

-- a row that may pass to no child is below none
pub no_way : (s : Attributes) (r : NodeRange) (n : Plain) (row : Row) → IsRightIn s r n → has_way s r n row ≡ false → (Contains (leaf_of n) row → ⊥) → Lacks row n
no_way s r n row (used, right) h leaf =
    lacks_from row n leaf (each (children n) h (placed_at s (known r used) n right).pass)
  where
    each : (xs : List (Hop × Plain)) → passes_one s (known r used) xs row ≡ false → AllByRecursion (λ (x : Hop × Plain). list_all (may_pass s x.0 r) (rows_below x.1) ≡ true) xs → AllByRecursion (λ (x : Hop × Plain). Lacks row x.1) xs
    each [] e p = tt
    each (x ∷ xs) e p =
        let q = or_parts (may_pass s x.0 r row) (passes_one s (known r used) xs row) e in
        (λ c. false≢true (sym q.0 ∙ all_contain (may_pass s x.0 r) (rows_below x.1) row p.0 c), each xs q.1 p.1)

-- a row that may pass to a child isn't in the leaf
pub a_way : (s : Attributes) (r : NodeRange) (n : Plain) (row : Row) → IsRightIn s r n → has_way s r n row ≡ true → AllByRecursion (λ (x : Hop × Plain). Lacks row x.1) (children n) → Lacks row n
a_way s r n row (used, right) h each =
    let k = known r used in
    let drawn = sym (drawn_is s k n) ∙ (right_here s k n (levels (is_right_at s) s k n right.right).here).1 in
    lacks_from row n (λ c. false≢true (sym (not-true (passes_one s k (children n) row) (all_contain (λ z. not (passes_one s k (children n) z)) (leaf_of n) row drawn c)) ∙ h)) each
