-- A search visits no more nodes than the rows below can pay for.
use Rattle.std.proofs.Common.{◌≡◌, ℕ, ◌+◌, ◌≤◌, Bool, true, false, cond, List, [], ◌∷◌, length, refl, sym, ap, ◌∙◌, subst, arith, length-append}
use Rattle.std.specs.List.{sum_by, list_all, flat_map, AllByRecursion}
use Rattle.std.proofs.lemmas.List.Sums.{sum_by-append, sum_by-le-sum_by}
use Rattle.be_model.specs.declared.changes.Row.{Row}
use Rattle.be_model.specs.Schemas.{Attributes}
use Rattle.be_model.specs.Matching.{Assignments}
use Rattle.be_model.specs.Bounds.{shared, visits_bound}
use Rattle.be_shape.specs.Plain.{Plain, rows_below, leaf_of}
use Rattle.be_shape.specs.Shape.{Known, nothing, everywhere, is_placed_at, is_pruned_at, is_some}
use Rattle.be_shape.specs.Search.{visited, visits}
use Rattle.std.proofs.lemmas.Bool.{and_parts}
use Rattle.be_model.specs.declared.paths.Hop.{Hop}
use Rattle.be_shape.specs.Children.{children, known_below, is_open, may_pass}
use Rattle.be_shape.specs.Paths.{range_below}
use Rattle.be_shape.proofs.Children.{where_known, levels, below, rows_of, rows_are}
use Rattle.be_shape.proofs.Placed.{placed}
use Rattle.be_shape.proofs.Levels.{holds_rows, pruned_is}
use Rattle.be_shape.proofs.Visited.{enters, visited_of, visited_is}
use Rattle.be_match.proofs.Exact.{range_known}
use Rattle.be_match.proofs.Shares.{share, share_at_root, share_below, rows_pay}

-- the leaves of a child are visited, or none
paid : (b : Bool) (v : List (List Row)) (n m : ℕ) → (b ≡ true → length v ≤ 1 + n) → (b ≡ true → 1 + n ≤ m) → length (cond b v []) ≤ m
paid true v n m h k = omega (arith, h refl, k refl)
paid false v n m h k = omega arith

abbrev IsPaid : Attributes → Assignments → Known → Plain → Type 0
IsPaid s e k n = everywhere is_pruned_at s k n ≡ true → length (visited s e k.range n) ≤ 1 + sum_by (share s e k) (rows_below n)

in_children : (s : Attributes) (e : Assignments) (k : Known) (xs : List (Hop × Plain)) → AllByRecursion (λ (x : Hop × Plain). is_open x.0 k ≡ true) xs
    → AllByRecursion (λ (x : Hop × Plain). list_all (may_pass s x.0 k.range) (rows_below x.1) ≡ true) xs → list_all holds_rows xs ≡ true → AllByRecursion (λ (x : Hop × Plain). below is_pruned_at s k x ≡ true) xs
    → AllByRecursion (λ (x : Hop × Plain). IsPaid s e (known_below s x.0 k) x.1) xs → length (flat_map (visited_of s e k.range) xs) ≤ sum_by (share s e k) (flat_map rows_of xs)
in_children s e k [] may pass hold pruned claims = omega arith
in_children s e k (x ∷ xs) may pass hold pruned claims =
    let h = and_parts (is_some (rows_below x.1)) (list_all holds_rows xs) hold in
    let first = paid (enters s e k.range x.0) (visited s e (range_below s x.0 k.range) x.1) (sum_by (share s e (known_below s x.0 k)) (rows_below x.1)) (sum_by (share s e k) (rows_below x.1)) (λ _. subst (λ r. length (visited s e r x.1) ≤ 1 + sum_by (share s e (known_below s x.0 k)) (rows_below x.1)) (range_known s x.0 k) (claims.0 pruned.0)) (λ entered. rows_pay (share s e (known_below s x.0 k)) (share s e k) (may_pass s x.0 k.range) (rows_below x.1) pass.0 (λ row passed. share_below s e x.0 k row may.0 entered passed) h.0) in
    omega (arith, first, in_children s e k xs may.1 pass.1 h.1 pruned.1 claims.1, length-append (visited_of s e k.range x) (flat_map (visited_of s e k.range) xs), sum_by-append (share s e k) (rows_below x.1) (flat_map rows_of xs))

within : (s : Attributes) (e : Assignments) (k : Known) (n : Plain) → everywhere (is_placed_at s) s k n ≡ true → IsPaid s e k n
within s e =
    where_known (is_placed_at s) s (IsPaid s e)
    (λ k n l claims pruned. let p = placed s k n l in
    let q = levels is_pruned_at s k n pruned in
    let w = flat_map (visited_of s e k.range) (children n) in
    omega (arith, ap length (visited_is s e k.range n), ap (sum_by (share s e k)) (rows_are n), in_children s e k (children n) p.open_steps p.pass (sym (pruned_is k n) ∙ q.here) q.children claims, sum_by-append (share s e k) (leaf_of n) (flat_map rows_of (children n))))

pub visits_within : (s : Attributes) (e : Assignments) (n : Plain) → everywhere (is_placed_at s) s nothing n ≡ true → everywhere is_pruned_at s nothing n ≡ true → visits s e n ≤ visits_bound s e (rows_below n)
visits_within s e n at pruned =
    omega (arith, within s e nothing n at pruned, sum_by-le-sum_by (share s e nothing) (shared s e) (rows_below n) (share_at_root s e))
