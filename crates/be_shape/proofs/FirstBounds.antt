-- The bounds that give a test are those of a predicate.
use Rattle.std.proofs.Common.{◌≡◌, Bool, true, false, List, length, Option, Some, None, cond, refl}
use Rattle.std.specs.List.{list_any}
use Rattle.be_model.specs.declared.preds.Pred.{Pred}
use Rattle.be_model.specs.Hulls.{is_on}
use Rattle.be_shape.specs.declared.glances.Bounds.{Bounds}
use Rattle.be_shape.specs.Glances.{bounds_of, new_bounds, narrow_bounds, are_widest, refusing, further_bounds}
use Rattle.be_shape.specs.declared.widths.Narrowest.{Narrowest}
use Rattle.be_shape.specs.Widths.{has_place}

by_leave : (P : Option Bounds → Type 0) → P None → (o : Option Bounds) → P o → (c : Bool) → P (cond c o None)
by_leave P n o k true = k
by_leave P n o k false = n

by_refusal : (P : Option Bounds → Type 0) → P None → (o : Option Bounds) → P o → (c : Bool) → P (cond c None o)
by_refusal P n o k true = n
by_refusal P n o k false = k

kept_refusing : (P : Option Bounds → Type 0) → P None → (o : Option Bounds) → P o → P (refusing o)
kept_refusing P n None k = k
kept_refusing P n (Some b) k = by_refusal P n (Some b) k (are_widest b.ends)

-- what holds of no bounds and of a predicate's holds of those by which it gives a test
pub of_first : (P : Option Bounds → Type 0) → P None → (t : Narrowest) (before : List Pred) (p : Pred) → P (bounds_of p.op) → P (narrow_bounds t before p)
of_first P n t before p k = by_leave P n (new_bounds before p) (by_refusal P n (bounds_of p.op) k (list_any (is_on p.attr) before)) (has_place (length before) t)

pub of_further : (P : Option Bounds → Type 0) → P None → (few : Bool) (p : Pred) → P (bounds_of p.op) → P (further_bounds few p)
of_further P n few p k = by_leave P n (refusing (bounds_of p.op)) (kept_refusing P n (bounds_of p.op) k) few

-- a predicate that gives bounds is the first on its attribute, and they are its own
pub record IsNew (before : List Pred) (p : Pred) (b : Bounds) : Type 0 where
  pub first : list_any (is_on p.attr) before ≡ false
  pub told : bounds_of p.op ≡ Some b

new_is : (before : List Pred) (p : Pred) (b : Bounds) → new_bounds before p ≡ Some b → IsNew before p b
new_is before p b h = by_test (list_any (is_on p.attr) before) refl h
  where
    by_test : (c : Bool) → list_any (is_on p.attr) before ≡ c → cond c None (bounds_of p.op) ≡ Some b → IsNew before p b
    by_test true e k = absurd cc
    by_test false e k = record { first = e; told = k }

pub narrow_is : (t : Narrowest) (before : List Pred) (p : Pred) (b : Bounds) → narrow_bounds t before p ≡ Some b → IsNew before p b
narrow_is t before p b h =
    by_leave (λ (o : Option Bounds). o ≡ Some b → IsNew before p b) (λ k. absurd cc) (new_bounds before p) (new_is before p b) (has_place (length before) t) h
