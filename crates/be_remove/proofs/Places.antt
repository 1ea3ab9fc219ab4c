-- Rows and parts at their places.
use Rattle.std.proofs.Common.{◌≡◌, ◌<◌, ℕ, zero, suc, Bool, true, false, cond, List, [], ◌∷◌, length, get_or, refl, sym, ap, ◌∙◌, arith}
use Rattle.std.specs.List.{remove}
use Rattle.be_shape.specs.declared.nodes.Part.{Part}
use Rattle.be_shape.specs.Plain.{part, part_as, parts_as}
use Rattle.be_shape.specs.Less.{is_bare}
use Rattle.be_remove.specs.Taken.{kept_part}

-- the part at a place is kept, or it isn't
pub part_kept : (ps : List Part) (i : ℕ) (q : Part) → i < length ps → q ≡ get_or ps i q → kept_part i (parts_as ps) ≡ cond (is_bare (part_as q).1) (parts_as (remove ps i)) (parts_as ps)
part_kept [] i q l e = absurd (omega arith)
part_kept (p ∷ ps) zero q l e = ap (λ z. cond (is_bare (part_as z).1) (parts_as ps) (parts_as (p ∷ ps))) (sym e)
part_kept (p ∷ ps) (suc i) q l e =
    ap (λ z. part (part_as p).0 (part_as p).1 z) (part_kept ps i q (omega arith) e) ∙ by_test (is_bare (part_as q).1)
  where
    by_test : (b : Bool) → part (part_as p).0 (part_as p).1 (cond b (parts_as (remove ps i)) (parts_as ps)) ≡ cond b (parts_as (remove (p ∷ ps) (suc i))) (parts_as (p ∷ ps))
    by_test true = refl
    by_test false = refl
