-- A node that a search enters. Its leaf was counted ahead, or is counted then.
use Rattle.std.proofs.Common.{◌≡◌, Bool, true, false, cond, List, [], ◌∷◌, ap, arith}
use Rattle.be_model.specs.declared.changes.Row.{Row}
use Rattle.be_model.specs.declared.costs.Cost.{Cost}
use Rattle.be_model.specs.Matching.{Assignments}
use Rattle.be_index.specs.Puts.{Held}
use Rattle.be_match.specs.Ahead.{AreOthersCountable}
use Rattle.be_match.specs.Leaves.{AreCountableWith, cost_with}
use Rattle.be_match.proofs.AheadSizes.{AreNoMore}
use Rattle.be_match.proofs.Descents.{IsDescending}

-- 64 bits count its leaf
pub entered_countable : (w : Bool) (c : Cost) (rows : List Row) (v : List (List Row)) → AreNoMore (rows ∷ []) v → AreOthersCountable c (cond w (rows ∷ []) []) v → AreCountableWith c (cond w [] (rows ∷ []))
entered_countable true c rows v m k = record { few = omega (arith, k.few, m.few); few_rows = omega (arith, k.few_rows, m.few_rows) }
entered_countable false c rows v m k = record { few = omega (arith, k.few, m.few); few_rows = omega (arith, k.few_rows, m.few_rows) }

-- and what it is still to visit
pub entered_others : (w : Bool) (c d : Cost) (rows : List Row) (v : List (List Row)) → AreOthersCountable c (cond w (rows ∷ []) []) v → d ≡ cost_with c (cond w [] (rows ∷ [])) → AreOthersCountable d (rows ∷ []) v
entered_others true c d rows v k is = record { few = omega (arith, k.few, ap (λ q. q.visits) is); few_rows = omega (arith, k.few_rows, ap (λ q. q.tested) is) }
entered_others false c d rows v k is = record { few = omega (arith, k.few, ap (λ q. q.visits) is); few_rows = omega (arith, k.few_rows, ap (λ q. q.tested) is) }

-- a descent goes on there
pub entered_descent : {X : Type 0} (of : Row → X) (e : Assignments) (a b : Held X) (c d d1 : Cost) (before all : List (List Row)) (w : Bool) (rows : List Row) (rest : List (List Row)) → IsDescending of e a b c d before all (cond w (rows ∷ []) []) rest
    → d1 ≡ cost_with d (cond w [] (rows ∷ [])) → IsDescending of e a b c d1 before all (rows ∷ []) rest
entered_descent of e a b c d d1 before all true rows rest h is = record { visits = omega (arith, h.visits, ap (λ q. q.visits) is); tested = omega (arith, h.tested, ap (λ q. q.tested) is); put = h.put }
entered_descent of e a b c d d1 before all false rows rest h is = record { visits = omega (arith, h.visits, ap (λ q. q.visits) is); tested = omega (arith, h.tested, ap (λ q. q.tested) is); put = h.put }
