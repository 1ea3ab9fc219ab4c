-- The changes from a place on, one after another.
use Rattle.std.proofs.Common.{◌≡◌, ℕ, ◌+◌, ◌-◌, ◌<◌, ◌≤◌, List, [], ◌∷◌, ◌++◌, length, take, drop, Some, slice_get, ap, ◌∙◌, arith, length-drop}
use Rattle.std.proofs.lemmas.List.{take_more, get_or-drop}
use Rattle.std.proofs.lemmas.Option.{slice_get_within, get_or_from_slice_get}
use Rattle.std.proofs.Math.ListN.{get_or}
use Rattle.be_change.specs.History.{Entry}

-- one more of them
pub tail_more : (h : List Entry) (from place : ℕ) (e : Entry) → from ≤ place → slice_get h place ≡ Some e → take (place + 1 - from) (drop from h) ≡ take (place - from) (drop from h) ++ e ∷ []
tail_more h from place e after at =
    let within : place < length h = slice_get_within h place e at in
    let k : ℕ = place - from in
    let next : place + 1 - from ≡ (place - from) + 1 = omega arith in
    let short : place - from < length (drop from h) = omega (arith, length-drop from h) in
    let here : get_or (drop from h) (place - from) e ≡ e = get_or-drop from h (place - from) e ∙ (ap (λ (i : ℕ). get_or h i e) (omega arith) ∙ get_or_from_slice_get h place e e at) in
    ap (λ (i : ℕ). take i (drop from h)) next
    ∙ (take_more (drop from h) (place - from) e short ∙ ap (λ (x : Entry). take (place - from) (drop from h) ++ x ∷ []) here)
