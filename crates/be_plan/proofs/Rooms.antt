-- What rows leave of a room.
use Rattle.std.proofs.Common.{◌≡◌, ℕ, ◌+◌, ◌-◌, ◌≤◌, leb, Bool, true, false, cond, Option, Some, None, option_and_then, refl, sym, ap, ◌∙◌, arith}
use Rattle.std.proofs.lemmas.Bool.{leb-true, leb-false, le-leb, lt-leb}
use Rattle.be_plan.specs.Merges.{left_after}

pub left_sum : (room a b : ℕ) → option_and_then (λ r. left_after r b) (left_after room a) ≡ left_after room (a + b)
left_sum room a b = by_first (leb a room) refl
  where
    by_second : (t : Bool) → leb b (room - a) ≡ t → a ≤ room → cond t (Some (room - a - b)) None ≡ left_after room (a + b)
    by_second true e l =
        let m = leb-true b (room - a) e in
        let k : leb (a + b) room ≡ true = le-leb (a + b) room (omega arith) in
        let same : room - a - b ≡ room - (a + b) = omega arith in ap (λ n. Some n) same ∙ sym (ap (λ t. cond t (Some (room - (a + b))) None) k)
    by_second false e l =
        let m = leb-false b (room - a) e in
        let k : leb (a + b) room ≡ false = lt-leb (a + b) room (omega arith) in sym (ap (λ t. cond t (Some (room - (a + b))) None) k)

    by_first : (t : Bool) → leb a room ≡ t → option_and_then (λ r. left_after r b) (cond t (Some (room - a)) None) ≡ left_after room (a + b)
    by_first true e = by_second (leb b (room - a)) refl (leb-true a room e)
    by_first false e =
        let m = leb-false a room e in
        let k : leb (a + b) room ≡ false = lt-leb (a + b) room (omega arith) in sym (ap (λ t. cond t (Some (room - (a + b))) None) k)

-- one step after another
pub left_on : (room a b : ℕ) (o p : Option ℕ) → o ≡ left_after room a → p ≡ option_and_then (λ r. left_after r b) o → p ≡ left_after room (a + b)
left_on room a b o p e f = f ∙ ap (option_and_then (λ r. left_after r b)) e ∙ left_sum room a b

pub left_more : (room a b : ℕ) → left_after room a ≡ None → left_after room (a + b) ≡ None
left_more room a b e = sym (left_sum room a b) ∙ ap (option_and_then (λ r. left_after r b)) e
