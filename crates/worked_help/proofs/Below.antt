-- Ids that are all below a number.
use Rattle.std.proofs.Common.{◌≡◌, ℕ, ◌+◌, ◌<◌, ◌≤◌, Bool, true, false, eqb, ltb, ◌||◌, [], ◌∷◌, refl, ap, ◌∙◌, arith}
use Rattle.std.specs.List.{list_all}
use Rattle.std.proofs.lemmas.Bool.{and_parts, ltb-true, lt-ltb}
use Rattle.std.proofs.lemmas.Bool.Decides.{nat_tests}
use Rattle.be_model.specs.declared.changes.Row.{Row}
use Rattle.be_model.specs.Rows.{id_of}
use Rattle.be_model.specs.ByIds.{ByIds, AllBelow, has_id, put_by_id}
use Rattle.be_model.proofs.Attributes.{and_both}
use Rattle.be_model.proofs.RowsByIds.{put_below}

abbrev pub are_below : ℕ → ByIds → Bool
are_below n m = list_all (λ (r : ℕ × Row). ltb r.0 n) m

all_below : (n : ℕ) (m : ByIds) → are_below n m ≡ true → AllBelow n m
all_below n [] h = tt
all_below n (r ∷ rs) h =
    let both = and_parts (ltb r.0 n) (are_below n rs) h in
    (ltb-true r.0 n both.0, all_below n rs both.1)

from_below : (n : ℕ) (m : ByIds) → AllBelow n m → are_below n m ≡ true
from_below n [] a = refl
from_below n (r ∷ rs) a = and_both (ltb r.0 n) (are_below n rs) (lt-ltb r.0 n a.0) (from_below n rs a.1)

other : (n m : ℕ) → n < m → eqb n m ≡ false
other n m h = grind (arith, nat_tests)

none_below : (n : ℕ) (m : ByIds) → AllBelow n m → has_id n m ≡ false
none_below n [] a = refl
none_below n (r ∷ rs) a = ap (λ b. b || has_id n rs) (other r.0 n a.0) ∙ none_below n rs a.1

above : (n k : ℕ) (m : ByIds) → n ≤ k → AllBelow n m → AllBelow k m
above n k [] h a = tt
above n k (r ∷ rs) h a = (omega (arith, a.0), above n k rs h a.1)

pub next_is_new : (n : ℕ) (m : ByIds) → are_below n m ≡ true → has_id n m ≡ false
next_is_new n m h = none_below n m (all_below n m h)

pub one_more : (n : ℕ) (row : Row) (m : ByIds) → id_of row ≡ n → are_below n m ≡ true → are_below (n + 1) (put_by_id row m) ≡ true
one_more n row m is h =
    from_below (n + 1) (put_by_id row m) (put_below (n + 1) row m (omega arith) (above n (n + 1) m (omega arith) (all_below n m h)))
