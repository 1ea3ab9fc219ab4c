-- What a place tells is true of its row.
use Rattle.std.proofs.Common.{◌≡◌, ℕ, nat_lt, cond, Bool, true, false, Option, Some, None, IsSome, IfSome, refl, sym, ap, subst}
use Rattle.std.specs.Prelude.{option_map}
use Rattle.be_model.specs.declared.changes.Row.{Row}
use Rattle.be_model.specs.Rows.{id_of}
use Rattle.be_shape.specs.declared.held.Held.{Held}
use Rattle.be_shape.specs.Held.{short_id, row_of, short_of, set_note_of, told_of, few_in, IsTold, IsToldIn}

some_same : {X : Type 0} (x y : X) → Some x ≡ Some y → x ≡ y
some_same x y h = cc

-- of the row that stands there
pub of_row : (h : Held) (row : Row) → IsToldIn h → row_of h ≡ Some row → (short_of h ≡ short_id (id_of row)) × IsTold row (told_of h) (set_note_of h) (few_in h)
of_row h row t e = subst (λ o. IfSome o (λ (r : Row). (short_of h ≡ short_id (id_of r)) × IsTold r (told_of h) (set_note_of h) (few_in h))) e t

-- of some row
pub of_some : {A : Type 0} (h : Held) (f : Row → A) (a : A) → IsSome (row_of h) → ((row : Row) → row_of h ≡ Some row → f row ≡ a) → option_map f (row_of h) ≡ Some a
of_some h f a s k = by_row (row_of h) refl s
  where
    by_row : (o : Option Row) → row_of h ≡ o → IsSome o → option_map f o ≡ Some a
    by_row None e s = absurd cc
    by_row (Some row) e s = ap Some (k row e)

pub if_some : (h : Held) (f : Row → Bool) → IsSome (row_of h) → option_map f (row_of h) ≡ Some true → (P : Type 0) → ((row : Row) → row_of h ≡ Some row → f row ≡ true → P) → P
if_some h f s m P k = by_row (row_of h) refl s m
  where
    by_row : (o : Option Row) → row_of h ≡ o → IsSome o → option_map f o ≡ Some true → P
    by_row None e s m = absurd cc
    by_row (Some row) e s m = k row e (some_same (f row) true m)

-- a number below the greatest of 24 bits is the id
pub short_says : (id short : ℕ) → short ≡ short_id id → (short ≡ 16777215 → ⊥) → id ≡ short
short_says id short e n = by_test (nat_lt id 16777215) e
  where
    by_test : (b : Bool) → short ≡ cond b id 16777215 → id ≡ short
    by_test true k = sym k
    by_test false k = absurd (n k)
