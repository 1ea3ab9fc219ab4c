-- What is told of a small set is true of it.
use Rattle.std.proofs.Common.{◌≡◌, ⊎_elim, ℕ, ℤ, pos, ◌+◌, ◌≤◌, ◌<◌, ◌&&◌, ◌||◌, ◌==◌, Bool, true, false, List, [], ◌∷◌, length, get_or, Option, Some, None, IfSome, cond, refl, sym, ap, ◌∙◌, arith}
use Rattle.std.specs.Prelude.{◌%◌}
use Rattle.std.specs.Int.Signed.{lt_z}
use Rattle.std.proofs.lemmas.Int.{ints}
use Rattle.std.proofs.lemmas.Bool.{eq-eqb, or_left, or_right}
use Rattle.be_model.specs.declared.ops.Op.TheVariants.{OneOf}
use Rattle.be_model.specs.Matching.{is_among, is_met}
use Rattle.be_shape.specs.Glances.{least, greatest, small}
use Rattle.be_shape.specs.Lanes.{raised, less, slot_of, seen, Slot, is_single}
use Rattle.be_shape.specs.Listed.{low_part}
use Rattle.be_shape.specs.SetNotes.{may_be, LetsSet}
use Rattle.be_shape.proofs.GapSets.{among_two, among_three, one_value, value_small}
use Rattle.be_shape.proofs.Slots.{IsSmall, raised_is}
use Rattle.be_shape.proofs.SightValues.{maybe_single}
use Rattle.be_shape.proofs.ToldLanes.{one_seen}

raised_fits : (v : ℤ) → IsSmall v → raised v < 4294967296
raised_fits v s = omega (arith, ints, raised_is v s, s.to)

around : (x y : ℕ) → x < 4294967296 → y < 4294967296 → x ≡ ((y + less x y) % 4294967296)
around x y h k = omega arith

-- the ends of a set may be in it, and what has the bits of the number between them
lets_first : (x z v : ℤ) (m : ℕ) → x ≡ v → may_be (slot_of (x, z)) m (raised v) ≡ true
lets_first x z v m e =
    let slot = slot_of (x, z) in
    or_left ((raised v == slot.0) || (raised v == (slot.0 + slot.1) % 4294967296)) (low_part (raised v) == m)
    (or_left (raised v == slot.0) (raised v == (slot.0 + slot.1) % 4294967296) (eq-eqb (raised v) (raised x) (ap raised (sym e))))

lets_last : (x z v : ℤ) (m : ℕ) → IsSmall x → IsSmall z → z ≡ v → may_be (slot_of (x, z)) m (raised v) ≡ true
lets_last x z v m a b e =
    let slot = slot_of (x, z) in
    or_left ((raised v == slot.0) || (raised v == (slot.0 + slot.1) % 4294967296)) (low_part (raised v) == m)
    (or_right (raised v == slot.0) (raised v == (slot.0 + slot.1) % 4294967296)
    (eq-eqb (raised v) ((slot.0 + slot.1) % 4294967296) (ap raised (sym e) ∙ around (raised z) (raised x) (raised_fits z b) (raised_fits x a))))

lets_middle : (x z y v : ℤ) (m : ℕ) → m ≡ low_part (raised y) → y ≡ v → may_be (slot_of (x, z)) m (raised v) ≡ true
lets_middle x z y v m i e =
    let slot = slot_of (x, z) in
    or_right ((raised v == slot.0) || (raised v == (slot.0 + slot.1) % 4294967296)) (low_part (raised v) == m)
    (eq-eqb (low_part (raised v)) m (ap (λ w. low_part (raised w)) (sym e) ∙ sym i))

told_if : (P Q : ℕ → Type 0) (o : Option ℕ) → IfSome o P → ((m : ℕ) → P m → Q m) → IfSome o Q
told_if P Q None h k = tt
told_if P Q (Some m) h k = k m h

-- the lists of two and of three
two_let : (xs ys : List ℤ) (m : ℕ) → ys ≡ xs → 2 ≤ length ys → length ys < 3 → LetsSet xs m
two_let [] ys m e a b = absurd (omega (arith, a, ap length e))
two_let (x ∷ []) ys m e a b = absurd (omega (arith, a, ap length e))
two_let (x ∷ z ∷ []) ys m e a b = λ f l v s h.
    ⊎_elim (λ k. lets_first x z v m k) (λ k. lets_last x z v m (value_small x f) (value_small z l) k) (among_two x z v h)
two_let (x ∷ y ∷ z ∷ more) ys m e a b = absurd (omega (arith, b, ap length e))

three_let : (xs ys : List ℤ) (m : ℕ) → ys ≡ xs → 3 ≤ length ys → length ys < 4 → m ≡ low_part (raised (get_or ys 1 (pos 0))) → LetsSet xs m
three_let [] ys m e a b i = absurd (omega (arith, a, ap length e))
three_let (x ∷ []) ys m e a b i = absurd (omega (arith, a, ap length e))
three_let (x ∷ y ∷ []) ys m e a b i = absurd (omega (arith, a, ap length e))
three_let (x ∷ y ∷ z ∷ []) ys m e a b i = λ f l v s h.
    ⊎_elim (λ k. lets_first x z v m k)
    (λ k. ⊎_elim (λ n. lets_middle x z y v m (i ∙ ap (λ zs. low_part (raised (get_or zs 1 (pos 0)))) e) n) (λ n. lets_last x z v m (value_small x f) (value_small z l) n) k)
    (among_three x y z v h)
three_let (x ∷ y ∷ z ∷ w ∷ more) ys m e a b i = absurd (omega (arith, b, ap length e))

pub two_told : (xs ys : List ℤ) (y : ℤ) (o : Option ℕ) → ys ≡ xs → 2 ≤ length ys → length ys < 3 → IfSome o (λ m. m ≡ low_part (raised y)) → IfSome o (LetsSet xs)
two_told xs ys y o e a b i = told_if (λ m. m ≡ low_part (raised y)) (LetsSet xs) o i (λ m k. two_let xs ys m e a b)

pub three_told : (xs ys : List ℤ) (o : Option ℕ) → ys ≡ xs → 3 ≤ length ys → length ys < 4 → IfSome o (λ m. m ≡ low_part (raised (get_or ys 1 (pos 0)))) → IfSome o (LetsSet xs)
three_told xs ys o e a b i = told_if (λ m. m ≡ low_part (raised (get_or ys 1 (pos 0)))) (LetsSet xs) o i (λ m k. three_let xs ys m e a b k)

-- a number that is small is told as it is
pub small_is : (v w : ℤ) → small v ≡ Some w → w ≡ v
small_is v w h = by_test (lt_z least v && lt_z v greatest) h
  where
    by_test : (b : Bool) → cond b (Some v) None ≡ Some w → w ≡ v
    by_test true k = cc
    by_test false k = absurd cc

pub small_single : (v w : ℤ) → small v ≡ Some w → is_single (v ∷ []) ≡ true
small_single v w h = by_test (lt_z least v && lt_z v greatest) h
  where
    by_test : (b : Bool) → cond b (Some v) None ≡ Some w → b ≡ true
    by_test true k = refl
    by_test false k = absurd cc

-- an attribute's only value, where it is one of the set, may be in it
pub seen_let : (xs : List ℤ) (slot : Slot) (m : ℕ) (o : Option (List ℤ)) → maybe_single o ≡ true → is_met o (OneOf xs) ≡ true
    → ((v : ℤ) → is_single (v ∷ []) ≡ true → is_among xs v ≡ true → may_be slot m (raised v) ≡ true) → may_be slot m (seen o) ≡ true
seen_let xs slot m None s h k = absurd cc
seen_let xs slot m (Some []) s h k = absurd cc
seen_let xs slot m (Some (v ∷ [])) s h k = ap (may_be slot m) (one_seen v s) ∙ k v s (one_value xs v h)
seen_let xs slot m (Some (v ∷ w ∷ vs)) s h k = absurd cc
