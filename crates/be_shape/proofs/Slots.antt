-- What is in a slot.
use Rattle.std.proofs.Common.{◌≡◌, ℕ, ℤ, pos, negsuc, ◌+ℤ◌, ◌≤ℤ◌, ◌+◌, ◌-◌, ◌<◌, ◌≤◌, Bool, true, false, leb, refl, ap, ap₂, ◌∙◌, arith}
use Rattle.std.specs.Prelude.{unsigned_abs, ◌%◌}
use Rattle.std.proofs.lemmas.Int.{ints}
use Rattle.std.proofs.lemmas.Bool.{le-leb, leb-true}
use Rattle.be_shape.specs.Glances.{least}
use Rattle.be_shape.specs.Lanes.{raised, lowered, less, lets, slot_of, ends_of, free}

-- a number of 32 bits
pub record IsSmall (v : ℤ) : Type 0 where
  pub from : least ≤ℤ v
  pub to : v ≤ℤ pos 2147483647

pub raised_is : (v : ℤ) → IsSmall v → pos (raised v) ≡ (v +ℤ pos 2147483648)
raised_is v s = by_sign (v +ℤ pos 2147483648) (omega (arith, ints, s.from))
  where
    by_sign : (z : ℤ) → pos 0 ≤ℤ z → pos (unsigned_abs z) ≡ z
    by_sign (pos n) h = refl
    by_sign (negsuc n) h = absurd (omega (arith, ints))

pub less_up : (x y : ℕ) → y ≤ x → x < 4294967296 → less x y ≡ x - y
less_up x y h k = omega arith

pub less_round : (x y : ℕ) → x < y → y < 4294967296 → less x y ≡ x + (4294967296 - y)
less_round x y h k = omega arith

-- between ends that aren't turned
pub lets_if_in : (ends : ℤ × ℤ) (v : ℤ) → IsSmall ends.0 → IsSmall ends.1 → IsSmall v → ends.0 ≤ℤ v → v ≤ℤ ends.1 → lets (raised v) (slot_of ends) ≡ true
lets_if_in ends v a b s h k =
    let x = raised_is v s in
    let l = raised_is ends.0 a in
    let t = raised_is ends.1 b in
    let e : less (raised v) (raised ends.0) ≡ raised v - raised ends.0 = less_up (raised v) (raised ends.0) (omega (arith, ints)) (omega (arith, ints, s.to)) in
    let f : less (raised ends.1) (raised ends.0) ≡ raised ends.1 - raised ends.0 = less_up (raised ends.1) (raised ends.0) (omega (arith, ints)) (omega (arith, ints, b.to)) in
    le-leb (less (raised v) (raised ends.0)) (less (raised ends.1) (raised ends.0)) (omega (arith, ints, e, f))

-- a number that is counted from the least one is in the slot of rising ends only between them
pub in_if_lets : (ends : ℤ × ℤ) (n : ℕ) → IsSmall ends.0 → IsSmall ends.1 → n < 4294967296 → ends.0 ≤ℤ ends.1 → lets n (slot_of ends) ≡ true → (raised ends.0 ≤ n) × (n ≤ raised ends.1)
in_if_lets ends n a b s r h = by_side (leb (raised ends.0) n) refl
  where
    l : pos (raised ends.0) ≡ (ends.0 +ℤ pos 2147483648)
    l = raised_is ends.0 a

    t : pos (raised ends.1) ≡ (ends.1 +ℤ pos 2147483648)
    t = raised_is ends.1 b

    f : less (raised ends.1) (raised ends.0) ≡ raised ends.1 - raised ends.0
    f = less_up (raised ends.1) (raised ends.0) (omega (arith, ints, l, t)) (omega (arith, ints, t, b.to))

    k : less n (raised ends.0) ≤ less (raised ends.1) (raised ends.0)
    k = leb-true (less n (raised ends.0)) (less (raised ends.1) (raised ends.0)) h

    by_side : (c : Bool) → leb (raised ends.0) n ≡ c → (raised ends.0 ≤ n) × (n ≤ raised ends.1)
    by_side true e =
        let m = leb-true (raised ends.0) n e in
        let g : less n (raised ends.0) ≡ n - raised ends.0 = less_up n (raised ends.0) m s in (m, omega (arith, ints, l, t, f, k, g, m))
    by_side false e =
        let m : n < raised ends.0 = by_test (leb (raised ends.0) n) refl e in
        let g : less n (raised ends.0) ≡ n + (4294967296 - raised ends.0) = less_round n (raised ends.0) m (omega (arith, ints, l, a.to)) in absurd (omega (arith, ints, l, t, f, k, g, m, b.to))
      where
        by_test : (d : Bool) → leb (raised ends.0) n ≡ d → d ≡ false → n < raised ends.0
        by_test d u w = grind (arith, le-leb)

-- all is in the slot of all
pub lets_free : (x : ℕ) → x < 4294967296 → lets x free ≡ true
lets_free x h = le-leb (less x 0) 4294967295 (omega (arith, h))

-- numbers of 32 bits
pub record IsSlot (slot : ℕ × ℕ) : Type 0 where
  pub low : slot.0 < 4294967296
  pub more : slot.1 < 4294967296

pub low_small : (n : ℕ) → n < 4294967296 → IsSmall (lowered n)
low_small n h = record { from = omega (arith, ints, h); to = omega (arith, ints, h) }

pub ends_small : (slot : ℕ × ℕ) → IsSlot slot → IsSmall (ends_of slot).0 × IsSmall (ends_of slot).1
ends_small slot s = (low_small slot.0 s.low, low_small ((slot.0 + slot.1) % 4294967296) (omega (arith, s.low, s.more)))

up_again : (n : ℕ) (r : ℕ) → pos r ≡ (lowered n +ℤ pos 2147483648) → r ≡ n
up_again n r h = omega (arith, ints, h)

-- the slot of the ends of a slot
pub slot_again : (slot : ℕ × ℕ) → IsSlot slot → slot_of (ends_of slot) ≡ slot
slot_again slot s = by_parts (up_again slot.0 (raised (ends_of slot).0) l) (up_again ((slot.0 + slot.1) % 4294967296) (raised (ends_of slot).1) t)
  where
    l : pos (raised (ends_of slot).0) ≡ (lowered slot.0 +ℤ pos 2147483648)
    l = raised_is (ends_of slot).0 (ends_small slot s).0

    t : pos (raised (ends_of slot).1) ≡ (lowered ((slot.0 + slot.1) % 4294967296) +ℤ pos 2147483648)
    t = raised_is (ends_of slot).1 (ends_small slot s).1

    back : (x y : ℕ) → x < 4294967296 → y < 4294967296 → less ((x + y) % 4294967296) x ≡ y
    back x y h k = omega arith

    by_parts : raised (ends_of slot).0 ≡ slot.0 → raised (ends_of slot).1 ≡ ((slot.0 + slot.1) % 4294967296) → slot_of (ends_of slot) ≡ slot
    by_parts u w = ap₂ (λ (x y : ℕ). (x, less y x)) u w ∙ ap (λ (n : ℕ). (slot.0, n)) (back slot.0 slot.1 s.low s.more)
