-- How far the rows of a node can still be split: each step down leaves fewer levels.
use Rattle.std.proofs.Common.{◌≡◌, ℕ, ◌+◌, ◌<◌, ◌≤◌, zero, suc, Bool, true, false, cond, eqb, ◌||◌, List, ◌∷◌, length, Option, Some, None, refl, sym, ap, ◌∙◌, arith}
use Rattle.std.proofs.lemmas.Bool.{not-true, eqb-true, eqb-false, false≢true}
use Rattle.be_base.specs.declared.names.AttrNo.{AttrNo}
use Rattle.be_model.specs.declared.changes.Row.{Row}
use Rattle.be_model.specs.declared.paths.Hop.{Hop}
use Rattle.be_model.specs.declared.paths.Hop.TheVariants.{Part, Low, High}
use Rattle.be_model.specs.Bounds.{bits_at}
use Rattle.be_model.specs.Domains.{Range}
use Rattle.be_model.specs.Lies.{row_lies}
use Rattle.be_model.specs.Rows.{has}
use Rattle.be_model.specs.Schemas.{Attributes, range_of, numbered}
use Rattle.be_model.proofs.InSchema.{range_below}
use Rattle.be_model.proofs.Spans.{none_outside}
use Rattle.be_shape.specs.Shape.{Known, is_used}
use Rattle.be_shape.specs.Children.{known_below, is_open, may_pass}
use Rattle.be_shape.proofs.BitsLeft.{bits_left, whole_bits, low_left, high_left}

-- an unused attribute has a part and its halvings to give
abbrev pub levels_below : Attributes → List AttrNo → ℕ → ℕ
levels_below s used zero = 0
levels_below s used (suc i) =
    cond (is_used used (numbered i)) 0 (1 + bits_at s (numbered i)) + levels_below s used i

abbrev pub levels_left : Attributes → Known → ℕ
levels_left s k = bits_left k.range + levels_below s k.used (length s)

no_more : (s : Attributes) (a : AttrNo) (used : List AttrNo) (n : ℕ) → levels_below s (a ∷ used) n ≤ levels_below s used n
no_more s a used zero = omega arith
no_more s a used (suc i) = by_tests (eqb a.0 i) (is_used used (numbered i)) (1 + bits_at s (numbered i)) (no_more s a used i)
  where
    by_tests : (x y : Bool) (m : ℕ) → levels_below s (a ∷ used) i ≤ levels_below s used i → cond (x || y) 0 m + levels_below s (a ∷ used) i ≤ cond y 0 m + levels_below s used i
    by_tests true true m h = omega arith
    by_tests true false m h = omega arith
    by_tests false y m h = omega arith

used_up : (s : Attributes) (a : AttrNo) (used : List AttrNo) (n : ℕ) → is_used used a ≡ false → a.0 < n → levels_below s (a ∷ used) n + (1 + bits_at s a) ≤ levels_below s used n
used_up s a used zero unused l = absurd (omega arith)
used_up s a used (suc i) unused l =
    by_test (eqb a.0 i) refl (no_more s a used i) (λ m. used_up s a used i unused m)
  where
    by_test : (b : Bool) → eqb a.0 i ≡ b → levels_below s (a ∷ used) i ≤ levels_below s used i → (a.0 < i → levels_below s (a ∷ used) i + (1 + bits_at s a) ≤ levels_below s used i)
        → cond (b || is_used used (numbered i)) 0 (1 + bits_at s (numbered i)) + levels_below s (a ∷ used) i + (1 + bits_at s a) ≤ cond (is_used used (numbered i)) 0 (1 + bits_at s (numbered i)) + levels_below s used i
    by_test true e h f =
        let same : a.0 ≡ i = eqb-true a.0 i e in
        let free : is_used used (numbered i) ≡ false = ap (λ j. is_used used (numbered j)) (sym same) ∙ unused in
        let bits : bits_at s (numbered i) ≡ bits_at s a = ap (λ j. bits_at s (numbered j)) (sym same) in
        let own : cond (is_used used (numbered i)) 0 (1 + bits_at s (numbered i)) ≡ 1 + bits_at s (numbered i) = ap (λ b. cond b 0 (1 + bits_at s (numbered i))) free in
        omega (arith, h, own, bits)
    by_test false e h f =
        let ne = eqb-false a.0 i e in
        let m : a.0 < i = omega arith in
        omega (arith, f m)

-- the schema has the attribute of a row that lies in it
in_schema : (s : Attributes) (a : AttrNo) (row : Row) → row_lies s row ≡ true → has a row ≡ true → a.0 < length s
in_schema s a row lies h = by_range (range_of s a) refl
  where
    by_range : (o : Option Range) → range_of s a ≡ o → a.0 < length s
    by_range None e = absurd (false≢true (sym (none_outside s a row.conj lies e) ∙ h))
    by_range (Some r) e = range_below s a r e

-- below a step that a row may pass, fewer levels are left
pub falls : (s : Attributes) (hop : Hop) (k : Known) (row : Row) → is_open hop k ≡ true → row_lies s row ≡ true → may_pass s hop k.range row ≡ true → levels_left s (known_below s hop k) + 1 ≤ levels_left s k
falls s (Part a) k row o lies h =
    omega (arith, whole_bits s a, used_up s a k.used (length s) (not-true (is_used k.used a) o) (in_schema s a row lies h))
falls s Low k row o lies h = omega (arith, low_left k.range o)
falls s High k row o lies h = omega (arith, high_left k.range o)
