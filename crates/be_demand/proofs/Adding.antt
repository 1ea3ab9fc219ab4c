-- What one HIT adds to the words of a seat.
use Rattle.std.proofs.Common.{◌≡◌, ◌≢◌, ℕ, ℤ, zero, suc, ◌+◌, ◌<◌, ◌≤◌, ◌==◌, Bool, true, false, cond, ltb, List, [], ◌∷◌, length, take, is_some, Some, refl, sym, ap, ◌∙◌, arith, get_or-set_same, get_or-set_other, eq-eqb}
use Rattle.std.specs.Prelude.{sum_by}
use Rattle.std.proofs.lemmas.Bool.{and_parts, eqb-true}
use Rattle.std.proofs.lemmas.Bool.Decides.{nat_tests}
use Rattle.std.proofs.lemmas.List.{take_all}
use Rattle.std.proofs.lemmas.List.Sums.{sum_by-cons, sum_by-take-le}
use Rattle.be_base.specs.declared.names.AttrNo.{AttrNo}
use Rattle.be_heat.specs.Seats.{at_word, one_more}
use Rattle.be_model.specs.Forms.{attrs_rise}
use Rattle.be_model.specs.Matching.{Assignments, attrs_of, values_of, is_assigned}
use Rattle.be_model.specs.Schemas.{numbered}
use Rattle.be_demand.specs.Counts.{is_asked}

-- 1 where the test holds, and else 0
abbrev pub one_if : Bool → ℕ
one_if b = cond b 1 0

-- the item's attribute is the one that this word counts
abbrev pub is_at : ℕ → AttrNo × List ℤ → Bool
is_at word item = (1 + item.0.0) == word

-- how many of the items are at a word
abbrev pub marks : ℕ → Assignments → ℕ
marks word e = sum_by (λ (item : AttrNo × List ℤ). one_if (is_at word item)) e

pub marks_first : (e : Assignments) → marks 0 e ≡ 0
marks_first [] = refl
marks_first (item ∷ items) =
    let none : is_at 0 item ≡ false = grind (arith, nat_tests) in
    sum_by-cons (λ (i : AttrNo × List ℤ). one_if (is_at 0 i)) item items ∙ ap (λ b. one_if b + marks 0 items) none ∙ (omega (arith, marks_first items))

-- none of the items that follow a greater attribute is at the word
none_above : (x : AttrNo) (a : ℕ) (e : Assignments) → a ≤ x.0 → attrs_rise (x ∷ attrs_of e) ≡ true → marks (suc a) e ≡ 0
none_above x a [] le h = refl
none_above x a (item ∷ items) le h =
    let parts = and_parts (ltb x.0 item.0.0) (attrs_rise (item.0 ∷ attrs_of items)) h in
    let none : is_at (suc a) item ≡ false = above x.0 item.0.0 a le parts.0 in
    let less : a ≤ item.0.0 = below x.0 item.0.0 a le parts.0 in
    sum_by-cons (λ (i : AttrNo × List ℤ). one_if (is_at (suc a) i)) item items ∙ ap (λ b. one_if b + marks (suc a) items) none ∙ (omega (arith, none_above item.0 a items less parts.1))
  where
    above : (x y a : ℕ) → a ≤ x → ltb x y ≡ true → ((1 + y) == suc a) ≡ false
    above x y a le h = grind (arith, nat_tests)

    below : (x y a : ℕ) → a ≤ x → ltb x y ≡ true → a ≤ y
    below x y a le h = grind (arith, nat_tests)

same_test : (x a : ℕ) → ((1 + x) == suc a) ≡ (x == a)
same_test x a = by_test (x == a) refl
  where
    by_test : (b : Bool) → (x == a) ≡ b → ((1 + x) == suc a) ≡ b
    by_test true e = grind (arith, nat_tests)
    by_test false e = grind (arith, nat_tests)

-- an attribute stands once among rising ones
pub marks_later : (a : ℕ) (e : Assignments) → attrs_rise (attrs_of e) ≡ true → marks (suc a) e ≡ one_if (is_assigned e (numbered a))
marks_later a [] h = refl
marks_later a (item ∷ items) h =
    sum_by-cons (λ (i : AttrNo × List ℤ). one_if (is_at (suc a) i)) item items ∙ ap (λ b. one_if b + marks (suc a) items) (same_test item.0.0 a)
    ∙ by_test (item.0.0 == a) refl (marks_later a items (tail (attrs_of items) h))
  where
    tail : (xs : List AttrNo) → attrs_rise (item.0 ∷ xs) ≡ true → attrs_rise xs ≡ true
    tail [] h = refl
    tail (y ∷ ys) h = (and_parts (ltb item.0.0 y.0) (attrs_rise (y ∷ ys)) h).1

    by_test : (b : Bool) → (item.0.0 == a) ≡ b → marks (suc a) items ≡ one_if (is_assigned items (numbered a))
        → one_if b + marks (suc a) items ≡ one_if (is_some (cond b (Some item.1) (values_of items (numbered a))))
    by_test true e later =
        let same : item.0.0 ≡ a = eqb-true item.0.0 a e in
        omega (arith, none_above item.0 a items (omega arith) h)
    by_test false e later = omega arith

-- each item is at one word, and each word has at most one of them
pub marks_asked : (e : Assignments) → attrs_rise (attrs_of e) ≡ true → (word : ℕ) → marks word e ≡ one_if (is_asked word e)
marks_asked e h zero = marks_first e
marks_asked e h (suc a) = marks_later a e h

one_most : (b : Bool) → one_if b ≤ 1
one_most true = omega arith
one_most false = omega arith

pub few_marks : (items e : Assignments) → items ≡ e → attrs_rise (attrs_of e) ≡ true → (i word : ℕ) → marks word (take i items) ≤ 1
few_marks items e is h i word =
    omega (arith, sum_by-take-le (λ (item : AttrNo × List ℤ). one_if (is_at word item)) items i, ap (marks word) is, marks_asked e h word, one_most (is_asked word e))

-- where all items were gone through
pub all_marked : (items e : Assignments) → items ≡ e → attrs_rise (attrs_of e) ≡ true → (i word : ℕ) → length items ≤ i → marks word (take i items) ≡ one_if (is_asked word e)
all_marked items e is h i word whole = ap (marks word) (take_all i items whole ∙ is) ∙ marks_asked e h word
