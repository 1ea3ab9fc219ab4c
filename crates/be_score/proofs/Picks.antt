-- The relation and the computed choice are one.
use Rattle.std.proofs.Common.{◌≡◌, ℕ, zero, suc, ◌+◌, ◌<◌, ◌≤◌, ◌≤ℤ◌, ℤ, Bool, true, false, true≢false, not, ◌&&◌, List, length, refl, sym, ap, ◌∙◌, subst, arith}
use Rattle.std.specs.Prelude.{Option, Some, None, IfSome, IsNone, option_map, ◌↔◌, if◌then◌else◌}
use Rattle.std.specs.List.{list_any, list_all}
use Rattle.std.proofs.lemmas.Int.{ints}
use Rattle.std.proofs.lemmas.Bool.{and_parts, and_from, not-true, not_from_false}
use Rattle.be_base.specs.declared.names.AttrNo.{AttrNo}
use Rattle.be_model.specs.declared.changes.Row.{Row}
use Rattle.be_model.specs.Schemas.{Attributes, numbered}
use Rattle.be_model.specs.Lies.{row_lies}
use Rattle.be_model.specs.Rows.{has}
use Rattle.be_score.specs.Scores.{score, is_used, IsCandidate, IsPick}
use Rattle.be_score.specs.Tallies.{better_of}
use Rattle.be_score.proofs.BestSoFar.{IsBestBelow}
use Rattle.be_score.specs.Picks.{is_candidate, best_of_first, pick}
use Rattle.be_score.proofs.Choosing.{no_next, next, chosen_pick, chosen_none}

candidate : (rows : List Row) (used : List AttrNo) (a : AttrNo) → is_candidate rows used a ≡ true → IsCandidate rows used a
candidate rows used a h =
    let k = and_parts (list_any (has a) rows) (not (is_used used a)) h in record { some = k.0; unused = not-true (is_used used a) k.1 }

is_one : (rows : List Row) (used : List AttrNo) (a : AttrNo) → IsCandidate rows used a → is_candidate rows used a ≡ true
is_one rows used a k =
    and_from (list_any (has a) rows) (not (is_used used a)) k.some (not_from_false (is_used used a) k.unused)

pub best_is_best : (s : Attributes) (rows : List Row) (used : List AttrNo) (alpha n : ℕ) → IsBestBelow n s rows used alpha (best_of_first s rows used alpha n)
best_is_best s rows used alpha zero = λ b h is. absurd (omega arith)
best_is_best s rows used alpha (suc n) =
    let e : n + 1 ≡ suc n = omega arith in
    subst (λ m. IsBestBelow m s rows used alpha (best_of_first s rows used alpha (suc n))) e (by_test (is_candidate rows used (numbered n)) refl (best_is_best s rows used alpha n))
  where
    by_test : (b : Bool) → is_candidate rows used (numbered n) ≡ b → IsBestBelow n s rows used alpha (best_of_first s rows used alpha n)
        → IsBestBelow (n + 1) s rows used alpha (if b then Some (better_of (best_of_first s rows used alpha n) (numbered n, score s rows alpha (numbered n))) else best_of_first s rows used alpha n)
    by_test true t before = next s rows used alpha n (best_of_first s rows used alpha n) (candidate rows used (numbered n) t) before
    by_test false t before = no_next s rows used alpha n (best_of_first s rows used alpha n) (λ is. true≢false (sym (is_one rows used (numbered n) is) ∙ t)) before

between : (x y : ℤ) → x ≤ℤ y → y ≤ℤ x → x ≡ y
between x y a b = omega (arith, ints)

-- there is one choice
pub one_pick : (s : Attributes) (rows : List Row) (used : List AttrNo) (alpha : ℕ) (a b : AttrNo) → IsPick s rows used alpha a → IsPick s rows used alpha b → a ≡ b
one_pick s rows used alpha a b p q =
    let same : score s rows alpha a ≡ score s rows alpha b = between (score s rows alpha a) (score s rows alpha b) (q.highest a p.candidate) (p.highest b q.candidate) in
    let low : a.0 ≤ b.0 = p.lowest b q.candidate (sym same) in
    let high : b.0 ≤ a.0 = q.lowest a p.candidate same in
    let e : a.0 ≡ b.0 = omega arith in ap numbered e

pub pick_is : (s : Attributes) (rows : List Row) (used : List AttrNo) (alpha : ℕ) (o : Option AttrNo) → list_all (row_lies s) rows ≡ true
    → IfSome o (IsPick s rows used alpha) → (IsNone o ↔ ((a : AttrNo) → ¬ IsCandidate rows used a)) → o ≡ pick s rows used alpha
pick_is s rows used alpha o lies is none =
    same o (best_of_first s rows used alpha (length s)) is none (best_is_best s rows used alpha (length s))
  where
    same : (o : Option AttrNo) (best : Option (AttrNo × ℤ)) → IfSome o (IsPick s rows used alpha) → (IsNone o ↔ ((a : AttrNo) → ¬ IsCandidate rows used a)) → IsBestBelow (length s) s rows used alpha best
        → o ≡ option_map (λ (b : AttrNo × ℤ). b.0) best
    same None None is none b = refl
    same None (Some best) is none b = absurd (none.0 refl best.0 b.1.candidate)
    same (Some a) None is none b = absurd ((chosen_none s rows used alpha (length s) None lies (omega arith) b).0 refl a is.candidate)
    same (Some a) (Some best) is none b =
        ap (λ x. Some x) (one_pick s rows used alpha a best.0 is (chosen_pick s rows used alpha (length s) (Some best) lies (omega arith) b))

-- what is chosen is a candidate
pub picked : (s : Attributes) (rows : List Row) (used : List AttrNo) (alpha : ℕ) (a : AttrNo) → list_all (row_lies s) rows ≡ true → pick s rows used alpha ≡ Some a → IsCandidate rows used a
picked s rows used alpha a lies e =
    let p = subst (λ o. IfSome o (IsPick s rows used alpha)) e (chosen_pick s rows used alpha (length s) (best_of_first s rows used alpha (length s)) lies (omega arith) (best_is_best s rows used alpha (length s))) in p.candidate
