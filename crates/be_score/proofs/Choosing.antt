-- The choice, attribute by attribute.
use Rattle.std.proofs.Common.{◌≡◌, ⊎_elim, ◌⊎◌, inl, inr, ℕ, ℤ, pos, ◌+◌, ◌-◌, ◌*◌, ◌<◌, ◌≤◌, ◌≤ℤ◌, ◌<ℤ◌, Bool, true, false, true≢false, ◌||◌, List, [], ◌∷◌, length, refl, sym, ap, ◌∙◌, subst, arith}
use lib.ListN.{get_or}
use Rattle.be_base.specs.declared.limits.TheConstants.{ATTRIBUTES}
use Rattle.std.specs.Prelude.{Option, Some, None, IfSome, IsNone, option_map, ◌↔◌, ◌^◌, ◌-ℤ◌, ◌*ℤ◌, int_le, if◌then◌else◌}
use Rattle.std.specs.List.{list_any, list_all}
use Rattle.std.proofs.lemmas.Int.{ints}
use Rattle.std.proofs.lemmas.Bool.{and_parts}
use mathlib.Core.Logic.{dite}
use native.Mathlib.Decide.{ℕ_discrete}
use Rattle.be_base.specs.declared.names.AttrNo.{AttrNo}
use Rattle.be_model.specs.declared.changes.Row.{Row}
use Rattle.be_model.specs.Schemas.{Attributes, numbered}
use Rattle.be_model.specs.Lies.{row_lies}
use Rattle.be_model.specs.Rows.{has}
use Rattle.be_score.specs.Scores.{score, without_attr, is_used, IsCandidate, IsPick}
use Rattle.be_score.specs.Tallies.{IsTally, better_of}
use Rattle.be_score.proofs.BestSoFar.{IsBestBelow}
use Rattle.be_score.proofs.Gains.{with_without, gain-bound, some_with, with_some}
use Rattle.be_score.proofs.Widths.{attr-below}

at_most : (x y : ℤ) → int_le x y ≡ true → x ≤ℤ y
at_most x y e = grind (arith, ints)

above : (x y : ℤ) → int_le x y ≡ false → y <ℤ x
above x y e = grind (arith, ints)

is_same : (x y : ℤ) → x ≡ y → x ≤ℤ y
is_same x y e = omega (arith, ints)

before : (x y z : ℤ) → x ≤ℤ y → y <ℤ z → x ≤ℤ z
before x y z a b = omega (arith, ints)

apart : (x y z : ℤ) → x ≤ℤ y → y <ℤ z → x ≡ z → ⊥
apart x y z a b e = omega (arith, ints)

-- below the next number
earlier : (n : ℕ) (b : AttrNo) → b.0 < n + 1 → (b.0 < n) ⊎ (b ≡ numbered n)
earlier n b h = dite (ℕ_discrete b.0 n) (λ e. inr (ap numbered e)) (λ ne. inl (omega arith))

module _ (s : Attributes) (rows : List Row) (used : List AttrNo) (alpha : ℕ) where
  -- the next attribute isn't a candidate
  pub no_next : (n : ℕ) (best : Option (AttrNo × ℤ)) → (IsCandidate rows used (numbered n) → ⊥) → IsBestBelow n s rows used alpha best → IsBestBelow (n + 1) s rows used alpha best
  no_next n None none all = λ b h is. ⊎_elim (λ less. all b less is) (λ e. none (subst (IsCandidate rows used) e is)) (earlier n b h)
  no_next n (Some best) none (score_is, pick) = (
    score_is,
    record {
      below = let h = pick.below in omega arith;
      candidate = pick.candidate;
      highest = λ b h is. ⊎_elim (λ less. pick.highest b less is) (λ e. absurd (none (subst (IsCandidate rows used) e is))) (earlier n b h);
      lowest = λ b h is. ⊎_elim (λ less. pick.lowest b less is) (λ e. absurd (none (subst (IsCandidate rows used) e is))) (earlier n b h);
    },
  )

  -- the next attribute is one
  pub next : (n : ℕ) (best : Option (AttrNo × ℤ)) → IsCandidate rows used (numbered n) → IsBestBelow n s rows used alpha best
      → IsBestBelow (n + 1) s rows used alpha (Some (better_of best (numbered n, score s rows alpha (numbered n))))
  next n None candidate all = (
    refl,
    record {
      below = omega arith;
      candidate = candidate;
      highest = λ b h is. ⊎_elim (λ less. absurd (all b less is)) (λ e. is_same _ _ (ap (score s rows alpha) e)) (earlier n b h);
      lowest = λ b h is same. ⊎_elim (λ less. absurd (all b less is)) (λ e. let k = ap (λ (x : AttrNo). x.0) e in omega arith) (earlier n b h);
    },
  )
  next n (Some best) candidate (score_is, pick) = chosen (int_le mine best.1) refl
    where
      mine : ℤ
      mine = score s rows alpha (numbered n)

      chosen : (keep : Bool) → int_le mine best.1 ≡ keep → IsBestBelow (n + 1) s rows used alpha (Some (if keep then best else (numbered n, mine)))
      chosen true e = (
        score_is,
        record {
          below = let h = pick.below in omega arith;
          candidate = pick.candidate;
          highest = λ b h is. ⊎_elim (λ less. pick.highest b less is) (λ k. subst (λ c. score s rows alpha c ≤ℤ score s rows alpha best.0) (sym k) (subst (λ z. mine ≤ℤ z) score_is (at_most mine best.1 e))) (earlier n b h);
          lowest = λ b h is same. ⊎_elim (λ less. pick.lowest b less is same) (λ k. let m = ap (λ (x : AttrNo). x.0) k in let h = pick.below in omega arith) (earlier n b h);
        },
      )
      chosen false e =
          let less = subst (λ z. z <ℤ mine) score_is (above mine best.1 e) in (
            refl,
            record {
              below = omega arith;
              candidate = candidate;
              highest = λ b h is. ⊎_elim (λ k. before _ _ mine (pick.highest b k is) less) (λ k. is_same _ _ (ap (score s rows alpha) k)) (earlier n b h);
              lowest = λ b h is same. ⊎_elim (λ k. absurd (apart _ _ mine (pick.highest b k is) less same)) (λ k. let m = ap (λ (x : AttrNo). x.0) k in omega arith) (earlier n b h);
            },
          )

-- a candidate is an attribute of the schema
pub candidate-below : (s : Attributes) (rows : List Row) (a : AttrNo) → list_all (row_lies s) rows ≡ true → list_any (has a) rows ≡ true → a.0 < length s
candidate-below s [] a lies on = absurd (true≢false (sym on))
candidate-below s (row ∷ rows) a lies on = let t = and_parts (row_lies s row) (list_all (row_lies s) rows) lies in here (has a row) refl t.0 (candidate-below s rows a t.1) on
  where
    here : (b : Bool) → has a row ≡ b → row_lies s row ≡ true → (list_any (has a) rows ≡ true → a.0 < length s) → b || list_any (has a) rows ≡ true → a.0 < length s
    here true e l later o = attr-below s a row.conj l e
    here false e l later o = later o

module _ (s : Attributes) (rows : List Row) (used : List AttrNo) (alpha : ℕ) (gains counts : List ℕ) (tally : IsTally s rows gains counts) (n : ℕ) (small : n < ATTRIBUTES) where
  -- the number of an attribute is found where it is read
  pub fits_count : get_or counts n 0 ≤ length rows
  fits_count = let e = tally.count n small in let w = with_without rows (numbered n) in omega arith

  pub fits_gain : length rows < 2 ^ 64 → get_or gains n 0 ≤ 1000 * 2 ^ 64
  fits_gain h = let e = tally.gain n small in let b = gain-bound s rows (numbered n) in omega arith

  score_is : (z : ℤ) → z ≡ (pos 100 -ℤ pos alpha) *ℤ pos (get_or gains n 0) -ℤ pos alpha *ℤ pos (1000 * (length rows - get_or counts n 0)) → z ≡ score s rows alpha (numbered n)
  score_is z e =
      let without : length rows - get_or counts n 0 ≡ length (without_attr (numbered n) rows) = let c = tally.count n small in let w = with_without rows (numbered n) in omega arith in
      e ∙ (λ i. (pos 100 -ℤ pos alpha) *ℤ pos (tally.gain n small i) -ℤ pos alpha *ℤ pos (1000 * without i))

  -- the attribute is a candidate, with its score
  pub step_on : (best : Option (AttrNo × ℤ)) → 0 < get_or counts n 0 → is_used used (numbered n) ≡ false → (z : ℤ) → z ≡ (pos 100 -ℤ pos alpha) *ℤ pos (get_or gains n 0) -ℤ pos alpha *ℤ pos (1000 * (length rows - get_or counts n 0))
      → IsBestBelow n s rows used alpha best → IsBestBelow (n + 1) s rows used alpha (Some (better_of best (numbered n, z)))
  step_on best many unused z e before =
      let candidate : IsCandidate rows used (numbered n) = record { some = some_with rows (numbered n) (subst (λ k. 0 < k) (tally.count n small) many); unused = unused } in
      subst (λ x. IsBestBelow (n + 1) s rows used alpha (Some (better_of best (numbered n, x)))) (sym (score_is z e)) (next s rows used alpha n best candidate before)

  -- no row has it
  pub step_off : (best : Option (AttrNo × ℤ)) → get_or counts n 0 ≡ 0 → IsBestBelow n s rows used alpha best → IsBestBelow (n + 1) s rows used alpha best
  step_off best none before = no_next s rows used alpha n best (λ is. let h = with_some rows (numbered n) is.some in let e = tally.count n small in absurd (omega arith)) before

-- it is used
pub step_used : (s : Attributes) (rows : List Row) (used : List AttrNo) (alpha n : ℕ) (best : Option (AttrNo × ℤ)) → is_used used (numbered n) ≡ true → IsBestBelow n s rows used alpha best → IsBestBelow (n + 1) s rows used alpha best
step_used s rows used alpha n best on before = no_next s rows used alpha n best (λ is. true≢false (sym on ∙ is.unused)) before

-- the choice among all attributes
pub chosen_pick : (s : Attributes) (rows : List Row) (used : List AttrNo) (alpha n : ℕ) (best : Option (AttrNo × ℤ)) → list_all (row_lies s) rows ≡ true → length s ≤ n → IsBestBelow n s rows used alpha best → IfSome (option_map (λ (b : AttrNo × ℤ). b.0) best) (IsPick s rows used alpha)
chosen_pick s rows used alpha n None lies all before = tt
chosen_pick s rows used alpha n (Some best) lies all (score_is, pick) = record {
  candidate = pick.candidate;
  highest = λ b is. pick.highest b (let h = candidate-below s rows b lies is.some in omega arith) is;
  lowest = λ b is. pick.lowest b (let h = candidate-below s rows b lies is.some in omega arith) is;
}

pub chosen_none : (s : Attributes) (rows : List Row) (used : List AttrNo) (alpha n : ℕ) (best : Option (AttrNo × ℤ)) → list_all (row_lies s) rows ≡ true → length s ≤ n → IsBestBelow n s rows used alpha best
    → IsNone (option_map (λ (b : AttrNo × ℤ). b.0) best) ↔ ((a : AttrNo) → ¬ IsCandidate rows used a)
chosen_none s rows used alpha n None lies all before = ((λ _ a is. before a (let h = candidate-below s rows a lies is.some in omega arith) is), λ _. refl)
chosen_none s rows used alpha n (Some best) lies all (score_is, pick) = ((λ e. absurd (true≢false e)), λ none. absurd (none best.0 pick.candidate))
