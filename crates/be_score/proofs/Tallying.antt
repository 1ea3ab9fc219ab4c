-- The tally of rows, row by row.
use Rattle.std.proofs.Common.{◌≡◌, ℕ, suc, ◌+◌, ◌*◌, ◌-◌, ◌^◌, ◌<◌, ◌≤◌, List, [], ◌∷◌, ◌++◌, length, take, sym, ap, ◌∙◌, subst, arith}
use Rattle.std.specs.Prelude.{Some, slice_get, unwrap_or, if◌then◌else◌}
use Rattle.std.proofs.lemmas.Option.{slice_get-get_or}
use Rattle.std.proofs.lemmas.List.{length-take}
use Rattle.std.proofs.Math.Seq.{take-suc}
use Rattle.be_model.specs.declared.changes.Row.{Row}
use Rattle.be_model.specs.Schemas.{Attributes, numbered}
use Rattle.be_model.specs.Rows.{has}
use Rattle.be_score.specs.Scores.{weight, gain, with_attr}
use Rattle.be_score.specs.Tallies.{AreZeros, AreBelow, IsTally, Adds}
use Rattle.be_score.proofs.Gains.{gain-push, count-push, gain-bound, with_without}

pub no_rows : (s : Attributes) (gains counts : List ℕ) → AreZeros gains × AreZeros counts → IsTally s [] gains counts
no_rows s gains counts zeros = record { gain = zeros.0; count = zeros.1 }

one_longer : (rows : List Row) (place : ℕ) (row : Row) → place < length rows → slice_get rows place ≡ Some row → take (place + 1) rows ≡ take place rows ++ row ∷ []
one_longer rows place row less is =
    let e : place + 1 ≡ suc place = omega arith in
    ap (λ n. take n rows) e ∙ take-suc rows place row less ∙ ap (λ r. take place rows ++ r ∷ []) (ap (λ o. unwrap_or o row) (sym (slice_get-get_or rows place row less) ∙ is))

pub one_more : (s : Attributes) (rows : List Row) (place : ℕ) (row : Row) (gains counts gains' counts' : List ℕ) → IsTally s (take place rows) gains counts → place < length rows → slice_get rows place ≡ Some row → Adds s row gains counts gains' counts'
    → IsTally s (take (place + 1) rows) gains' counts'
one_more s rows place row gains counts gains' counts' before less is adds =
    let same = one_longer rows place row less is in
    record {
      gain = λ a h. adds.gain a h ∙ ap (λ n. n + (if has (numbered a) row then weight s (numbered a) row else 0)) (before.gain a h) ∙ sym (gain-push s (take place rows) row (numbered a)) ∙ ap (λ rs. gain s rs (numbered a)) (sym same);
      count = λ a h. adds.count a h ∙ ap (λ n. n + (if has (numbered a) row then 1 else 0)) (before.count a h) ∙ sym (count-push (take place rows) row (numbered a)) ∙ ap (λ rs. length (with_attr (numbered a) rs)) (sym same);
    }

pub room : (s : Attributes) (rows : List Row) (place : ℕ) (gains counts : List ℕ) → IsTally s (take place rows) gains counts → length rows < 2 ^ 64 → AreBelow (2 ^ 100) gains
room s rows place gains counts tally few a h =
    let b = gain-bound s (take place rows) (numbered a) in
    let n = length-take place rows in
    subst (λ m. m < 2 ^ 100) (sym (tally.gain a h)) (small (gain s (take place rows) (numbered a)) (length (take place rows)) b (omega arith))
  where
    small : (g n : ℕ) → g ≤ 1000 * n → n < 2 ^ 64 → g < 2 ^ 100
    small g n b h = omega arith

pub more : (s : Attributes) (rows : List Row) (place : ℕ) (gains counts : List ℕ) → IsTally s (take place rows) gains counts → place < length rows → length rows < 2 ^ 64 → AreBelow (2 ^ 64 - 1) counts
more s rows place gains counts tally less few a h =
    let b = with_without (take place rows) (numbered a) in
    let n = length-take place rows in
    subst (λ m. m < 2 ^ 64 - 1) (sym (tally.count a h)) (omega arith)
