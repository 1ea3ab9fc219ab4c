use Rattle.std.proofs.Common.{◌↔◌, ℕ, ◌+◌, ◌-◌, ◌≤◌, ◌<◌, ◌*◌, length, rules, sym, ap, ◌∙◌, subst, arith}
use Rattle.be_base.specs.declared.limits.TheConstants.{ATTRIBUTES}
use Rattle.std.specs.Prelude.{ℤ, pos, ◌-ℤ◌, ◌*ℤ◌, Some, IfSome, IsNone, FitsSigned}
use lib.ListN.{get_or}
use Rattle.be_base.specs.declared.names.AttrNo.{AttrNo}
use Rattle.be_score.specs.Scores.{IsCandidate, IsPick}
use Rattle.std.specs.Int.{w128}
use Rattle.std.proofs.lemmas.Int.{to_z-of_z}
use Rattle.be_model.specs.Schemas.{numbered}
use Rattle.be_score.specs.Tallies.{better_of}
use Rattle.be_score.proofs.BestSoFar.{IsBestBelow}
use Rattle.be_score.proofs.Choosing.{fits_count, fits_gain, step_on, step_off, step_used, chosen_pick, chosen_none}
use Rattle.be_score.proofs.Picks.{pick_is}
use Rattle.be_score.proofs.scores.pick_attr.Goals as goal
use Rattle.be_score.proofs.scores.pick_attr.Goals.{then-tally-at-gt0+then-not-is_used, else-tally-at-gt0, else-tally-at-gt0-via-then-tally-at-gt0+else-not-is_used, else-tally-at-gt0-via-else-tally-at-gt0}

pub overflow_sub-count : goal.overflow_sub-count
overflow_sub-count g c =
    let small : c.from-at.result < ATTRIBUTES = let e = c.from-at.ensures in let t = c.loop-number-test.true in let n = c.count-number-end.ensures.count in let f = c.count-number-end.ensures.form.few in omega arith in
    let h = fits_count c.args.s.now (g.R.RowList.rows c.args.rows.now) c.args.used.now c.args.alpha _ _ c.tally_of-tally.ensures c.from-at.result small in
    let n = c.len-count.ensures in
    omega arith

pub score_of-score-requires : goal.score_of-score-requires
score_of-score-requires g c =
    let small : c.from-at.result < ATTRIBUTES = let e = c.from-at.ensures in let t = c.loop-number-test.true in let n = c.count-number-end.ensures.count in let f = c.count-number-end.ensures.form.few in omega arith in
    fits_gain c.args.s.now (g.R.RowList.rows c.args.rows.now) c.args.used.now c.args.alpha _ _ c.tally_of-tally.ensures c.from-at.result small (let n = c.len-count.ensures in let t = c.len-count.type_inv in omega arith)

pub loop-number-preserved : goal.loop-number-preserved
loop-number-preserved g c =
    let s = c.args.s.now in
    let rows = g.R.RowList.rows c.args.rows.now in
    let used = c.args.used.now in
    let alpha = c.args.alpha in
    let n = c.loop-number.number in
    let best = c.loop-number.best in
    let small : n < ATTRIBUTES = let t = c.loop-number-test.true in let n = c.count-number-end.ensures.count in let f = c.count-number-end.ensures.form.few in omega arith in
    let gains = c.tally_of-tally.result.gains in
    let counts = c.tally_of-tally.result.counts in
    let at = c.from-at.ensures in
    let F : ℕ → ℕ → ℤ = λ k m. (pos 100 -ℤ pos alpha) *ℤ pos (get_or gains k 0) -ℤ pos alpha *ℤ pos (1000 * (m - get_or counts k 0)) in
    elim c.if-tally-at-gt0.branch [
      | then-tally-at-gt0+then-not-is_used w ↦
          let fits : FitsSigned w128 w.score_of-score.result = search rules in
          let many = subst (λ k. 0 < get_or counts k 0) at w.if-tally-at-gt0.true in
          let z = w.score_of-score.ensures ∙ ap (λ k. F k c.len-count.result) at ∙ ap (F n) c.len-count.ensures in
          subst (IsBestBelow (n + 1) s rows used alpha) (sym (w.best-is ∙ ap (λ b. Some b) w.better.ensures ∙ ap (λ x. Some (better_of best (numbered n, x))) (to_z-of_z w128 w.score_of-score.result fits)))
          (step_on s rows used alpha gains counts c.tally_of-tally.ensures n small best many (sym w.is_used.ensures ∙ w.if-not-is_used.true) w.score_of-score.result z c.loop-number.invariant)
      | else-tally-at-gt0 w ↦ subst (IsBestBelow (n + 1) s rows used alpha) (sym w.best-is)
          (elim w.else-tally-at-gt0.branch [
            | else-tally-at-gt0-via-then-tally-at-gt0+else-not-is_used w' ↦ step_used s rows used alpha n best (sym w'.is_used.ensures ∙ w'.if-not-is_used.false) c.loop-number.invariant
            | else-tally-at-gt0-via-else-tally-at-gt0 w' ↦ step_off s rows used alpha gains counts c.tally_of-tally.ensures n small best (let h = subst (λ k. get_or counts k 0 ≤ 0) at w'.if-tally-at-gt0.false in omega arith) c.loop-number.invariant
          ])
    ]

pub returns-clause-none : goal.returns-clause-none
returns-clause-none g c =
    let all : length c.args.s.now ≤ c.loop-number.number = let n = c.count-number-end.ensures.count in let t = c.loop-number-test.false in omega arith in
    subst (λ o. IsNone o ↔ ((a : AttrNo) → ¬ IsCandidate (g.R.RowList.rows c.args.rows.now) c.args.used.now a)) (sym c.attr_of.ensures)
    (chosen_none c.args.s.now (g.R.RowList.rows c.args.rows.now) c.args.used.now c.args.alpha c.loop-number.number c.loop-number.best c.requires all c.loop-number.invariant)

pub returns-clause-pick : goal.returns-clause-pick
returns-clause-pick g c =
    let all : length c.args.s.now ≤ c.loop-number.number = let n = c.count-number-end.ensures.count in let t = c.loop-number-test.false in omega arith in
    subst (λ o. IfSome o (IsPick c.args.s.now (g.R.RowList.rows c.args.rows.now) c.args.used.now c.args.alpha)) (sym c.attr_of.ensures)
    (chosen_pick c.args.s.now (g.R.RowList.rows c.args.rows.now) c.args.used.now c.args.alpha c.loop-number.number c.loop-number.best c.requires all c.loop-number.invariant)

pub returns-clause-exact : goal.returns-clause-exact
returns-clause-exact g c = pick_is c.args.s.now (g.R.RowList.rows c.args.rows.now) c.args.used.now c.args.alpha _ c.requires (returns-clause-pick g c) (returns-clause-none g c)
