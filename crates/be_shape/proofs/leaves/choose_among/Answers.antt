use Rattle.std.proofs.Common.{◌≡◌, ◌<◌, ◌+◌, ℕ, cond, length, set, slice_get, true, Some, refl, sym, ap, ◌∙◌, arith}
use Rattle.std.proofs.lemmas.List.{length-set}
use Rattle.std.specs.Prelude.{option_map}
use Rattle.be_model.specs.declared.changes.Row.{Row}
use Rattle.be_model.specs.Matching.{satisfies}
use Rattle.be_shape.specs.declared.leaves.Choice.{Choice}
use Rattle.be_shape.specs.Leaves.{rows_of_places}
use Rattle.be_shape.proofs.LeafRows.{rows_length}
use Rattle.be_shape.proofs.Choices.{byte_cond, cond_small, covers_next}
use Rattle.be_shape.proofs.leaves.choose_among.Goals as goal

pub loop-at-preserved : goal.loop-at-preserved
loop-at-preserved c =
    let rows = rows_of_places c.args.places.now in
    let e = c.args.e.now in
    let from = c.args.from in
    let n = c.loop-at.at in
    let k = c.loop-at.count in
    let places = c.loop-at.chosen in
    let was = c.loop-at.invariant in
    let there_is : slice_get rows (from + n) ≡ c.kept_at.result.now = c.kept_at.ensures.at in
    let few : n < 32 = omega (arith, c.loop-at-test.true, c.loop-at.auto.at-end, c.requires.block) in
    let there : from + n < length rows = omega (arith, c.loop-at-test.true, c.loop-at.auto.at-end, c.requires.within, rows_length c.args.places.now c.requires.rows) in
    let room : k < length places = omega (arith, was.0, was.1, few) in
    let b = c.ask-may.result.0 in
    let sure = c.ask-may.result.1 in
    let choice : Choice = record { at = n; sure = sure } in
    let size : length (set places k choice) ≡ 32 = length-set places k choice ∙ was.1 in
    let kept : k + c.from-count.result ≡ k + cond b 1 0 = ap (λ (m : ℕ). k + m) (c.from-count.ensures ∙ byte_cond b) in
    let may : option_map (λ (row : Row). satisfies e row.conj) (slice_get rows (from + n)) ≡ Some true → b ≡ true = λ h. c.ask-may.ensures.may (ap (option_map (λ (row : Row). satisfies e row.conj)) (sym there_is) ∙ h) in
    let surely : b ≡ true → sure ≡ true → option_map (λ (row : Row). satisfies e row.conj) (slice_get rows (from + n)) ≡ Some true = λ h j. ap (option_map (λ (row : Row). satisfies e row.conj)) there_is ∙ c.ask-may.ensures.sure h j in
    (omega (arith, kept, cond_small b, was.0), size, covers_next e rows from n k (k + c.from-count.result) places choice b refl kept may surely there room was.2)
