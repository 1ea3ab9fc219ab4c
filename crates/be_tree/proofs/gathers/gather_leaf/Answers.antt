use Rattle.std.proofs.Common.{◌+◌, ◌++◌, ◌∷◌, [], ◌<◌, drop, length, arith}
use Rattle.std.specs.Arc.{arc_value}
use Rattle.be_base.proofs.Beginnings.{BeginsWith-along}
use Rattle.be_index.proofs.Adding.{on_refusal}
use Rattle.be_tree.specs.Gathered.{wanted}
use Rattle.be_tree.proofs.Gathering.{wanted_at, put_step, some_first, some_from}
use Rattle.be_tree.proofs.gathers.gather_leaf.Goals as goal

pub loop-place-preserved : goal.loop-place-preserved
loop-place-preserved c =
    let k = c.args.session in
    let rows = c.args.leaf.now in
    let i = c.loop-place.place in
    let x = arc_value c.row.result.now in
    let was = c.loop-place.found.rows in
    let is = c.gather_row.new.found.rows in (
      put_step was is (wanted k (drop i rows)) (wanted k (x ∷ [])) (wanted k (drop (i + 1) rows)) (c.args.found.now.rows ++ wanted k rows) c.loop-place.invariant.0 (wanted_at k rows i x c.row.ensures) c.in_ok-gather_row.ensures.put,
      BeginsWith-along is was c.args.found.now.rows c.in_ok-gather_row.ensures.front c.loop-place.invariant.1,
      omega (arith, c.loop-place.invariant.2, c.in_ok-gather_row.ensures.room),
    )

pub returns-in_err-gather_row-clause-refused : goal.returns-in_err-gather_row-clause-refused
returns-in_err-gather_row-clause-refused c =
    let k = c.args.session in
    let rows = c.args.leaf.now in
    let i = c.loop-place.place in
    let x = arc_value c.row.result.now in
    on_refusal c.from_residual.result (0 < length (wanted k rows)) (some_from c.args.found.now.rows c.loop-place.found.rows (wanted k rows) (wanted k (drop i rows)) c.loop-place.invariant.0 c.loop-place.invariant.1 (some_first (wanted k (drop i rows)) (wanted k (x ∷ [])) (wanted k (drop (i + 1) rows)) (wanted_at k rows i x c.row.ensures) c.in_err-gather_row.ensures.refused))
