use Rattle.std.proofs.Common.{◌≡◌, ◌+◌, ℕ, length, sym, subst, ◌∙◌, arith}
use Rattle.be_shape.specs.Columns.{AreTold, TellsRow}
use Rattle.be_shape.specs.Leaves.{rows_of_places}
use Rattle.be_shape.proofs.LeafRows.{rows_length}
use Rattle.be_shape.proofs.BlockColumns.{some_row}
use Rattle.be_shape.proofs.columns.Columns.fill.Goals as goal

pub loop-at-preserved : goal.loop-at-preserved
loop-at-preserved c =
    let rows = rows_of_places c.args.places.now in
    let n = c.loop-at.at in
    let was = c.loop-at.invariant in
    let long : length rows ≡ 32 = rows_length c.args.places.now c.requires.rows ∙ c.requires.many in (
      c.put.ensures.attr ∙ was.0,
      some_row rows n (AreTold c.put.new.self rows (n + 1)) (omega (arith, long, c.loop-at-test.true))
          (λ row at. c.put.ensures.told rows row at (subst (λ (a : ℕ). TellsRow a c.in-Some.entry row) (sym was.0) (c.in-Some.ensures row (sym c.kept_at.ensures.at ∙ at))) was.1),
    )

pub returns : goal.returns
returns c =
    let rows = rows_of_places c.args.places.now in
    let end : c.loop-at.at ≡ 32 = omega (arith, c.loop-at-test.false, c.loop-at.auto.at-end) in
    record { many = rows_length c.args.places.now c.requires.rows ∙ c.requires.many; told = subst (λ (n : ℕ). AreTold c.loop-at.columns rows n) end c.loop-at.invariant.1 }
