use Rattle.std.proofs.Common.{pos, get_or}
use Rattle.be_cover.specs.Pieces.{is_near}
use Rattle.be_cover.proofs.Allowing.{passes_at, near_ends}
use Rattle.be_cover.proofs.values.kept.Goals as goal

pub put_pieces-requires-clause-high : goal.put_pieces-requires-clause-high
put_pieces-requires-clause-high c =
    let ranges = c.args.ranges.now in
    let i = c.loop-range.range-index in
    (near_ends (get_or ranges i (pos 0, pos 0)) (passes_at is_near ranges i (pos 0, pos 0) c.loop-range-test.true c.requires.ranges)).1
