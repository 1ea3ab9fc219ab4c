use Rattle.std.proofs.Common.{◌≡◌, drop}
use Rattle.be_core.specs.World.{seen_by}
use Rattle.be_core.proofs.seen.seen_by.Given as goal

abbrev pub invariant-loop-row : goal.invariant-loop-row
invariant-loop-row l = seen_by l.session.0 (drop l.row-index l.rows) ≡ seen_by l.session.0 l.rows
