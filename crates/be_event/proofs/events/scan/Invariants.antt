use Rattle.std.proofs.Common.{length}
use Rattle.be_base.specs.Tokens.{tokens}
use Rattle.be_event.proofs.Scans.{Passed}
use Rattle.be_event.proofs.events.scan.Given as goal

abbrev pub invariant-items : goal.invariant-items
invariant-items l = Passed l.schema l.text (tokens l.left) l.found

abbrev pub decreases-items : goal.decreases-items
decreases-items l = length l.left
