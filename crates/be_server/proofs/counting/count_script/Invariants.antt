-- The list and the sums so far, and the lines that are left.
use Rattle.std.proofs.Common.{◌≡◌, length}
use Rattle.be_workload.specs.Asked.{asked_by_lines}
use Rattle.be_server.proofs.ScriptSteps.{Serving}
use Rattle.be_server.proofs.counting.count_script.Given as goal

abbrev pub invariant-loop-rest : goal.invariant-loop-rest
invariant-loop-rest g l =
    record {
      serving : Serving (asked_by_lines l.fn.script) l.counting.board.board.list (asked_by_lines l.rest) l.counting.sums;
      schema : g.I.Index.schema l.counting.board.board.index ≡ l.schema;
    }

abbrev pub decreases-loop-rest : goal.decreases-loop-rest
decreases-loop-rest g l = length l.rest
