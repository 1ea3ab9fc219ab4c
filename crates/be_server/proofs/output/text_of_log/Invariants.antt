-- The lines so far and those of the changes that are left are all lines.
use Rattle.std.proofs.Common.{◌≡◌, ◌++◌, drop}
use Rattle.be_server.specs.Drill.{log_lines}
use Rattle.be_server.proofs.output.text_of_log.Given as goal

abbrev pub invariant-loop-place : goal.invariant-loop-place
invariant-loop-place l = l.text.items ++ log_lines l.schema (drop l.place l.log.list) ≡ l.initial.text.items ++ log_lines l.schema l.log.list
