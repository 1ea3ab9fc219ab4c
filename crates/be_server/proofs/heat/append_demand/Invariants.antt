-- The lines so far stand behind the number of HITs.
use Rattle.std.proofs.Common.{◌≡◌, ◌++◌}
use Rattle.std.specs.List.{flat_map, range_with_len}
use Rattle.be_server.specs.Heat.{asked_line}
use Rattle.be_server.proofs.heat.append_demand.Given as goal

abbrev pub invariant-loop-place : goal.invariant-loop-place
invariant-loop-place l = l.text.items ≡ l.initial.text.items ++ flat_map (asked_line l.schema l.demand) (range_with_len 0 l.place)
