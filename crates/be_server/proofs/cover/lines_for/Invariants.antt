use Rattle.std.proofs.Common.{◌≡◌, take}
use Rattle.std.specs.List.{flat_map}
use Rattle.be_server.specs.Cover.{line_for}
use Rattle.be_server.proofs.cover.lines_for.Given as goal

abbrev pub invariant-loop-row : goal.invariant-loop-row
invariant-loop-row l = l.text.items ≡ flat_map (line_for l.schema l.asked) (take l.row-index l.rows)
