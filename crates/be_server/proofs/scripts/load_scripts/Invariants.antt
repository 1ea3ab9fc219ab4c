-- The files so far were asked for, and hold what was read of them. The shelf is as it was.
use Rattle.std.proofs.Common.{◌≡◌, ℕ, ◌≤◌, ◌++◌, List, length, map, take}
use Rattle.std.specs.List.{All}
use Rattle.be_base.specs.Readers.{now_of}
use Rattle.be_base.specs.declared.limits.TheConstants.{FILE_BYTES}
use Rattle.be_server.specs.Drill.{AreScripts}
use Rattle.be_server.proofs.scripts.load_scripts.Given as goal

abbrev pub invariant-loop-name : goal.invariant-loop-name
invariant-loop-name g l =
    (g.F.Shelf.read_faults l.shelf ≡ g.F.Shelf.read_faults l.initial.shelf)
    × ((file : List ℕ) → g.F.Shelf.content l.shelf file ≡ g.F.Shelf.content l.initial.shelf file)
    × (g.F.Shelf.asked l.shelf ≡ g.F.Shelf.asked l.initial.shelf ++ map now_of (take l.name-index l.names))
    × AreScripts (map (g.F.Shelf.content l.initial.shelf) (map now_of (take l.name-index l.names))) (map (λ script. script.items) l.scripts.items)
    × All (λ script. length script.items ≤ FILE_BYTES) l.scripts.items
