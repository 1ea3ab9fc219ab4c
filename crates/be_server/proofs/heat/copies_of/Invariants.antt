-- The copies so far are those of the files so far.
use Rattle.std.proofs.Common.{◌≡◌, map, take}
use Rattle.be_server.proofs.heat.copies_of.Given as goal

abbrev pub invariant-loop-file : goal.invariant-loop-file
invariant-loop-file l = map (λ copy. copy.items) l.copies.items ≡ map (λ file. file.items) (take l.file-index l.files)
