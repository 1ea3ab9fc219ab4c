use Rattle.std.proofs.Common.{◌≡◌, map, drop}
use Rattle.be_io.specs.Shelf.{file_of, content_of}
use Rattle.be_io.proofs.shelf.MemShelf.content.Given as goal

abbrev pub invariant-loop-file : goal.invariant-loop-file
invariant-loop-file l = content_of (map file_of (drop l.file-index l.file-items)) l.name ≡ content_of (map file_of l.file-items) l.name
