-- So many glasses are made, each of which knows what is published.
use Rattle.std.proofs.Common.{◌≡◌, length, All}
use Rattle.be_published.specs.States.{new_glass}
use Rattle.be_published.proofs.pair.glasses_of.Given as goal

abbrev pub invariant-loop : goal.invariant-loop
invariant-loop g l =
    (length l.glasses.items ≡ l.counter) × All (λ glass. glass ≡ new_glass l.fn.press.published) l.glasses.items
