use Rattle.std.proofs.Common.{◌≡◌, ◌+◌, drop, option_map}
use Rattle.be_shape.specs.Plain.{parts_as}
use Rattle.be_shape.specs.Swaps.{place_on}
use Rattle.be_shape.proofs.swaps.place_on.Given as goal

-- the part stands so far behind those that were passed
abbrev pub invariant-loop-part : goal.invariant-loop-part
invariant-loop-part l =
    (option_map (λ i. l.place + i) (place_on l.a (parts_as (drop l.part-index l.parts))) ≡ place_on l.a (parts_as l.parts)) × (l.place ≡ l.part-index)
