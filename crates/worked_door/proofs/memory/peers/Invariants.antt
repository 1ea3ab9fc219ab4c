use Rattle.std.proofs.Common.{All}
use Rattle.worked_door.specs.Peers.{IsFresh}
use Rattle.worked_door.proofs.memory.peers.Given as goal

abbrev pub invariant-loop-number : goal.invariant-loop-number
invariant-loop-number l = All (λ peer. IsFresh peer.source peer.sink) l.peers.items
