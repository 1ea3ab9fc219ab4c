use Rattle.std.proofs.Common.{All}
use Rattle.worked_server.specs.Peers.{IsFresh}
use Rattle.worked_server.proofs.links.peers.Given as goal

abbrev pub invariant-loop-link : goal.invariant-loop-link
invariant-loop-link l = All (λ peer. IsFresh peer.source peer.sink) l.peers.items
