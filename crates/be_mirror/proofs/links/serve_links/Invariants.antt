-- The links so far were served, and none is out.
use Rattle.std.proofs.Common.{◌≡◌, ◌+◌, ◌-◌, false}
use Rattle.be_door.specs.Door.{IsOf}
use Rattle.be_io.specs.Outside.{link_state}
use Rattle.be_mirror.specs.Links.{ReadLinksServed}
use Rattle.be_mirror.proofs.links.serve_links.Given as goal

abbrev pub invariant-loop-work : goal.invariant-loop-work
invariant-loop-work g l =
    ReadLinksServed (link_state g.L.Source g.L.Sink) g.J.Naming.schema l.work.session l.work.count l.work.ends.items
    × IsOf (g.D.Door.state l.door) l.work.count
    × (l.work.count.ended ≡ false)
    × (l.work.count.given ≡ l.work.count.back)

abbrev pub decreases-loop-work : goal.decreases-loop-work
decreases-loop-work g l = l.work.count.links - (l.work.count.given + l.work.count.failed + l.work.count.refused)
