-- The links so far were served, none is out, the seat's first session has no change while none was served, and no more tends reached the
-- desk than were asked for.
use Rattle.std.proofs.Common.{◌≡◌, ◌≤◌, ◌+◌, ◌-◌, [], false}
use Rattle.be_board.specs.Word.{own_in}
use Rattle.be_desk.specs.Seats.{word_of}
use Rattle.be_door.specs.Door.{IsOf}
use Rattle.be_hub.specs.Links.{LinksServed}
use Rattle.be_io.specs.Outside.{link_state}
use Rattle.be_hub.proofs.links.serve_links.Given as goal

abbrev pub invariant-loop-work : goal.invariant-loop-work
invariant-loop-work g l =
    LinksServed (link_state g.L.Source g.L.Sink) g.J.Naming.schema g.J.BoxNames.boxes l.fn.job.seat l.work.seat l.work.count l.work.ends.items l.work.tended l.work.asked
    × IsOf (g.D.Door.state l.door) l.work.count
    × (l.work.count.ended ≡ false)
    × (l.work.count.given ≡ l.work.count.back)
    × (l.work.ends.items ≡ [] → own_in (word_of l.work.seat) ≡ [])
    × (l.work.between ≤ l.work.asked)

abbrev pub decreases-loop-work : goal.decreases-loop-work
decreases-loop-work g l = l.work.count.links - (l.work.count.given + l.work.count.failed + l.work.count.refused)
