use Rattle.std.proofs.Common.{◌≡◌, None, get_or}
use Rattle.be_model.specs.Schemas.{numbered}
use Rattle.be_event.specs.Events.{sets_by_place}
use Rattle.be_event.specs.Scan.{meant}
use Rattle.be_event.proofs.events.build.Given as goal

abbrev pub invariant-loop-place : goal.invariant-loop-place
invariant-loop-place l = l.event ≡ sets_by_place l.place (λ place. meant l.schema (numbered place) (get_or l.sources place None))
