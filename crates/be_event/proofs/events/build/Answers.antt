use Rattle.std.proofs.Common.{None, get_or}
use Rattle.be_model.specs.Schemas.{numbered}
use Rattle.be_event.specs.Scan.{meant}
use Rattle.be_event.proofs.Built.{next_rises}
use Rattle.be_event.proofs.events.build.Goals as goal

pub push-requires : goal.push-requires
push-requires c =
    next_rises c.loop-place.place (λ place. meant c.args.schema.now (numbered place) (get_or c.args.sources place None)) c.loop-place.event c.loop-place.invariant
