use Rattle.be_door.specs.Door.{IsNew}
use Rattle.be_hub.specs.Links.{MayStart}
use Rattle.be_hub.proofs.Pairs.{both_mapped}
use Rattle.be_hub.proofs.door_run.jobs_for.Goals as goal

pub returns-clause-may : goal.returns-clause-may
returns-clause-may g c =
    both_mapped (λ job. job.seat) (λ job. job.task) MayStart (IsNew (g.D.Door.state c.args.door.now)) c.in_ok-jobs.jobs.items c.args.seats.items c.args.counts.items c.in_ok-jobs.ensures.seats c.in_ok-jobs.ensures.tasks c.requires.start c.requires.new
