use Rattle.std.proofs.Common.{◌≡◌, ◌≤◌, [], length}
use Rattle.be_base.specs.declared.limits.TheConstants.{FILE_BYTES}
use Rattle.be_board.specs.Word.{own_in}
use Rattle.be_desk.specs.Seats.{word_of}
use Rattle.be_hub.proofs.Pairs.{both_mapped}
use Rattle.be_hub.proofs.files.jobs_of.Goals as goal

pub returns-clause-may : goal.returns-clause-may
returns-clause-may g c =
    both_mapped (λ job. job.seat) (λ job. job.task) (λ seat. own_in (word_of seat) ≡ []) (λ file. length file.items ≤ FILE_BYTES) c.in_ok-jobs.jobs.items c.args.seats.items c.args.files.items
    c.in_ok-jobs.ensures.seats c.in_ok-jobs.ensures.tasks c.requires.first c.requires.size
