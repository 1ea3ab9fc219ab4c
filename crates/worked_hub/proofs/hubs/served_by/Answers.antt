use Rattle.std.proofs.Common.{◌≡◌, ◌∙◌, arith, length}
use Rattle.std.proofs.lemmas.Option.{slice_get_within}
use Rattle.be_hub.proofs.Ends.{there}
use Rattle.worked_hub.proofs.hubs.served_by.Goals as goal

pub returns-in-Ok-clause-places : goal.returns-in-Ok-clause-places
returns-in-Ok-clause-places g c i end e =
    let within = slice_get_within c.in-Ok.run'.ends.items i end e in
    let file = there c.args.script.files.items i (omega (arith, within, c.in-Ok.ensures.count)) in
    let seat = there c.args.seats.items i (omega (arith, within, c.in-Ok.ensures.count, c.requires.count)) in
    (c.in-Ok.ensures.ends i seat.0 file.0 end seat.1 file.1 e).board.goes.seat ∙ c.requires.places i seat.0 seat.1
