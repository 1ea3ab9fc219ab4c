use Rattle.be_hub.proofs.Ends.{all_back}
use Rattle.worked_hub.proofs.closing.changes_of.Goals as goal

pub close-requires : goal.close-requires
close-requires g c = record { all = all_back _ g.J.BoxNames.boxes c.args.run.ends.items c.in-Some.seats.items c.in-Some.ensures.seats c.requires.count c.in-Some.ensures.kept c.requires.places }
