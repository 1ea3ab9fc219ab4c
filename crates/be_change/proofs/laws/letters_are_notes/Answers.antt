use Rattle.be_change.proofs.Boxes.{letters_noted}
use Rattle.be_change.proofs.laws.letters_are_notes.Goals as goal

pub returns : goal.returns
returns c = letters_noted
