use Rattle.std.proofs.Common.{refl}
use Rattle.be_event.proofs.Notes.{finds_nothing}
use Rattle.be_event.proofs.found.Found.nothing.Goals as goal

pub returns : goal.returns
returns c = λ s. finds_nothing s _ refl refl refl refl refl refl
