use Rattle.std.proofs.Common.{◌≡◌, length}
use Rattle.be_model.specs.Schemas.{is_among_texts}
use Rattle.be_event.specs.SchemaTexts.{words}
use Rattle.be_event.proofs.words.is_among.Given as goal

abbrev pub invariant-loop-other : goal.invariant-loop-other
invariant-loop-other l = is_among_texts l.word (words l.rest) ≡ is_among_texts l.word (words l.text)

abbrev pub decreases-loop-other : goal.decreases-loop-other
decreases-loop-other l = length l.rest
