use Rattle.std.proofs.Common.{◌≡◌, length}
use Rattle.be_model.specs.Schemas.{all_differ}
use Rattle.be_event.specs.SchemaTexts.{words}
use Rattle.be_event.proofs.words.are_different.Given as goal

abbrev pub invariant-loop-word : goal.invariant-loop-word
invariant-loop-word l = all_differ (words l.rest) ≡ all_differ (words l.text)

abbrev pub decreases-loop-word : goal.decreases-loop-word
decreases-loop-word l = length l.rest
