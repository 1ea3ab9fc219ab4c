use Rattle.std.proofs.Common.{◌≡◌, length}
use Rattle.std.specs.List.{list_all}
use Rattle.be_base.specs.Text.{name_of}
use Rattle.be_event.specs.Grammar.{is_name}
use Rattle.be_event.specs.SchemaTexts.{words}
use Rattle.be_event.proofs.words.are_names.Given as goal

abbrev pub invariant-loop-word : goal.invariant-loop-word
invariant-loop-word l = list_all (λ w. is_name (name_of w)) (words l.rest) ≡ list_all (λ w. is_name (name_of w)) (words l.text)

abbrev pub decreases-loop-word : goal.decreases-loop-word
decreases-loop-word l = length l.rest
