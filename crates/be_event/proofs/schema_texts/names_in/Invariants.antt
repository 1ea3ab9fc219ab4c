use Rattle.std.proofs.Common.{◌≡◌, ◌++◌, length, true}
use Rattle.std.specs.List.{list_all}
use Rattle.be_base.specs.Text.{name_of}
use Rattle.be_event.specs.Grammar.{is_name}
use Rattle.be_event.specs.SchemaTexts.{words}
use Rattle.be_event.proofs.schema_texts.names_in.Given as goal

abbrev pub invariant-loop-word : goal.invariant-loop-word
invariant-loop-word l = record {
  names : l.names ++ words l.rest ≡ words l.text;
  form : list_all (λ w. is_name (name_of w)) (words l.rest) ≡ true;
}

abbrev pub decreases-loop-word : goal.decreases-loop-word
decreases-loop-word l = length l.rest
