-- The arguments of the command line, as the kit's parser builds them.
use Rattle.std.proofs.Common.{◌≡◌, refl, List, [], ◌∷◌, Some, true}
use Rattle.clap.specs.Walk.{Rule}
use Rattle.clap.specs.Simple.{Shape, built, is_simple}
use Rattle.clap.specs.declared.builder.value_parser.ValueParser.TheVariants as vp
use Rattle.clap.specs.Faults.{is_simple_and_free}
use Rattle.clap.proofs.OnLiterals.{clap_on_literals}
use Rattle.be_command_line.specs.CommandLine.{app, load_given, word_given}

abbrev pub word_rule : Rule
word_rule = record word_given {
  index = Some 1;
  range = Some (record { start_inclusive = 1; end_inclusive = 1 });
  parser = Some vp.String;
}

abbrev pub load_rule : Rule
load_rule = record load_given {
  range = Some (record { start_inclusive = 1; end_inclusive = 1 });
  parser = Some vp.String;
}

abbrev pub rules : List Rule
rules = word_rule ∷ load_rule ∷ []

abbrev pub shape : Shape
shape = (built app).top

pub is_free : is_simple_and_free app ≡ true
unfolding clap_on_literals
is_free = refl

pub is_plain : is_simple app ≡ true
unfolding clap_on_literals
is_plain = refl
