-- What the kit's parser of command lines gives.
use Rattle.std.specs.Prelude.{◌≡◌, List, [], Option, Some, None, Result, Ok, Err, unwrap_or}
use Rattle.be_base.specs.Text.{Text}
use Rattle.clap.specs.Matches.{found_of}
use Rattle.clap.specs.Walk.{Row, all_of, rows_of}
use Rattle.clap.specs.declared.parser.matches.ArgMatches.{ArgMatches}
use Rattle.be_command_line.specs.declared.words.WordsFault.{WordsFault}
use Rattle.be_command_line.specs.declared.words.WordsFault.TheVariants.{Refused, NoMemory}
use Rattle.be_command_line.specs.Arguments.{Arguments}
use Rattle.be_command_line.specs.CommandLine.{load_id, word_id}

-- the values of an argument of this id
abbrev pub seen : Text → List Row → List Text
seen id rows = unwrap_or (all_of id rows) []

abbrev pub argument_values : ArgMatches → Text → List Text
argument_values matches id = seen id (rows_of (found_of matches))

abbrev pub arguments_in : ArgMatches → Arguments
arguments_in matches = record { words = argument_values matches word_id; loads = argument_values matches load_id }

-- the arguments exactly where there are some, and the refusal exactly where there are none, want of memory aside
abbrev pub AreArguments : Option Arguments → Result ArgMatches WordsFault → Type 0
AreArguments wanted (Ok matches) = wanted ≡ Some (arguments_in matches)
AreArguments wanted (Err Refused) = wanted ≡ None
AreArguments wanted (Err NoMemory) = Unit {0}
