-- The command line, as the kit's parser sees it: words by their places and `--load FILE`, without help and version.
use Rattle.std.specs.Prelude.{Some, true, codes}
use Rattle.clap.specs.Walk.{Rule, Text}
use Rattle.clap.specs.Simple.{App, Shape, new_app, new_rule, on_top, with_rule}
use Rattle.clap.specs.declared.builder.action.ArgAction.TheVariants.{Append}

abbrev pub word_id : Text
word_id = codes "word"

abbrev pub load_id : Text
load_id = codes "load"

abbrev pub word_given : Rule
word_given = record (new_rule word_id) { action = Some Append }

abbrev pub load_given : Rule
load_given = record (new_rule load_id) { long = Some load_id; action = Some Append }

abbrev pub settings : Shape → Shape
settings s = record s { no_binary_name = true; disable_help_flag = true }

abbrev pub app : App
app = with_rule (with_rule (on_top settings (new_app (codes "justmeadow"))) word_given) load_given
