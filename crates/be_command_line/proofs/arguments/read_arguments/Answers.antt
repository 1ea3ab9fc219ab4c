-- The parser is asked with this command line, and answers exactly.
use Rattle.std.proofs.Common.{◌≡◌, [], ap, subst, ◌∙◌}
use Rattle.clap.specs.Faults.{fault_of, is_simple_and_free}
use Rattle.clap.specs.Kinds.{HasKind}
use Rattle.clap.specs.Matches.{found_of}
use Rattle.clap.specs.Simple.{App, app_of, is_simple, matches_of}
use Rattle.clap.specs.Walk.{rows_of}
use Rattle.be_command_line.specs.CommandLine.{app}
use Rattle.be_command_line.specs.Words.{word_texts}
use Rattle.be_command_line.proofs.Parsed.{are_texts, matches_are, refusal_is}
use Rattle.be_command_line.proofs.Rules.{is_free, is_plain}
use Rattle.be_command_line.proofs.arguments.read_arguments.Goals as goal

pub returns-in-Ok : goal.returns-in-Ok
returns-in-Ok c =
    let words = word_texts c.args.words.now in
    let is : app_of c.in_ok-command_line.field-0 ≡ app = c.in_ok-command_line.ensures in
    let passes : fault_of app words ≡ [] = subst (λ (a : App). fault_of a words ≡ []) is (c.in-Ok.ensures.kinds (ap is_simple_and_free is ∙ is_free)) in
    let rows : rows_of (found_of c.in-Ok.matches) ≡ matches_of app words =
    (c.in-Ok.ensures.matches (ap is_simple is ∙ is_plain)).0 ∙ ap (λ (a : App). matches_of a words) is in
    matches_are words c.in-Ok.matches (are_texts c.args.words.now) passes rows

pub returns-in-Err : goal.returns-in-Err
returns-in-Err c =
    let words = word_texts c.args.words.now in
    let is : app_of c.in_ok-command_line.field-0 ≡ app = c.in_ok-command_line.ensures in
    let has : HasKind (fault_of app words) c.in-Err.error = subst (λ (a : App). HasKind (fault_of a words) c.in-Err.error) is (c.in-Err.ensures.kinds (ap is_simple_and_free is ∙ is_free)) in
    refusal_is words c.in-Err.error c.fault_of.result (are_texts c.args.words.now) has c.fault_of.ensures
