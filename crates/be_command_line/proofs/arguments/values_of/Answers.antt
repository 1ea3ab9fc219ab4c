-- The values that the parser has of the argument, or none.
use Rattle.std.proofs.Common.{◌≡◌, ap, ◌∙◌, List, [], Option, Some, None, map}
use Rattle.std.specs.Borrow.{Bor}
use Rattle.std.specs.Option.{option_map, unwrap_or, UnwrapsOrElse}
use Rattle.be_base.specs.Readers.{now_of}
use Rattle.be_base.specs.Text.{Text}
use Rattle.clap.specs.Matches.{found_of}
use Rattle.clap.specs.Walk.{all_of, rows_of}
use Rattle.clap.proofs.WalkLemmas.{raw_values-rows}
use Rattle.be_command_line.proofs.arguments.values_of.Goals as goal

or_none : (found : Option (Bor (List (Bor Text)))) (values : Bor (List (Bor Text))) (wanted : Option (List Text)) (IsNone : Bor (List (Bor Text)) → Type 0)
    → option_map (λ s. map now_of s.now) found ≡ wanted → ((v : Bor (List (Bor Text))) → IsNone v → v.now ≡ []) → UnwrapsOrElse found IsNone values
    → map now_of values.now ≡ unwrap_or wanted []
or_none None values wanted IsNone is empty unwraps = ap (map now_of) (empty values unwraps) ∙ ap (λ (w : Option (List Text)). unwrap_or w []) is
or_none (Some found) values wanted IsNone is empty unwraps = ap (λ (v : Bor (List (Bor Text))). map now_of v.now) unwraps ∙ ap (λ (w : Option (List Text)). unwrap_or w []) is

pub returns : goal.returns
returns c =
    let found = found_of c.args.matches.now in
    or_none c.get_raw.result c.unwrap_or_default.result (all_of c.args.id.now (rows_of found)) _
    (c.get_raw.ensures ∙ raw_values-rows found c.args.id.now) (λ v is. is) c.unwrap_or_default.ensures
