use Rattle.std.proofs.Common.{◌≡◌, ◌≤◌, ◌<◌, length, option_map, option_and_then}
use Rattle.be_base.specs.Tokens.{tokens}
use Rattle.be_base.specs.Sets.{read_values}
use Rattle.be_base.proofs.SetReadings.{values_after}
use Rattle.be_model.specs.SetTexts.{values_with}
use Rattle.be_model.proofs.SetsBuilt.{put_with}
use Rattle.be_expr.proofs.BuiltValues.{are_fine_behind}
use Rattle.be_expr.proofs.build.build_values.Given as goal

abbrev pub invariant-loop-is_last : goal.invariant-loop-is_last
invariant-loop-is_last l = record {
  whole : option_map (values_with l.schema l.attr) (option_and_then read_values (tokens l.text))
      ≡ option_map (put_with l.schema l.attr l.values) (values_after l.is_last (tokens l.rest));
  fine : are_fine_behind l.schema l.attr 0 (option_and_then read_values (tokens l.text))
      ≡ are_fine_behind l.schema l.attr l.count (values_after l.is_last (tokens l.rest));
  few : l.count ≤ 64;
  put : length l.values ≤ l.count;
  begun : length l.rest < length l.text;
}

abbrev pub decreases-loop-is_last : goal.decreases-loop-is_last
decreases-loop-is_last l = length l.rest
