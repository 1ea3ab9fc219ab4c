use Rattle.std.proofs.Common.{◌≡◌, drop}
use Rattle.std.specs.List.{list_any}
use Rattle.be_core.specs.Acts.{deeds_of, is_by}
use Rattle.worked_answers.proofs.acts.are_by_nobody.Given as goal

abbrev pub invariant-loop-act : goal.invariant-loop-act
invariant-loop-act l = list_any (is_by 0) (deeds_of (drop l.act-index l.acts)) ≡ list_any (is_by 0) (deeds_of l.acts)
