use Rattle.std.proofs.Common.{◌≡◌, take, true}
use Rattle.std.specs.List.{list_all}
use Rattle.be_base.specs.Tokens.{is_blank}
use Rattle.be_base.proofs.tokens.after_blanks.Given as goal

abbrev pub invariant-loop-i : goal.invariant-loop-i
invariant-loop-i l = list_all is_blank (take l.i l.text) ≡ true
