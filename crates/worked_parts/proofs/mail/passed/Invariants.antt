use Rattle.std.proofs.Common.{◌≡◌}
use Rattle.worked_parts.proofs.mail.passed.Given as goal

abbrev pub invariant-loop-n : goal.invariant-loop-n
invariant-loop-n g l = l.mine.boxes ≡ l.mail

abbrev pub invariant-loop : goal.invariant-loop
invariant-loop g l = l.mine.boxes ≡ l.mail
