use Rattle.std.proofs.Common.{◌≡◌}
use Rattle.be_mail.proofs.mail.Mail.await_letter.Given as goal

abbrev pub invariant-loop : goal.invariant-loop
invariant-loop g l = l.pass ≡ l.fn.pass
