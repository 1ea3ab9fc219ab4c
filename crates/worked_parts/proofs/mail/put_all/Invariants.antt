use Rattle.std.proofs.Common.{◌≡◌}
use Rattle.be_mail.specs.Passes.{AllPut}
use Rattle.worked_parts.specs.Early.{IsEarly}
use Rattle.worked_parts.proofs.mail.put_all.Given as goal

abbrev pub invariant-loop-n : goal.invariant-loop-n
invariant-loop-n g l = (l.seat.0.boxes ≡ g.N.BoxNames.boxes) × (l.seat.0.seat ≡ l.fn.seat.passes.seat) × AllPut IsEarly l.seat.0
