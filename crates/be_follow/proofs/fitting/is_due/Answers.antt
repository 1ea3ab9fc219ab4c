-- The session's number says whether it has left, and else its next serial.
use Rattle.std.proofs.Common.{◌≡◌, ℕ, ◌≤◌, length, arith, ap, ◌∙◌}
use Rattle.std.proofs.lemmas.Bool.{eqb-true, eq-eqb}
use Rattle.be_base.specs.declared.limits.TheConstants.{COUNT_END, LOG_CHANGES}
use Rattle.be_change.specs.Entries.{entry_of}
use Rattle.be_change.specs.History.{session_of, serial_of, stand}
use Rattle.be_follow.proofs.Standing.{next_by, next_number}
use Rattle.be_follow.proofs.fitting.is_due.Goals as goal

pub returns-then-number-eq-COUNT_END : goal.returns-then-number-eq-COUNT_END
returns-then-number-eq-COUNT_END c =
    let e = entry_of c.args.change.now in
    let h = c.args.log.now.list in
    let is : c.args.number ≡ stand (session_of e) h = c.requires in
    let few : length h ≤ LOG_CHANGES = omega (arith, c.len.ensures.len, c.len.ensures.most) in
    let at_end : c.args.number ≡ COUNT_END = omega arith in
    (λ x. absurd cc, λ n. absurd ((next_number (session_of e) h (serial_of e) c.args.number is few n).1 at_end))

pub returns : goal.returns
returns c =
    let e = entry_of c.args.change.now in
    let h = c.args.log.now.list in
    let is : c.args.number ≡ stand (session_of e) h = c.requires in
    let few : length h ≤ LOG_CHANGES = omega (arith, c.len.ensures.len, c.len.ensures.most) in (
      λ x. next_by (session_of e) h (serial_of e) c.args.number is (omega (arith, eqb-true c.serial_of.result c.args.number x)) (λ (f : c.args.number ≡ COUNT_END). absurd (omega (arith, f))),
      λ n. eq-eqb c.serial_of.result c.args.number (c.serial_of.ensures ∙ (next_number (session_of e) h (serial_of e) c.args.number is few n).0),
    )
