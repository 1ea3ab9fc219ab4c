-- A wait leaves the passes.
use Rattle.std.proofs.Common.{◌≡◌, refl, ap, ◌∙◌}
use Rattle.be_mail.specs.Passes.{Passes}
use Rattle.be_mail.proofs.mail.Mail.await_letter.Goals as goal

pub loop-init : goal.loop-init
loop-init g c = refl

pub has_letter-requires : goal.has_letter-requires
has_letter-requires g c = record { passes = ap (λ (q : Passes). q.boxes) c.loop.invariant ∙ c.requires.passes }

pub returns-then-has_letter : goal.returns-then-has_letter
returns-then-has_letter g c = c.has_letter.ensures.same ∙ c.loop.invariant

pub loop-preserved : goal.loop-preserved
loop-preserved g c = c.has_letter.ensures.same ∙ c.loop.invariant

pub returns : goal.returns
returns g c = c.loop.invariant
