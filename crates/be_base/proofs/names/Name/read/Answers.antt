use Rattle.std.proofs.Common.{arith}
use Rattle.std.proofs.lemmas.Bool.Decides.{nat_tests}
use Rattle.be_base.proofs.NameForms.{IsName-from_tests, no_name}
use Rattle.be_base.proofs.names.Name.read.Goals as goal

pub returns-in-Some-clause-name : goal.returns-in-Some-clause-name
returns-in-Some-clause-name c =
    (λ h. absurd (cc), λ name. absurd (no_name c.args.text.now c.in-Some.place c.in-Some.ensures name))

pub of_bytes-requires : goal.of_bytes-requires
of_bytes-requires c =
    IsName-from_tests c.args.text.now (grind (arith, nat_tests, c.if-is_empty.ensures)) c.if-text-gt-NAME_BYTES.false c.in_default.ensures
