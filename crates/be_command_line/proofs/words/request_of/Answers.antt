use Rattle.be_command_line.proofs.Unknown.{unknown}
use Rattle.be_command_line.proofs.words.request_of.Goals as goal

pub returns-in_default-clause-request : goal.returns-in_default-clause-request
returns-in_default-clause-request c =
    simp (unknown c.args.command.now c.in_default.not-run c.in_default.not-gen c.in_default.not-cover c.in_default.not-drill c.in_default.not-serve c.in_default.not-heat c.in_default.not-follow c.in_default.not-mirror)
