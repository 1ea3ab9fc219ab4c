use Rattle.std.proofs.Common.{rules, ap, ◌∙◌}
use Rattle.be_copy.specs.Keys.{name_key}
use Rattle.be_copy.proofs.KeyBytes.{short_number}
use Rattle.be_copy.proofs.keys.name_key.Goals as goal

pub returns-then-bytes-le-KEY_BYTES : goal.returns-then-bytes-le-KEY_BYTES
returns-then-bytes-le-KEY_BYTES c =
    c.from_be_bytes.ensures
    ∙ short_number c.bytes-bytes.result.now c.padded.result c.if-bytes-le-KEY_BYTES.true c.padded.ensures
    ∙ ap name_key c.bytes-bytes.ensures.bytes

pub returns : goal.returns
unfolding name_key
returns c = search rules
