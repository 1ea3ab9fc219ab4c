use Rattle.be_base.proofs.NameForms.{IsUtf8-from_words}
use Rattle.be_base.proofs.names.Name.as_str.Goals as goal

pub from_utf8_unchecked-requires : goal.from_utf8_unchecked-requires
from_utf8_unchecked-requires c = rw c.bytes-bytes.ensures.bytes (IsUtf8-from_words c.args.self.now c.bytes-bytes.ensures.form.bytes)
