use Rattle.std.proofs.Common.{[], ◌∷◌, refl, arith}
use Rattle.be_base.specs.Text.{IsName, is_word_byte}
use Rattle.be_event.proofs.schema_texts.DeclaredDefault.default.Goals as goal

hyphen : IsName (45 ∷ [])
unfolding is_word_byte
hyphen = record { some = omega arith; short = omega arith; bytes = refl }

pub unwrap-requires : goal.unwrap-requires
unwrap-requires c = c.read.ensures.name.1 hyphen
