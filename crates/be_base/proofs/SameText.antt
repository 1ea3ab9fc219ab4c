-- Texts that are the same.
use Rattle.std.proofs.Common.{◌≡◌, true}
use Rattle.std.specs.Bool.{Decides}
use Rattle.std.proofs.lemmas.Slice.Eq.{bytes_eq-Decides}
use Rattle.be_base.specs.Text.{Text, same_text}

-- `same_text` tells whether two texts are one
pub same_text-Decides : (a b : Text) → Decides (same_text a b) (a ≡ b)
same_text-Decides a b = bytes_eq-Decides a b

pub equal_from_same_text : (a b : Text) → same_text a b ≡ true → a ≡ b
equal_from_same_text a b h = (bytes_eq-Decides a b).0 h

pub same_text_from_equal : (a b : Text) → a ≡ b → same_text a b ≡ true
same_text_from_equal a b h = (bytes_eq-Decides a b).1 h
