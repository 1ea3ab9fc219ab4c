-- What a text begins with.
use Rattle.std.specs.Prelude.{◌≡◌, ℕ, ◌==◌, ◌++◌, Bool, true, false, [], ◌∷◌}
use Rattle.std.specs.List.{list_all}
use Rattle.be_base.specs.Text.{Text}
use Rattle.be_base.specs.Tokens.{is_blank}

-- whether a text has a first byte, and that passes the test
abbrev pub starts_with : (ℕ → Bool) → Text → Bool
starts_with test [] = false
starts_with test (b ∷ text) = test b

abbrev pub is_equal : ℕ → Bool
is_equal b = b == 61

-- the text from its first byte that is no blank
pub record IsAfterBlanks (text rest : Text) : Type 0 where
  pub blanks : Text
  pub are_blank : list_all is_blank blanks ≡ true
  pub parts : text ≡ blanks ++ rest
  pub first : starts_with is_blank rest ≡ false
