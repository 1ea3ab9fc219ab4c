-- Names as a reply has them.
use Rattle.std.specs.Prelude.{List, ◌∷◌}
use Rattle.std.specs.List.{flat_map}
use Rattle.be_base.specs.Text.{Text}

-- each name after a space
abbrev pub spaced : List Text → Text
spaced names = flat_map (λ name. 32 ∷ name) names
