-- Lists of texts, and the places of texts in them.
use Rattle.std.specs.Prelude.{ℕ, ◌&&◌, not, Bool, true, List, [], ◌∷◌, Option, position}
use Rattle.std.specs.List.{list_any}
use Rattle.be_base.specs.Text.{Text, same_text}

-- the place of the equal text
abbrev pub place_of : Text → List Text → Option ℕ
place_of text texts = position (λ other. same_text other text) texts

abbrev pub is_among_texts : Text → List Text → Bool
is_among_texts text texts = list_any (λ other. same_text other text) texts

abbrev pub all_differ : List Text → Bool
all_differ [] = true
all_differ (text ∷ texts) = not (is_among_texts text texts) && all_differ texts
