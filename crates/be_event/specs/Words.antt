-- What a scan of a line finds.
use Rattle.std.specs.Prelude.{◌≡◌, ◌<◌, [], ◌∷◌, length, Option, Some, None}
use Rattle.be_base.specs.Text.{Text}
use Rattle.be_event.specs.SchemaTexts.{words}

-- a word in front, and the text after it
abbrev pub FirstWord : Text → Option (Text × Text) → Type 0
FirstWord text None = words text ≡ []
FirstWord text (Some r) = (words text ≡ r.0 ∷ words r.1) × (length r.1 < length text)
