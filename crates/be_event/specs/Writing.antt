-- The text of an event in its one canonical form.
use Rattle.std.specs.Prelude.{◌≡◌, ℤ, true, List, [], ◌∷◌, ◌++◌, Ok, codes}
use Rattle.std.specs.List.{join_by}
use Rattle.be_base.specs.Text.{Text}
use Rattle.be_base.specs.Sets.{set_text}
use Rattle.be_base.specs.declared.names.AttrNo.{AttrNo}
use Rattle.be_model.specs.Forms.{IsEvent}
use Rattle.be_model.specs.Lies.{event_lies}
use Rattle.be_model.specs.Matching.{Assignments}
use Rattle.be_model.specs.Schemas.{Attributes, IsSchema}
use Rattle.be_model.specs.SetTexts as set
use Rattle.be_model.specs.Texts.{value_text_at, name_at, NamesAreNames}
use Rattle.be_event.specs.Events.{event}

-- a value alone, or several in braces
abbrev pub given_text : (ℤ → Text) → List ℤ → Text
given_text value (v ∷ []) = value v
given_text value vs = set_text value vs

abbrev pub item_text : Attributes → AttrNo × List ℤ → Text
item_text s item = name_at s item.0 ++ codes "=" ++ given_text (value_text_at s item.0) item.1

-- `-`, or the items in their order, with one space between them
abbrev pub event_text : Attributes → Assignments → Text
event_text s [] = codes "-"
event_text s (item ∷ items) = join_by (item_text s) (codes " ") (item ∷ items)

-- the attribute's name is a name, and the texts of the values are words
abbrev pub IsSpelled : Attributes → AttrNo × List ℤ → Type 0
IsSpelled s item = set.IsSpelled s item.0 item.1

-- reading the canonical text of an event gives it back
abbrev pub TextsAreRead : Type 0
TextsAreRead =
    (s : Attributes) (e : Assignments) → IsSchema s → NamesAreNames s → IsEvent e → event_lies s e ≡ true → event s (event_text s e) ≡ Ok e
