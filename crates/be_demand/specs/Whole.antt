-- Names without an LF, and that every reply then has lines.
use Rattle.std.specs.Prelude.{◌≡◌, ℕ, ◌&&◌, Bool, true, List}
use Rattle.std.specs.List.{list_all}
use Rattle.be_io.specs.Lines.{TextLine}
use Rattle.be_model.specs.declared.schemas.Attribute.{Attribute}
use Rattle.be_model.specs.declared.schemas.Domain.{Domain}
use Rattle.be_model.specs.declared.schemas.Domain.TheVariants.{Int, Sym}
use Rattle.be_model.specs.Schemas.{Attributes}
use Rattle.be_change.specs.History.{Entry, subscribed, unsubscribed, left}
use Rattle.be_change.specs.Requests.{Exchange}
use Rattle.be_protocol.specs.Transcript.{AreExchanges}
use Rattle.be_demand.specs.Texts.{is_whole}
use Rattle.be_demand.specs.Demand.{AreFit}

abbrev pub words_are_whole : Domain → Bool
words_are_whole (Int lo hi) = true
words_are_whole (Sym words) = list_all is_whole words

abbrev pub attribute_is_whole : Attribute → Bool
attribute_is_whole x = is_whole x.name && words_are_whole x.domain

-- no name of a schema has an LF
abbrev pub names_are_whole : Attributes → Bool
names_are_whole s = list_all attribute_is_whole s

abbrev pub entry_is_whole : Entry → Bool
entry_is_whole (subscribed k n row) = is_whole row.name
entry_is_whole (unsubscribed k n name) = is_whole name
entry_is_whole (left k n) = true

-- no name in a list of changes has one
abbrev pub changes_are_whole : List Entry → Bool
changes_are_whole h = list_all entry_is_whole h

-- where that is so, the replies of each legal session are fit to be read back
abbrev pub LegalIsFit : Type 0
LegalIsFit =
    (s : Attributes) (k z : ℕ) (h : List Entry) (ls : List TextLine) (ps : List Exchange) → names_are_whole s ≡ true → changes_are_whole h ≡ true
    → AreExchanges s k z h ls ps → AreFit s ps
