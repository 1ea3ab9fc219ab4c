-- What a scan of an event's text finds.
use Rattle.std.specs.Prelude.{◌≡◌, ℕ, ℤ, ◌<◌, Bool, true, false, List, [], ◌∷◌, length, get_or, Option, Some, None, option_map, option_and_then, is_some, Result, Ok, Err}
use Rattle.be_base.specs.Text.{Text}
use Rattle.be_base.specs.Tokens.{Lexeme, word, equal, tokens, put_token}
use Rattle.be_base.specs.Sets.{read_values}
use Rattle.be_base.specs.declared.limits.TheConstants.{ATTRIBUTES}
use Rattle.be_base.specs.declared.names.AttrNo.{AttrNo}
use Rattle.be_model.specs.Matching.{Assignments, values_of}
use Rattle.be_model.specs.Schemas.{Attributes, numbered}
use Rattle.be_model.specs.SetTexts.{some_outside, meant_values, FineValues}
use Rattle.be_event.specs.Grammar.{WrittenValues, WrittenItem, item_words, is_attr, read_given, items_of}
use Rattle.be_event.specs.Events.{unknown_in_event, outside_in_event, assignments, stands_twice, large_in_event, first_event_fault}
use Rattle.be_event.specs.declared.events.EventFault.{EventFault}
use Rattle.be_event.specs.declared.found.Faults.{Faults}
use Rattle.be_event.specs.declared.found.Found.{Found}
use Rattle.be_event.specs.declared.items.Given.{Given}
use Rattle.be_event.specs.declared.items.NextItem.{NextItem}
use Rattle.be_event.specs.declared.items.NextItem.TheVariants.{Item, End, Bad}
use Rattle.be_event.specs.declared.items.Source.{Source}
use Rattle.be_event.specs.declared.items.Source.TheVariants.{Value, Set}

abbrev pub items_in : Option (List Lexeme) → Option (List WrittenItem)
items_in ts = option_and_then items_of ts

-- the text begins with an attribute and `=`, is at its end, or has no items
abbrev pub Begins : Text → NextItem → Type 0
Begins text (Item name rest) =
    (tokens text ≡ put_token (word name) (put_token equal (tokens rest.now))) × (is_attr name ≡ true) × (length rest.now < length text)
Begins text End = tokens text ≡ Some []
Begins text Bad = items_in (tokens text) ≡ None

-- the set of values that is read from there
abbrev pub meant : Attributes → AttrNo → Option Source → Option (List ℤ)
meant s a None = None
meant s a (Some (Value v)) = Some (v ∷ [])
meant s a (Some (Set text)) = option_map (λ r. meant_values s a r.0) (option_and_then read_values (tokens text.now))

-- what is read from there has no fault
abbrev pub IsFine : Attributes → AttrNo → Option Source → Type 0
IsFine s a (Some (Set text)) = FineValues s a 0 (option_and_then read_values (tokens text.now))
IsFine s a (Some (Value v)) = Unit {0}
IsFine s a None = Unit {0}

-- these words stand there, where each has a value
abbrev pub IsSource : Attributes → AttrNo → Source → List Text → Type 0
IsSource s a (Value v) words = meant_values s a words ≡ v ∷ []
IsSource s a (Set text) words = (ts : List Lexeme) × (option_and_then read_values (tokens text.now) ≡ Some (words, ts))

-- what is told of values that are given to an attribute, if there is one
pub record IsGiven (s : Attributes) (o : Option AttrNo) (given : Given) (values : WrittenValues) : Type 0 where
  pub count : given.met.count ≡ length (item_words values)
  pub outside : given.met.is_outside ≡ some_outside s o (item_words values)
  pub source : (a : AttrNo) → o ≡ Some a → given.met.is_outside ≡ false → IsSource s a given.source (item_words values)

-- a value or a set stands in front of these tokens, unless a byte that no token has follows
abbrev pub GivenBefore : Attributes → Option AttrNo → Option (List Lexeme) → Given → Option (List Lexeme) → Type 0
GivenBefore s o ts given None = option_and_then read_given ts ≡ None
GivenBefore s o ts given (Some rest) = (values : WrittenValues) × (option_and_then read_given ts ≡ Some (values, rest)) × IsGiven s o given values

-- there is a source exactly where there is a set, which is read from it
abbrev pub HoldsAt : Attributes → AttrNo → Option Source → Option (List ℤ) → Type 0
HoldsAt s a source values = (is_some source ≡ is_some values) × (meant s a source ≡ values)

-- the table has a source for the set of each attribute
abbrev pub Holds : Attributes → List (Option Source) → Assignments → Type 0
Holds s sources items =
    (length sources ≡ ATTRIBUTES) × ((place : ℕ) → place < ATTRIBUTES → HoldsAt s (numbered place) (get_or sources place None) (values_of items (numbered place)))

abbrev pub AreFine : Attributes → List (Option Source) → Type 0
AreFine s sources = (place : ℕ) → place < ATTRIBUTES → IsFine s (numbered place) (get_or sources place None)

abbrev pub is_some_item : List WrittenItem → Bool
is_some_item [] = false
is_some_item (item ∷ items) = true

-- the first fault of each kind among the items, and the sets
pub record Finds (s : Attributes) (items : List WrittenItem) (found : Found) : Type 0 where
  pub some : found.faults.some ≡ is_some_item items
  pub unknown : found.faults.unknown ≡ unknown_in_event s items
  pub outside : found.faults.outside ≡ outside_in_event s items
  pub twice : found.faults.twice ≡ stands_twice (assignments s items)
  pub many : found.faults.many ≡ large_in_event items
  pub holds : Holds s found.sources (assignments s items)
  pub fine : found.faults.many ≡ None → AreFine s found.sources

-- the items of the text, and what is found among them
abbrev pub Scanned : Attributes → Text → Option Found → Type 0
Scanned s text (Some found) = (items : List WrittenItem) × (items_in (tokens text) ≡ Some items) × Finds s items found
Scanned s text None = items_in (tokens text) ≡ None

-- the first fault among the items, in the order of the kinds
abbrev pub Judges : Attributes → Faults → Result (Unit {0}) EventFault → Type 0
Judges s faults (Ok _) =
    (items : List WrittenItem) (sources : List (Option Source)) → Finds s items (record { faults = faults; sources = sources }) → (first_event_fault s items ≡ None) × (faults.many ≡ None)
Judges s faults (Err fault) =
    (items : List WrittenItem) (sources : List (Option Source)) → Finds s items (record { faults = faults; sources = sources }) → first_event_fault s items ≡ Some fault
