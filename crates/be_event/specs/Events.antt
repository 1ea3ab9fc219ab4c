-- What the text of an event means in a schema, or its first fault.
use Rattle.std.specs.Prelude.{◌≡◌, ◌<◌, ℕ, ℤ, zero, suc, Bool, List, [], ◌∷◌, ◌++◌, length, find, nat_lt, Option, Some, None, option_map, option_and_then, is_some, is_none, Result, Ok, Err, codes, if◌then◌else◌}
use Rattle.std.specs.List.{filter_map}
use Rattle.std.specs.Option.{option_map_or, option_or}
use Rattle.be_base.specs.Text.{Text, same_text}
use Rattle.be_base.specs.Tokens.{Lexeme, word, tokens}
use Rattle.be_base.specs.declared.limits.TheConstants.{SET_VALUES}
use Rattle.be_base.specs.declared.names.AttrNo.{AttrNo}
use Rattle.be_model.specs.Matching.{Assignments, values_of}
use Rattle.be_model.specs.Schemas.{Attributes, numbered, attribute_named}
use Rattle.be_model.specs.SetTexts.{has_outside, some_outside, meant_values}
use Rattle.be_event.specs.Grammar.{WrittenItem, item_words, items_written}
use Rattle.be_event.specs.declared.events.EventFault.{EventFault}
use Rattle.be_event.specs.declared.events.EventFault.TheVariants.{Bad, Attr, Dom, Twice, Many, NoMemory}

abbrev pub is_unknown_item : Attributes → WrittenItem → Bool
is_unknown_item s item = is_none (attribute_named s item.attr)

-- the first attribute that the schema doesn't have
abbrev pub unknown_in_event : Attributes → List WrittenItem → Option Text
unknown_in_event s items = option_map (λ (item : WrittenItem). item.attr) (find (is_unknown_item s) items)

-- the attribute is there, and one of the values is outside its domain
abbrev pub is_outside_item : Attributes → WrittenItem → Bool
is_outside_item s item = some_outside s (attribute_named s item.attr) (item_words item.values)

-- the attribute of the first value outside its domain
abbrev pub outside_in_event : Attributes → List WrittenItem → Option AttrNo
outside_in_event s items = option_and_then (λ (item : WrittenItem). attribute_named s item.attr) (find (is_outside_item s) items)

abbrev pub is_large_item : WrittenItem → Bool
is_large_item item = nat_lt SET_VALUES (length (item_words item.values))

-- the number of written values of the first set that has more than 64
abbrev pub large_in_event : List WrittenItem → Option ℕ
large_in_event items = option_map (λ (item : WrittenItem). length (item_words item.values)) (find is_large_item items)

-- the attribute and its set of values, where the schema has all of them
abbrev pub assigned : Attributes → AttrNo → List Text → Option (AttrNo × List ℤ)
assigned s a words = if has_outside s a words then None else Some (a, meant_values s a words)

abbrev pub assignment : Attributes → WrittenItem → Option (AttrNo × List ℤ)
assignment s item = option_and_then (λ a. assigned s a (item_words item.values)) (attribute_named s item.attr)

abbrev pub assignments : Attributes → List WrittenItem → Assignments
assignments s items = filter_map (assignment s) items

-- the first attribute that stands a second time, where these stood before
abbrev pub again_after : Assignments → Assignments → Option AttrNo
again_after before [] = None
again_after before (item ∷ items) =
    if is_some (values_of before item.0) then Some item.0 else again_after (before ++ item ∷ []) items

-- the first attribute that stands a second time
abbrev pub stands_twice : Assignments → Option AttrNo
stands_twice items = again_after [] items

-- the sets of the first n places, each with its attribute, where there is one
abbrev pub sets_by_place : ℕ → (ℕ → Option (List ℤ)) → Assignments
sets_by_place zero values = []
sets_by_place (suc n) values = option_map_or (λ vs. sets_by_place n values ++ (numbered n, vs) ∷ []) (values n) (sets_by_place n values)

-- the sets of the first n attributes, by rising attribute
abbrev pub by_attribute : ℕ → Assignments → Assignments
by_attribute n items = sets_by_place n (λ place. values_of items (numbered place))

-- the first fault, in the order of the kinds
abbrev pub first_event_fault : Attributes → List WrittenItem → Option EventFault
first_event_fault s items =
    option_or (option_map (λ name. Attr name) (unknown_in_event s items))
    (option_or (option_map (λ a. Dom a) (outside_in_event s items))
    (option_or (option_map (λ a. Twice a) (stands_twice (assignments s items))) (option_map (λ count. Many count) (large_in_event items))))

abbrev pub event_or_fault : Assignments → Option EventFault → Result Assignments EventFault
event_or_fault e None = Ok e
event_or_fault e (Some fault) = Err fault

abbrev pub event_meant : Attributes → Option (List WrittenItem) → Result Assignments EventFault
event_meant s None = Err Bad
event_meant s (Some items) = event_or_fault (by_attribute (length s) (assignments s items)) (first_event_fault s items)

-- the event that these tokens are, or the first fault
abbrev pub event_of : Attributes → Option (List Lexeme) → Result Assignments EventFault
event_of s ts = event_meant s (option_and_then items_written ts)

-- `-` alone is the empty event
abbrev pub empty_event : Option (List Lexeme) → Result Assignments EventFault
empty_event (Some (word w ∷ [])) = if same_text w (codes "-") then Ok [] else Err Bad
empty_event _ = Err Bad

-- the event that a text is, or its first fault
abbrev pub event : Attributes → Text → Result Assignments EventFault
event s text = event_of s (tokens text)

-- what a reader answered is what the text is. Memory can run out only where it is an event
abbrev pub Reads : Result Assignments EventFault → Result Assignments EventFault → Type 0
Reads (Ok e) read = read ≡ Ok e
Reads (Err NoMemory) read = (e : Assignments) × (read ≡ Ok e)
Reads (Err fault) read = read ≡ Err fault

-- a fault that names an attribute by its number names one of the schema
abbrev pub IsKnown : Attributes → EventFault → Type 0
IsKnown s (Dom a) = a.0 < length s
IsKnown s (Twice a) = a.0 < length s
IsKnown s _ = Unit {0}
