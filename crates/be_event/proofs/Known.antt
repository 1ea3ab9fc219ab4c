-- A fault of an event names attributes of the schema.
use Rattle.std.proofs.Common.{◌≡◌, ℕ, ◌<◌, Bool, true, false, cond, List, [], ◌∷◌, ◌++◌, length, find, Option, Some, None, option_map, option_and_then, Err, refl, subst, is_some}
use Rattle.std.specs.List.{cons_option}
use Rattle.std.specs.Option.{option_or}
use Rattle.be_base.specs.Text.{Text}
use Rattle.be_base.specs.Tokens.{tokens}
use Rattle.be_base.specs.declared.names.AttrNo.{AttrNo}
use Rattle.be_model.specs.SetTexts.{has_outside, meant_values}
use Rattle.be_model.specs.Matching.{Assignments, values_of}
use Rattle.be_model.specs.Schemas.{Attributes, attribute_named}
use Rattle.be_model.proofs.NamedBelow.{named_below}
use Rattle.be_event.specs.Grammar.{WrittenItem, item_words, items_written}
use Rattle.be_event.specs.Events.{unknown_in_event, is_outside_item, outside_in_event, large_in_event, assigned, assignments, again_after, stands_twice, first_event_fault, event_or_fault, event_meant, by_attribute, event, Reads, IsKnown}
use Rattle.be_event.specs.declared.events.EventFault.{EventFault}
use Rattle.be_event.specs.declared.events.EventFault.TheVariants.{Bad, Attr, Dom, Twice, Many, NoMemory}

-- what is known of a fault that may be there
abbrev Knows : Attributes → Option EventFault → Type 0
Knows s None = Unit {0}
Knows s (Some fault) = IsKnown s fault

knows_unknown : (s : Attributes) (name : Option Text) → Knows s (option_map (λ n. Attr n) name)
knows_unknown s None = tt
knows_unknown s (Some name) = tt

knows_outside : (s : Attributes) (item : Option WrittenItem) → Knows s (option_map (λ a. Dom a) (option_and_then (λ (i : WrittenItem). attribute_named s i.attr) item))
knows_outside s None = tt
knows_outside s (Some item) = by_attr (attribute_named s item.attr) refl
  where
    by_attr : (a : Option AttrNo) → attribute_named s item.attr ≡ a → Knows s (option_map (λ b. Dom b) a)
    by_attr None e = tt
    by_attr (Some a) e = named_below s item.attr a e

-- each attribute is one of the schema
abbrev AreBelow : Attributes → Assignments → Type 0
AreBelow s [] = Unit {0}
AreBelow s (item ∷ items) = (item.0.0 < length s) × AreBelow s items

assigned_below : (s : Attributes) (items : List WrittenItem) → AreBelow s (assignments s items)
assigned_below s [] = tt
assigned_below s (item ∷ items) = by_attr (attribute_named s item.attr) refl (assigned_below s items)
  where
    put : (a : AttrNo) (words : List Text) (b : Bool) → a.0 < length s → AreBelow s (assignments s items) → AreBelow s (cons_option (cond b None (Some (a, meant_values s a words))) (assignments s items))
    put a words true below rest = rest
    put a words false below rest = (below, rest)

    by_attr : (a : Option AttrNo) → attribute_named s item.attr ≡ a → AreBelow s (assignments s items)
        → AreBelow s (cons_option (option_and_then (λ b. assigned s b (item_words item.values)) a) (assignments s items))
    by_attr None e rest = rest
    by_attr (Some a) e rest = put a (item_words item.values) (has_outside s a (item_words item.values)) (named_below s item.attr a e) rest

knows_again : (s : Attributes) (before items : Assignments) → AreBelow s items → Knows s (option_map (λ a. Twice a) (again_after before items))
knows_again s before [] below = tt
knows_again s before (item ∷ items) below = step (is_some (values_of before item.0)) (knows_again s (before ++ item ∷ []) items below.1)
  where
    step : (b : Bool) → Knows s (option_map (λ a. Twice a) (again_after (before ++ item ∷ []) items))
        → Knows s (option_map (λ a. Twice a) (cond b (Some item.0) (again_after (before ++ item ∷ []) items)))
    step true rest = below.0
    step false rest = rest

knows_either : (s : Attributes) (a b : Option EventFault) → Knows s a → Knows s b → Knows s (option_or a b)
knows_either s None b x y = y
knows_either s (Some fault) b x y = x

knows_many : (s : Attributes) (count : Option ℕ) → Knows s (option_map (λ n. Many n) count)
knows_many s None = tt
knows_many s (Some n) = tt

knows_fault : (s : Attributes) (items : List WrittenItem) → Knows s (first_event_fault s items)
knows_fault s items =
    knows_either s (option_map (λ n. Attr n) (unknown_in_event s items)) _ (knows_unknown s (unknown_in_event s items))
    (knows_either s (option_map (λ a. Dom a) (outside_in_event s items)) _ (knows_outside s (find (is_outside_item s) items))
    (knows_either s (option_map (λ a. Twice a) (stands_twice (assignments s items))) (option_map (λ n. Many n) (large_in_event items))
    (knows_again s [] (assignments s items) (assigned_below s items)) (knows_many s (large_in_event items))))

known_judged : (s : Attributes) (e : Assignments) (f : Option EventFault) (fault : EventFault) → Knows s f → event_or_fault e f ≡ Err fault → IsKnown s fault
known_judged s e None fault k is = absurd cc
known_judged s e (Some g) fault k is = let same : g ≡ fault = cc in subst (IsKnown s) same k

known_meant : (s : Attributes) (items : Option (List WrittenItem)) (fault : EventFault) → event_meant s items ≡ Err fault → IsKnown s fault
known_meant s None fault e = let same : Bad ≡ fault = cc in subst (IsKnown s) same tt
known_meant s (Some items) fault e = known_judged s (by_attribute (length s) (assignments s items)) (first_event_fault s items) fault (knows_fault s items) e

pub known_read : (s : Attributes) (text : Text) (fault : EventFault) → Reads (Err fault) (event s text) → IsKnown s fault
known_read s text (Dom a) r = known_meant s (option_and_then items_written (tokens text)) (Dom a) r
known_read s text (Twice a) r = known_meant s (option_and_then items_written (tokens text)) (Twice a) r
known_read s text Bad r = tt
known_read s text (Attr name) r = tt
known_read s text (Many count) r = tt
known_read s text NoMemory r = tt
