-- What a scan of a text says of the event that it is.
use Rattle.std.specs.Prelude.{MatchBool}
use Rattle.std.proofs.Common.{◌≡◌, ℕ, ℤ, zero, suc, ◌≤◌, ◌==◌, Bool, true, false, cond, List, [], ◌∷◌, length, get_or, Option, Some, None, option_map, option_and_then, Result, Ok, Err, codes, refl, sym, ap, ◌∙◌, arith, if◌then◌else◌}
use Rattle.std.specs.List.{cons_option}
use Rattle.std.specs.Option.{option_or}
use Rattle.std.proofs.lemmas.Bool.{eqb-true}
use Rattle.be_base.specs.Text.{Text, same_text}
use Rattle.be_base.specs.Tokens.{Lexeme, word, tokens}
use Rattle.be_base.specs.declared.names.AttrNo.{AttrNo}
use Rattle.be_model.specs.Matching.{Assignments, values_of}
use Rattle.be_model.specs.declared.schemas.Attribute.{Attribute}
use Rattle.be_model.specs.Schemas.{Attributes, numbered, attribute_named, attribute_at}
use Rattle.be_model.specs.SetTexts.{has_outside, meant_values}
use Rattle.be_model.specs.Lies.{item_lies, event_lies}
use Rattle.be_model.proofs.SetsLie.{meant_lies, attribute_is_there}
use Rattle.be_event.specs.Grammar.{WrittenItem, item_words, items_of, items_written}
use Rattle.be_event.specs.Events.{unknown_in_event, outside_in_event, stands_twice, large_in_event, assigned, assignment, assignments, sets_by_place, by_attribute, first_event_fault, event_or_fault, event_meant, event, event_of, empty_event, Reads}
use Rattle.be_event.specs.Scan.{items_in, meant, Holds, AreFine, is_some_item, Scanned, Judges}
use Rattle.be_event.specs.declared.events.EventFault.{EventFault}
use Rattle.be_event.specs.declared.events.EventFault.TheVariants.{Bad, Attr, Dom, Twice, Many, NoMemory}
use Rattle.be_event.specs.declared.found.Found.{Found}
use Rattle.be_event.specs.declared.items.Source.{Source}
use Rattle.be_event.proofs.Built.{by_place-same, by_place-lies}

one_word_has_no_item : (w : Text) → items_of (word w ∷ []) ≡ None
one_word_has_no_item w = refl

some_written : (ts : List Lexeme) (items : List WrittenItem) → items_of ts ≡ Some items → is_some_item items ≡ true → items_written ts ≡ Some items
some_written [] items h some = let none : [] ≡ items = cc in absurd (cc (ap is_some_item none ∙ some))
some_written (word w ∷ []) items h some = absurd (cc (sym (one_word_has_no_item w) ∙ h))
some_written (t ∷ []) items h some = h
some_written (word w ∷ u ∷ ts) items h some = h
some_written (t ∷ u ∷ ts) items h some = h

-- where a text has an item, it is written so
written_in : (o : Option (List Lexeme)) (items : List WrittenItem) → items_in o ≡ Some items → is_some_item items ≡ true → option_and_then items_written o ≡ Some items
written_in None items h some = absurd (cc)
written_in (Some ts) items h some = some_written ts items h some

nothing_at : (n : ℕ) → sets_by_place n (λ place. None) ≡ []
nothing_at zero = refl
nothing_at (suc n) = nothing_at n

dash : (s : Attributes) (b : Bool) → Reads (if b then Ok [] else Err Bad) (event_meant s (if b then Some [] else None))
dash s true = ap (λ (e : Assignments). Ok e) (nothing_at (length s))
dash s false = refl

-- a text without items
pub reads_empty : (s : Attributes) (o : Option (List Lexeme)) → items_in o ≡ None → Reads (empty_event o) (event_of s o)
reads_empty s None h = refl
reads_empty s (Some []) h = absurd (cc)
reads_empty s (Some (word w ∷ [])) h = dash s (same_text w (codes "-"))
reads_empty s (Some (t ∷ [])) h = ap (event_meant s) h
reads_empty s (Some (word w ∷ u ∷ ts)) h = ap (event_meant s) h
reads_empty s (Some (t ∷ u ∷ ts)) h = ap (event_meant s) h

-- a scan that says that there is a reading
pub scanned_so : (s : Attributes) (text : Text) (found : Found) (b : Bool) → MatchBool b (Scanned s text (Some found)) (Scanned s text None) → b ≡ true → Scanned s text (Some found)
scanned_so s text found true k e = k
scanned_so s text found false k e = absurd (cc)

pub scanned_none : (s : Attributes) (text : Text) (found : Found) (b : Bool) → MatchBool b (Scanned s text (Some found)) (Scanned s text None) → b ≡ false → items_in (tokens text) ≡ None
scanned_none s text found true k e = absurd (cc)
scanned_none s text found false k e = k

-- a set of an item lies in the schema
lies_step : (s : Attributes) (o : Option (AttrNo × List ℤ)) (items : Assignments) (a : AttrNo) (vs : List ℤ) → ((i : AttrNo × List ℤ) → o ≡ Some i → item_lies s i ≡ true)
    → (values_of items a ≡ Some vs → item_lies s (a, vs) ≡ true) → values_of (cons_option o items) a ≡ Some vs → item_lies s (a, vs) ≡ true
lies_step s None items a vs one rest h = rest h
lies_step s (Some i) items a vs one rest h = at (i.0.0 == a.0) refl h
  where
    at : (b : Bool) → (i.0.0 == a.0) ≡ b → cond b (Some i.1) (values_of items a) ≡ Some vs → item_lies s (a, vs) ≡ true
    at true e k =
        let attr : i.0 ≡ a = ap numbered (eqb-true i.0.0 a.0 e) in
        let values : i.1 ≡ vs = cc in
        ap (λ x. item_lies s (x, vs)) (sym attr) ∙ ap (λ x. item_lies s (i.0, x)) (sym values) ∙ one i refl
    at false e k = rest k

assigned_lies : (s : Attributes) (a : AttrNo) (words : List Text) (b : Bool) (i : AttrNo × List ℤ) → (x : Attribute) × (attribute_at s a ≡ Some x) → has_outside s a words ≡ b
    → cond b None (Some (a, meant_values s a words)) ≡ Some i → item_lies s i ≡ true
assigned_lies s a words true i there e h = absurd (cc)
assigned_lies s a words false i there e h =
    let is : (a, meant_values s a words) ≡ i = cc in
    ap (item_lies s) (sym is) ∙ meant_lies s a there.0 words there.1 e

assignment_lies : (s : Attributes) (item : WrittenItem) (o : Option AttrNo) (i : AttrNo × List ℤ) → attribute_named s item.attr ≡ o
    → option_and_then (λ a. assigned s a (item_words item.values)) o ≡ Some i → item_lies s i ≡ true
assignment_lies s item None i e h = absurd (cc)
assignment_lies s item (Some a) i e h =
    assigned_lies s a (item_words item.values) (has_outside s a (item_words item.values)) i (attribute_is_there s item.attr a e) refl h

values_lie : (s : Attributes) (items : List WrittenItem) (a : AttrNo) (vs : List ℤ) → values_of (assignments s items) a ≡ Some vs → item_lies s (a, vs) ≡ true
values_lie s [] a vs h = absurd (cc)
values_lie s (item ∷ items) a vs h =
    lies_step s (assignment s item) (assignments s items) a vs (λ i e. assignment_lies s item (attribute_named s item.attr) i refl e) (values_lie s items a vs) h

event_is : (s : Attributes) (text : Text) (found : Found) (k : Scanned s text (Some found)) → found.faults.some ≡ true → event s text ≡ event_meant s (Some k.0)
event_is s text found k some = ap (event_meant s) (written_in (tokens text) k.0 k.1 (sym k.2.some ∙ some))

pub read_fault : (s : Attributes) (text : Text) (found : Found) (fault : EventFault) → Scanned s text (Some found) → found.faults.some ≡ true → Judges s found.faults (Err fault) → event s text ≡ Err fault
read_fault s text found fault k some j =
    event_is s text found k some ∙ ap (event_or_fault (by_attribute (length s) (assignments s k.0))) (j k.0 found.sources k.2)

built : (s : Attributes) (items : List WrittenItem) (sources : List (Option Source)) → length s ≤ 256 → Holds s sources (assignments s items)
    → sets_by_place (length s) (λ place. meant s (numbered place) (get_or sources place None)) ≡ by_attribute (length s) (assignments s items)
built s items sources few h = by_place-same (length s) _ _ (λ place k. (h.1 place (omega arith)).1)

pub read_ok : (s : Attributes) (text : Text) (found : Found) (e : Assignments) → length s ≤ 256 → Scanned s text (Some found) → found.faults.some ≡ true → Judges s found.faults (Ok tt)
    → e ≡ sets_by_place (length s) (λ place. meant s (numbered place) (get_or found.sources place None)) → (event s text ≡ Ok e) × (event_lies s e ≡ true)
read_ok s text found e few k some j is =
    let same = is ∙ built s k.0 found.sources few k.2.holds in (
      event_is s text found k some ∙ ap (event_or_fault (by_attribute (length s) (assignments s k.0))) (j k.0 found.sources k.2).0 ∙ ap (λ x. Ok x) (sym same),
      ap (event_lies s) same ∙ by_place-lies s (length s) (λ place. values_of (assignments s k.0) (numbered place)) (λ place vs. values_lie s k.0 (numbered place) vs),
    )

pub sources_fine : (s : Attributes) (text : Text) (found : Found) → Scanned s text (Some found) → Judges s found.faults (Ok tt) → AreFine s found.sources
sources_fine s text found k j = k.2.fine (j k.0 found.sources k.2).1

pub read_short : (s : Attributes) (text : Text) (found : Found) → length s ≤ 256 → Scanned s text (Some found) → found.faults.some ≡ true → Judges s found.faults (Ok tt)
    → Reads (Err NoMemory) (event s text)
read_short s text found few k some j =
    (sets_by_place (length s) (λ place. meant s (numbered place) (get_or found.sources place None)), (read_ok s text found _ few k some j refl).0)

-- no fault of a text is want of memory
mapped : {X : Type 0} (g : X → EventFault) (o : Option X) → ((x : X) → g x ≡ NoMemory → ⊥) → option_map g o ≡ Some NoMemory → ⊥
mapped g None each h = cc
mapped g (Some x) each h = each x (let same : g x ≡ NoMemory = cc in same)

either : (a b : Option EventFault) → (a ≡ Some NoMemory → ⊥) → (b ≡ Some NoMemory → ⊥) → option_or a b ≡ Some NoMemory → ⊥
either None b p q h = q h
either (Some fault) b p q h = p h

fault_is_of_text : (s : Attributes) (items : List WrittenItem) → first_event_fault s items ≡ Some NoMemory → ⊥
fault_is_of_text s items =
    either _ _ (mapped (λ n. Attr n) (unknown_in_event s items) (λ n h. cc))
    (either _ _ (mapped (λ a. Dom a) (outside_in_event s items) (λ a h. cc))
    (either _ _ (mapped (λ a. Twice a) (stands_twice (assignments s items)) (λ a h. cc)) (mapped (λ n. Many n) (large_in_event items) (λ n h. cc))))

told : (fault : EventFault) (read : Result Assignments EventFault) → read ≡ Err fault → (fault ≡ NoMemory → ⊥) → Reads (Err fault) read
told Bad read h other = h
told (Attr name) read h other = h
told (Dom a) read h other = h
told (Twice a) read h other = h
told (Many n) read h other = h
told NoMemory read h other = absurd (other refl)

-- a text with a fault
pub reads_fault : (s : Attributes) (text : Text) (found : Found) (fault : EventFault) → Scanned s text (Some found) → found.faults.some ≡ true → Judges s found.faults (Err fault)
    → Reads (Err fault) (event s text)
reads_fault s text found fault k some j =
    told fault (event s text) (read_fault s text found fault k some j)
    (λ e. fault_is_of_text s k.0 (j k.0 found.sources k.2 ∙ ap (λ (f : EventFault). Some f) e))
