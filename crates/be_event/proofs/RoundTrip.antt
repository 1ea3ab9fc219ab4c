-- Reading the canonical text of an event gives it back.
use Rattle.std.proofs.Common.{◌≡◌, ◌⊎◌, inl, inr, ℕ, ℤ, zero, suc, ◌<◌, ◌≤◌, ◌==◌, ltb, true, false, cond, nat_lt, List, [], ◌∷◌, ◌++◌, length, map, All, Option, Some, None, option_and_then, Ok, codes, refl, sym, ap, subst, ◌∙◌, arith, append_assoc}
use Rattle.std.specs.List.{list_all, flat_map}
use Rattle.std.specs.Option.{option_map_or}
use Rattle.std.proofs.lemmas.Bool.{and_parts, and_from}
use Rattle.std.proofs.lemmas.Bool.Decides.{nat_tests}
use Rattle.std.proofs.lemmas.List.{length-map}
use Rattle.std.proofs.lemmas.List.Elements.{All-head, All-tail, All-nil, All-cons}
use Rattle.be_base.specs.Text.{Text, IsName, IsWord, is_word_byte}
use Rattle.be_base.specs.Tokens.{Lexeme, word, equal, tokens}
use Rattle.be_base.specs.Sets.{is_filled}
use Rattle.be_base.specs.declared.names.AttrNo.{AttrNo}
use Rattle.be_base.proofs.Joined.{IsWord-from_name, word_then, word_alone, space_then, equal_then}
use Rattle.be_base.proofs.SetTokens.{AreWords, Ends, set_then}
use Rattle.be_model.specs.Domains.{Range}
use Rattle.be_model.specs.Forms.{AreValues, IsEvent, attrs_rise}
use Rattle.be_model.specs.Lies.{lies_in, item_lies, event_lies}
use Rattle.be_model.specs.Matching.{Assignments, attrs_of, values_of}
use Rattle.be_model.specs.Schemas.{Attributes, IsSchema, numbered, attribute_named, range_of, is_attr}
use Rattle.be_model.specs.SetTexts.{has_outside, meant_values}
use Rattle.be_model.specs.Texts.{value_text_at, name_at, NamesAreNames}
use Rattle.be_model.proofs.InSchema.{range_below}
use Rattle.be_model.proofs.TextsBack.{inside_back, meant_back, are_back, name_back, is_attr-name, are_spelled}
use Rattle.be_event.specs.Grammar.{WrittenValues, single, set, WrittenItem, item_of, item_words, given_tokens, item_tokens, event_tokens, are_written, items_written}
use Rattle.be_event.specs.Events.{is_large_item, large_in_event, unknown_in_event, outside_in_event, assignment, assignments, again_after, by_attribute, first_event_fault, event_or_fault, event_meant, event}
use Rattle.be_event.specs.Writing.{given_text, item_text, event_text, IsSpelled, TextsAreRead}
use Rattle.be_event.proofs.Grammar.{written-event_tokens}

-- an item as its text writes it
abbrev given_as : (ℤ → Text) → List ℤ → WrittenValues
given_as value (v ∷ []) = single (value v)
given_as value vs = set (map value vs)

abbrev written_as : Attributes → AttrNo × List ℤ → WrittenItem
written_as s item = item_of (name_at s item.0) (given_as (value_text_at s item.0) item.1)

given_words : (value : ℤ → Text) (vs : List ℤ) → item_words (given_as value vs) ≡ map value vs
given_words value [] = refl
given_words value (v ∷ []) = refl
given_words value (v ∷ w ∷ vs) = refl

given_lexed : (value : ℤ → Text) (vs : List ℤ) (rest : Text) (ts : List Lexeme) → AreValues vs → AreWords value vs → Ends rest → tokens rest ≡ Some ts
    → tokens (given_text value vs ++ rest) ≡ Some (given_tokens (given_as value vs) ++ ts)
given_lexed value [] rest ts form words ends e = absurd (omega (arith, form.some))
given_lexed value (v ∷ []) rest ts form words ends e = word_then (value v) rest ts (All-head (λ x. IsWord (value x)) v [] words) ends e
given_lexed value (v ∷ w ∷ vs) rest ts form words ends e = set_then value v (w ∷ vs) rest ts words e

in_parts : (name given rest : Text) → (name ++ codes "=" ++ given) ++ rest ≡ name ++ (61 ∷ (given ++ rest))
in_parts name given rest = simp append_assoc

item_lexed : (s : Attributes) (item : AttrNo × List ℤ) (rest : Text) (ts : List Lexeme) → AreValues item.1 → IsSpelled s item → Ends rest → tokens rest ≡ Some ts
    → tokens (item_text s item ++ rest) ≡ Some (word (name_at s item.0) ∷ equal ∷ (given_tokens (given_as (value_text_at s item.0) item.1) ++ ts))
unfolding is_word_byte
item_lexed s item rest ts form p ends e =
    let value = value_text_at s item.0 in
    let given = given_text value item.1 in
    let after = given_tokens (given_as value item.1) ++ ts in
    ap tokens (in_parts (name_at s item.0) given rest)
    ∙ word_then (name_at s item.0) (61 ∷ (given ++ rest)) (equal ∷ after) (IsWord-from_name (name_at s item.0) p.0) refl
    (equal_then (given ++ rest) after (given_lexed value item.1 rest ts form p.1 ends e))

abbrev AreSets : Assignments → Type 0
AreSets e = All (λ (item : AttrNo × List ℤ). AreValues item.1) e

sets_head : (item : AttrNo × List ℤ) (items : Assignments) → AreSets (item ∷ items) → AreValues item.1
sets_head item items h = All-head (λ (i : AttrNo × List ℤ). AreValues i.1) item items h

sets_tail : (item : AttrNo × List ℤ) (items : Assignments) → AreSets (item ∷ items) → AreSets items
sets_tail item items h = All-tail (λ (i : AttrNo × List ℤ). AreValues i.1) item items h

items_lexed : (s : Attributes) (item : AttrNo × List ℤ) (items : Assignments) → AreSets (item ∷ items) → IsSpelled s item → All (IsSpelled s) items
    → tokens (item_text s item ++ flat_map (λ i. codes " " ++ item_text s i) items) ≡ Some (item_tokens (map (written_as s) (item ∷ items)))
unfolding is_word_byte
items_lexed s item [] sets p ps = item_lexed s item [] [] (sets_head item [] sets) p refl refl
items_lexed s item (next ∷ items) sets p ps =
    let after = items_lexed s next items (sets_tail item (next ∷ items) sets) (All-head (IsSpelled s) next items ps) (All-tail (IsSpelled s) next items ps) in
    let spaced = space_then (item_text s next ++ flat_map (λ i. codes " " ++ item_text s i) items) (item_tokens (map (written_as s) (next ∷ items))) after in
    item_lexed s item (32 ∷ (item_text s next ++ flat_map (λ i. codes " " ++ item_text s i) items)) (item_tokens (map (written_as s) (next ∷ items))) (sets_head item (next ∷ items) sets) p refl spaced

hyphen : IsWord (codes "-")
unfolding is_word_byte
hyphen = record { some = omega arith; bytes = refl }

-- the tokens of a canonical text
event_lexed : (s : Attributes) (e : Assignments) → AreSets e → All (IsSpelled s) e → tokens (event_text s e) ≡ Some (event_tokens (map (written_as s) e))
event_lexed s [] sets ps = word_alone (codes "-") hyphen
event_lexed s (item ∷ items) sets ps = items_lexed s item items sets (All-head (IsSpelled s) item items ps) (All-tail (IsSpelled s) item items ps)

-- what is known of each item of an event that lies in a schema
record IsSettled (s : Attributes) (item : AttrNo × List ℤ) : Type 0 where
  form : AreValues item.1
  name : is_attr (name_at s item.0) ≡ true
  found : attribute_named s (name_at s item.0) ≡ Some item.0
  inside : has_outside s item.0 (item_words (given_as (value_text_at s item.0) item.1)) ≡ false
  meant : meant_values s item.0 (item_words (given_as (value_text_at s item.0) item.1)) ≡ item.1

settled : (s : Attributes) (item : AttrNo × List ℤ) → IsSchema s → AreValues item.1 → item_lies s item ≡ true → IsName (name_at s item.0) → IsSettled s item
settled s item f form lies named =
    let words = given_words (value_text_at s item.0) item.1 in
    let back = are_back s item.0 item.1 f lies in
    record {
      form = form;
      name = is_attr-name s item.0 item.1 f lies named;
      found = name_back s item.0 item.1 f lies;
      inside = ap (has_outside s item.0) words ∙ inside_back s item.0 item.1 back;
      meant = ap (meant_values s item.0) words ∙ meant_back s item.0 item.1 form back;
    }

all_settled : (s : Attributes) (e : Assignments) → IsSchema s → AreSets e → event_lies s e ≡ true → All (IsSpelled s) e → All (IsSettled s) e
all_settled s [] f sets lies ps = All-nil (IsSettled s)
all_settled s (item ∷ items) f sets lies ps =
    let parts = and_parts (item_lies s item) (event_lies s items) lies in
    All-cons (IsSettled s) item items
    (settled s item f (sets_head item items sets) parts.0 (All-head (IsSpelled s) item items ps).0)
    (all_settled s items f (sets_tail item items sets) parts.1 (All-tail (IsSpelled s) item items ps))

-- the schema assigns what was written
assigned_back : (s : Attributes) (item : AttrNo × List ℤ) → IsSettled s item → assignment s (written_as s item) ≡ Some item
assigned_back s item p = rw (p.found, p.inside) (ap (λ vs. Some (item.0, vs)) p.meant)

assignments_back : (s : Attributes) (e : Assignments) → All (IsSettled s) e → assignments s (map (written_as s) e) ≡ e
assignments_back s [] ps = refl
assignments_back s (item ∷ items) ps =
    rw (assigned_back s item (All-head (IsSettled s) item items ps)) (ap (λ (x : Assignments). item ∷ x) (assignments_back s items (All-tail (IsSettled s) item items ps)))

all_known : (s : Attributes) (e : Assignments) → All (IsSettled s) e → unknown_in_event s (map (written_as s) e) ≡ None
all_known s [] ps = refl
all_known s (item ∷ items) ps = rw (All-head (IsSettled s) item items ps).found (all_known s items (All-tail (IsSettled s) item items ps))

none_outside : (s : Attributes) (e : Assignments) → All (IsSettled s) e → outside_in_event s (map (written_as s) e) ≡ None
none_outside s [] ps = refl
none_outside s (item ∷ items) ps =
    let p = All-head (IsSettled s) item items ps in rw (p.found, p.inside) (none_outside s items (All-tail (IsSettled s) item items ps))

at_most : (n : ℕ) → n ≤ 64 → nat_lt 64 n ≡ false
at_most n h = grind (arith, nat_tests)

few_words : (s : Attributes) (item : AttrNo × List ℤ) → AreValues item.1 → is_large_item (written_as s item) ≡ false
few_words s item form =
    let value = value_text_at s item.0 in
    at_most (length (item_words (given_as value item.1)))
    (subst (λ (n : ℕ). n ≤ 64) (sym (ap length (given_words value item.1) ∙ length-map item.1 value)) form.few)

none_large : (s : Attributes) (e : Assignments) → AreSets e → large_in_event (map (written_as s) e) ≡ None
none_large s [] sets = refl
none_large s (item ∷ items) sets = rw (few_words s item (sets_head item items sets)) (none_large s items (sets_tail item items sets))

below_next : (b : AttrNo × List ℤ) (bs : Assignments) (i : AttrNo × List ℤ) (is : Assignments) → attrs_rise (attrs_of (b ∷ bs ++ i ∷ is)) ≡ true → b.0.0 < i.0.0
below_next b [] i is h = let k = (and_parts (ltb b.0.0 i.0.0) (attrs_rise (attrs_of (i ∷ is))) h).0 in grind (arith, nat_tests)
below_next b (c ∷ cs) i is h =
    let k = (and_parts (ltb b.0.0 c.0.0) (attrs_rise (attrs_of (c ∷ cs ++ i ∷ is))) h).0 in
    let m = below_next c cs i is ((and_parts (ltb b.0.0 c.0.0) (attrs_rise (attrs_of (c ∷ cs ++ i ∷ is))) h).1) in grind (arith, nat_tests)

rest_rises : (b : AttrNo × List ℤ) (items : Assignments) → attrs_rise (attrs_of (b ∷ items)) ≡ true → attrs_rise (attrs_of items) ≡ true
rest_rises b [] h = refl
rest_rises b (c ∷ cs) h = (and_parts (ltb b.0.0 c.0.0) (attrs_rise (attrs_of (c ∷ cs))) h).1

apart : (a b : ℕ) → a < b → (a == b) ≡ false
apart a b h = grind (arith, nat_tests)

no_value_before : (before : Assignments) (i : AttrNo × List ℤ) (is : Assignments) → attrs_rise (attrs_of (before ++ i ∷ is)) ≡ true → values_of before i.0 ≡ None
no_value_before [] i is h = refl
no_value_before (b ∷ bs) i is h = rw (apart b.0.0 i.0.0 (below_next b bs i is h)) (no_value_before bs i is (rest_rises b (bs ++ i ∷ is) h))

never_again : (before items : Assignments) → attrs_rise (attrs_of (before ++ items)) ≡ true → again_after before items ≡ None
never_again before [] h = refl
never_again before (i ∷ is) h =
    rw (no_value_before before i is h) (never_again (before ++ i ∷ []) is (ap (λ (x : Assignments). attrs_rise (attrs_of x)) (append_assoc before (i ∷ []) is) ∙ h))

-- the items of attributes below n, at the front
abbrev front : ℕ → Assignments → Assignments
front n [] = []
front n (i ∷ is) = cond (ltb i.0.0 n) (i ∷ front n is) []

later_none : (n : ℕ) (i : AttrNo × List ℤ) (is : Assignments) → attrs_rise (attrs_of (i ∷ is)) ≡ true → n ≤ i.0.0 → (values_of is (numbered n) ≡ None) × (front (suc n) is ≡ [])
later_none n i [] h k = (refl, refl)
later_none n i (j ∷ js) h k =
    let first = (and_parts (ltb i.0.0 j.0.0) (attrs_rise (attrs_of (j ∷ js))) h).0 in
    let more : n < j.0.0 = grind (arith, nat_tests) in
    let here : (j.0.0 == n) ≡ false = grind (arith, nat_tests) in
    let out : ltb j.0.0 (suc n) ≡ false = grind (arith, nat_tests) in
    let rest = later_none n j js (rest_rises i (j ∷ js) h) (omega arith) in
    (rw here rest.0, rw out refl)

kept : (o : Option (List ℤ)) (i : AttrNo × List ℤ) (items : Assignments) (n : ℕ)
    → i ∷ option_map_or (λ v. items ++ (numbered n, v) ∷ []) o items ≡ option_map_or (λ v. (i ∷ items) ++ (numbered n, v) ∷ []) o (i ∷ items)
kept None i items n = refl
kept (Some v) i items n = refl

compared : (a n : ℕ) → (a < n) ⊎ ((a ≡ n) ⊎ (n < a))
compared a n = grind (arith, nat_tests)

front_more : (n : ℕ) (e : Assignments) → attrs_rise (attrs_of e) ≡ true → front (suc n) e ≡ option_map_or (λ v. front n e ++ (numbered n, v) ∷ []) (values_of e (numbered n)) (front n e)
front_more n [] h = refl
front_more n (i ∷ is) h = at (compared i.0.0 n) (front_more n is (rest_rises i is h))
  where
    at : (i.0.0 < n) ⊎ ((i.0.0 ≡ n) ⊎ (n < i.0.0)) → front (suc n) is ≡ option_map_or (λ v. front n is ++ (numbered n, v) ∷ []) (values_of is (numbered n)) (front n is)
        → front (suc n) (i ∷ is) ≡ option_map_or (λ v. front n (i ∷ is) ++ (numbered n, v) ∷ []) (values_of (i ∷ is) (numbered n)) (front n (i ∷ is))
    at (inl k) more =
        let here : ltb i.0.0 (suc n) ≡ true = grind (arith, nat_tests) in
        let before : ltb i.0.0 n ≡ true = grind (arith, nat_tests) in
        let other : (i.0.0 == n) ≡ false = grind (arith, nat_tests) in
        rw (here, before, other) (ap (λ (x : Assignments). i ∷ x) more ∙ kept (values_of is (numbered n)) i (front n is) n)
    at (inr (inl k)) more =
        let here : ltb i.0.0 (suc n) ≡ true = grind (arith, nat_tests) in
        let before : ltb i.0.0 n ≡ false = grind (arith, nat_tests) in
        let same : (i.0.0 == n) ≡ true = grind (arith, nat_tests) in
        let rest = later_none n i is h (omega arith) in
        let attr : numbered n ≡ i.0 = ap numbered (sym k) in
        rw (here, before, same, rest.1) (ap (λ (a : AttrNo). (a, i.1) ∷ []) (sym attr))
    at (inr (inr k)) more =
        let here : ltb i.0.0 (suc n) ≡ false = grind (arith, nat_tests) in
        let before : ltb i.0.0 n ≡ false = grind (arith, nat_tests) in
        let other : (i.0.0 == n) ≡ false = grind (arith, nat_tests) in
        let rest = later_none n i is h (omega arith) in
        rw (here, before, other, rest.0) refl

nothing_below : (e : Assignments) → front zero e ≡ []
nothing_below [] = refl
nothing_below (i ∷ is) = let k : ltb i.0.0 zero ≡ false = grind (arith, nat_tests) in rw k refl

by_attribute-front : (n : ℕ) (e : Assignments) → attrs_rise (attrs_of e) ≡ true → by_attribute n e ≡ front n e
by_attribute-front zero e h = sym (nothing_below e)
by_attribute-front (suc n) e h =
    ap (λ (x : Assignments). option_map_or (λ v. x ++ (numbered n, v) ∷ []) (values_of e (numbered n)) x) (by_attribute-front n e h) ∙ sym (front_more n e h)

front_all : (n : ℕ) (e : Assignments) → list_all (λ (i : AttrNo × List ℤ). ltb i.0.0 n) e ≡ true → front n e ≡ e
front_all n [] h = refl
front_all n (i ∷ is) h =
    rw (and_parts (ltb i.0.0 n) (list_all (λ (j : AttrNo × List ℤ). ltb j.0.0 n) is) h).0 (ap (λ (x : Assignments). i ∷ x) (front_all n is (and_parts (ltb i.0.0 n) (list_all (λ (j : AttrNo × List ℤ). ltb j.0.0 n) is) h).1))

range_of_item : (s : Attributes) (i : AttrNo × List ℤ) → item_lies s i ≡ true → (r : Range) × (range_of s i.0 ≡ Some r)
range_of_item s i h = by_option (range_of s i.0) refl h
  where
    by_option : (o : Option Range) → range_of s i.0 ≡ o → lies_in o i.1 ≡ true → (r : Range) × (range_of s i.0 ≡ Some r)
    by_option None e k = absurd (cc)
    by_option (Some r) e k = (r, e)

all_inside : (s : Attributes) (e : Assignments) → event_lies s e ≡ true → list_all (λ (i : AttrNo × List ℤ). ltb i.0.0 (length s)) e ≡ true
all_inside s [] h = refl
all_inside s (i ∷ is) h =
    let lies = range_of_item s i (and_parts (item_lies s i) (event_lies s is) h).0 in
    let inside = range_below s i.0 lies.0 lies.1 in
    and_from (ltb i.0.0 (length s)) (list_all (λ (j : AttrNo × List ℤ). ltb j.0.0 (length s)) is) (grind (arith, nat_tests)) (all_inside s is (and_parts (item_lies s i) (event_lies s is) h).1)

all_written : (s : Attributes) (e : Assignments) → All (IsSettled s) e → are_written (map (written_as s) e) ≡ true
all_written s [] ps = refl
all_written s (i ∷ is) ps =
    let p = All-head (IsSettled s) i is ps in
    and_from _ _ (and_from _ _ p.name (filled (value_text_at s i.0) i.1 p.form)) (all_written s is (All-tail (IsSettled s) i is ps))
  where
    filled : (value : ℤ → Text) (vs : List ℤ) → AreValues vs → is_filled (item_words (given_as value vs)) ≡ true
    filled value [] form = absurd (omega (arith, form.some))
    filled value (v ∷ []) form = refl
    filled value (v ∷ w ∷ vs) form = refl

-- a text whose items are spelled so is read back
pub spelled_is_read : (s : Attributes) (e : Assignments) → IsSchema s → IsEvent e → event_lies s e ≡ true → All (IsSpelled s) e → event s (event_text s e) ≡ Ok e
spelled_is_read s e f form lies ps =
    let items = map (written_as s) e in
    let k = all_settled s e f form.sets lies ps in
    let back = assignments_back s e k in
    let fault : first_event_fault s items ≡ None = rw (all_known s e k, none_outside s e k, back, never_again [] e form.rising, none_large s e form.sets) refl in
    let same : by_attribute (length s) (assignments s items) ≡ e =
    ap (by_attribute (length s)) back ∙ by_attribute-front (length s) e form.rising ∙ front_all (length s) e (all_inside s e lies) in
    ap (λ o. event_meant s (option_and_then items_written o)) (event_lexed s e form.sets ps)
    ∙ ap (event_meant s) (written-event_tokens items (all_written s e k))
    ∙ ap (event_or_fault (by_attribute (length s) (assignments s items))) fault
    ∙ ap (λ x. Ok x) same

all_spelled : (s : Attributes) (e : Assignments) → IsSchema s → NamesAreNames s → event_lies s e ≡ true → All (IsSpelled s) e
all_spelled s [] f names h = All-nil (IsSpelled s)
all_spelled s (i ∷ is) f names h =
    let parts = and_parts (item_lies s i) (event_lies s is) h in
    All-cons (IsSpelled s) i is (are_spelled s i.0 i.1 f names parts.0) (all_spelled s is f names parts.1)

pub texts_are_read : TextsAreRead
texts_are_read = λ s e f names form lies. spelled_is_read s e f form lies (all_spelled s e f names lies)
