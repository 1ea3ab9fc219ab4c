-- What one more item adds to what is found.
use Rattle.std.proofs.Common.{◌≡◌, ◌≢◌, ℕ, ℤ, ◌<◌, ◌≤◌, ◌==◌, Bool, true, false, cond, nat_lt, List, [], ◌∷◌, ◌++◌, length, get_or, Option, Some, None, option_map, option_and_then, is_some, find, refl, sym, ap, subst, ◌∙◌, arith, append_assoc, if◌then◌else◌}
use Rattle.std.proofs.Math.ListN.{set, replicate}
use Rattle.std.specs.Option.{option_or}
use Rattle.std.proofs.lemmas.Bool.Decides.{nat_tests}
use Rattle.std.proofs.lemmas.List.Folds.{find-append}
use Rattle.std.proofs.lemmas.List.Elements.{filter_map-append}
use Rattle.std.proofs.lemmas.List.{get_or-set_same, get_or-set_other, length-set, append-nil, length-replicate, get_or-replicate}
use Rattle.be_base.specs.Text.{Text}
use Rattle.be_base.specs.Tokens.{Lexeme}
use Rattle.be_base.specs.declared.limits.TheConstants.{SET_VALUES}
use Rattle.be_base.specs.declared.names.AttrNo.{AttrNo}
use Rattle.be_model.specs.Matching.{Assignments, values_of}
use Rattle.be_model.specs.Schemas.{Attributes, numbered, attribute_named}
use Rattle.be_model.specs.SetTexts.{has_outside, some_outside, meant_values, FineValues}
use Rattle.be_event.specs.Grammar.{WrittenValues, WrittenItem, item_of, item_words}
use Rattle.be_event.specs.Events.{is_unknown_item, unknown_in_event, is_outside_item, outside_in_event, is_large_item, large_in_event, assignment, assignments, again_after, stands_twice}
use Rattle.be_event.specs.Scan.{meant, IsFine, IsSource, IsGiven, HoldsAt, AreFine, is_some_item, Finds}
use Rattle.be_event.specs.declared.found.Found.{Found}
use Rattle.be_event.specs.declared.items.Given.{Given}
use Rattle.be_event.specs.declared.items.Source.{Source}
use Rattle.be_event.specs.declared.items.Source.TheVariants.{Value, Set}

or_none : {X : Type 0} (o : Option X) → option_or o None ≡ o
or_none None = refl
or_none (Some x) = refl

-- the first element that passes, with one more
find-push : {X : Type 0} (p : X → Bool) (xs : List X) (x : X) (b : Bool) → p x ≡ b → find p (xs ++ x ∷ []) ≡ option_or (find p xs) (cond b (Some x) None)
find-push p xs x b h = find-append p xs (x ∷ []) ∙ ap (λ c. option_or (find p xs) (cond c (Some x) None)) h

map_or : {X Y : Type 0} (f : X → Y) (o p : Option X) → option_map f (option_or o p) ≡ option_or (option_map f o) (option_map f p)
map_or f None p = refl
map_or f (Some x) p = refl

-- what the first element that passes says; it says something
then_or : {X Y : Type 0} (f : X → Option Y) (p : X → Bool) (xs : List X) (q : Option X) → ((x : X) → p x ≡ true → is_some (f x) ≡ true)
    → option_and_then f (option_or (find p xs) q) ≡ option_or (option_and_then f (find p xs)) (option_and_then f q)
then_or f p [] q h = refl
then_or {X = X} {Y = Y} f p (x ∷ xs) q h = at (p x) refl (then_or f p xs q h)
  where
    said : (o : Option Y) (r : Option Y) → is_some o ≡ true → o ≡ option_or o r
    said (Some y) r k = refl
    said None r k = absurd (cc)

    at : (b : Bool) → p x ≡ b → option_and_then f (option_or (find p xs) q) ≡ option_or (option_and_then f (find p xs)) (option_and_then f q)
        → option_and_then f (option_or (cond b (Some x) (find p xs)) q) ≡ option_or (option_and_then f (cond b (Some x) (find p xs))) (option_and_then f q)
    at true e rest = said (f x) (option_and_then f q) (h x e)
    at false e rest = rest

-- what an item that stands last adds to the first unknown attribute and to the first value outside its domain
unknown-push : (s : Attributes) (items : List WrittenItem) (item : WrittenItem) (b : Bool) → is_unknown_item s item ≡ b
    → unknown_in_event s (items ++ item ∷ []) ≡ option_or (unknown_in_event s items) (option_map (λ (i : WrittenItem). i.attr) (cond b (Some item) None))
unknown-push s items item b h =
    ap (λ o. option_map (λ (i : WrittenItem). i.attr) o) (find-push (is_unknown_item s) items item b h)
    ∙ map_or (λ (i : WrittenItem). i.attr) (find (is_unknown_item s) items) (cond b (Some item) None)

-- the number, where it is more than a set may have
abbrev pub over : ℕ → Option ℕ
over n = if nat_lt SET_VALUES n then Some n else None

many_if : (item : WrittenItem) (b : Bool) (n : ℕ) → length (item_words item.values) ≡ n
    → option_map (λ (i : WrittenItem). length (item_words i.values)) (cond b (Some item) None) ≡ (if b then Some n else None)
many_if item true n e = ap (λ (m : ℕ). Some m) e
many_if item false n e = refl

many-push : (items : List WrittenItem) (item : WrittenItem) → large_in_event (items ++ item ∷ []) ≡ option_or (large_in_event items) (over (length (item_words item.values)))
many-push items item =
    ap (λ o. option_map (λ (i : WrittenItem). length (item_words i.values)) o) (find-push is_large_item items item (is_large_item item) refl)
    ∙ map_or (λ (i : WrittenItem). length (item_words i.values)) (find is_large_item items) (cond (is_large_item item) (Some item) None)
    ∙ ap (option_or (large_in_event items)) (many_if item (is_large_item item) (length (item_words item.values)) refl)

outside_named : (o : Option AttrNo) (s : Attributes) (words : List Text) → some_outside s o words ≡ true → is_some o ≡ true
outside_named None s words h = absurd (cc)
outside_named (Some a) s words h = refl

outside-push : (s : Attributes) (items : List WrittenItem) (item : WrittenItem) (b : Bool) → is_outside_item s item ≡ b
    → outside_in_event s (items ++ item ∷ []) ≡ option_or (outside_in_event s items) (option_and_then (λ (i : WrittenItem). attribute_named s i.attr) (cond b (Some item) None))
outside-push s items item b h =
    ap (λ o. option_and_then (λ (i : WrittenItem). attribute_named s i.attr) o) (find-push (is_outside_item s) items item b h)
    ∙ then_or (λ (i : WrittenItem). attribute_named s i.attr) (is_outside_item s) items (cond b (Some item) None)
    (λ i k. outside_named (attribute_named s i.attr) s (item_words i.values) k)

-- what an item that stands last adds to the sets
assignments-none : (s : Attributes) (items : List WrittenItem) (item : WrittenItem) → assignment s item ≡ None → assignments s (items ++ item ∷ []) ≡ assignments s items
assignments-none s items item h =
    filter_map-append (assignment s) items (item ∷ []) ∙ rw h (append-nil (assignments s items))

assignments-some : (s : Attributes) (items : List WrittenItem) (item : WrittenItem) (v : AttrNo × List ℤ) → assignment s item ≡ Some v → assignments s (items ++ item ∷ []) ≡ assignments s items ++ v ∷ []
assignments-some s items item v h = filter_map-append (assignment s) items (item ∷ []) ∙ rw h refl

some_last : (items : List WrittenItem) (item : WrittenItem) → is_some_item (items ++ item ∷ []) ≡ true
some_last [] item = refl
some_last (i ∷ items) item = refl

again_step : (b c : Bool) (a d : AttrNo) (r q : Option AttrNo) → r ≡ option_or q (cond c (Some d) None) → cond b (Some a) r ≡ option_or (cond b (Some a) q) (cond c (Some d) None)
again_step true c a d r q h = refl
again_step false c a d r q h = h

-- the first attribute that stands a second time, with one more item
again-push : (before items : Assignments) (item : AttrNo × List ℤ)
    → again_after before (items ++ item ∷ []) ≡ option_or (again_after before items) (cond (is_some (values_of (before ++ items) item.0)) (Some item.0) None)
again-push before [] item = rw (append-nil before) refl
again-push before (x ∷ items) item =
    again_step (is_some (values_of before x.0)) (is_some (values_of (before ++ x ∷ items) item.0)) x.0 item.0 _ (again_after (before ++ x ∷ []) items)
    (again-push (before ++ x ∷ []) items item ∙ rw (append_assoc before (x ∷ []) items) refl)

values_step : (b c : Bool) (v w : List ℤ) (r q : Option (List ℤ)) → r ≡ option_or q (cond c (Some w) None) → cond b (Some v) r ≡ option_or (cond b (Some v) q) (cond c (Some w) None)
values_step true c v w r q h = refl
values_step false c v w r q h = h

-- the set of an attribute, with one more item
pub values_of-push : (items : Assignments) (item : AttrNo × List ℤ) (a : AttrNo) → values_of (items ++ item ∷ []) a ≡ option_or (values_of items a) (cond (item.0.0 == a.0) (Some item.1) None)
values_of-push [] item a = refl
values_of-push (x ∷ items) item a = values_step (x.0.0 == a.0) (item.0.0 == a.0) x.1 item.1 _ (values_of items a) (values_of-push items item a)

or_some : {X : Type 0} (o p : Option X) → is_some o ≡ true → option_or o p ≡ o
or_some None p h = absurd (cc)
or_some (Some x) p h = refl

-- the attribute had a set already
had_values : (items : Assignments) (item : AttrNo × List ℤ) (place : ℕ) → is_some (values_of items item.0) ≡ true
    → values_of (items ++ item ∷ []) (numbered place) ≡ values_of items (numbered place)
had_values items item place h = values_of-push items item (numbered place) ∙ at (item.0.0 == place) refl
  where
    at : (b : Bool) → (item.0.0 == place) ≡ b → option_or (values_of items (numbered place)) (cond b (Some item.1) None) ≡ values_of items (numbered place)
    at false e = or_none (values_of items (numbered place))
    at true e =
        let k : item.0.0 ≡ place = grind (arith, nat_tests) in
        or_some (values_of items (numbered place)) (Some item.1) (ap (λ (n : ℕ). is_some (values_of items (numbered n))) (sym k) ∙ h)

-- the set of another attribute stays
other_values : (items : Assignments) (item : AttrNo × List ℤ) (place : ℕ) → (item.0.0 == place) ≡ false → values_of (items ++ item ∷ []) (numbered place) ≡ values_of items (numbered place)
other_values items item place e =
    values_of-push items item (numbered place) ∙ ap (λ b. option_or (values_of items (numbered place)) (cond b (Some item.1) None)) e ∙ or_none (values_of items (numbered place))

-- the set that the last item gives, where its attribute had none
last_values : (items : Assignments) (item : AttrNo × List ℤ) → values_of items item.0 ≡ None → values_of (items ++ item ∷ []) item.0 ≡ Some item.1
last_values items item none =
    values_of-push items item item.0 ∙ rw none (ap (λ b. cond b (Some item.1) None) (let same : (item.0.0 == item.0.0) ≡ true = grind (arith, nat_tests) in same))

-- what a source means, where these words stand there
source_means : (s : Attributes) (a : AttrNo) (source : Source) (words : List Text) → IsSource s a source words → meant s a (Some source) ≡ Some (meant_values s a words)
source_means s a (Value v) words h = ap (λ vs. Some vs) (sym h)
source_means s a (Set text) words h = ap (option_map (λ (r : List Text × List Lexeme). meant_values s a r.0)) h.1

source_fine : (s : Attributes) (a : AttrNo) (source : Source) (words : List Text) → IsSource s a source words → has_outside s a words ≡ false → length words ≤ 64 → IsFine s a (Some source)
source_fine s a (Value v) words h inside few = tt
source_fine s a (Set text) words h inside few = subst (FineValues s a 0) (sym h.1) (inside, omega (arith, few))

same_holds : (s : Attributes) (a : AttrNo) (o p : Option Source) (vs ws : Option (List ℤ)) → p ≡ o → ws ≡ vs → HoldsAt s a o vs → HoldsAt s a p ws
same_holds s a o p vs ws e f h = (ap is_some e ∙ h.0 ∙ sym (ap is_some f), ap (meant s a) e ∙ h.1 ∙ sym f)

-- a source at a place of its own
new_source : (s : Attributes) (sources : List (Option Source)) (items : Assignments) (a : AttrNo) (source : Source) (vs : List ℤ) (place : ℕ)
    → length sources ≡ 256 → a.0 < 256 → values_of items a ≡ None → meant s a (Some source) ≡ Some vs
    → HoldsAt s (numbered place) (get_or sources place None) (values_of items (numbered place))
    → HoldsAt s (numbered place) (get_or (set sources a.0 (Some source)) place None) (values_of (items ++ (a, vs) ∷ []) (numbered place))
new_source s sources items a source vs place len within none means h = at (a.0 == place) refl
  where
    at : (b : Bool) → (a.0 == place) ≡ b → HoldsAt s (numbered place) (get_or (set sources a.0 (Some source)) place None) (values_of (items ++ (a, vs) ∷ []) (numbered place))
    at false e =
        let k : place ≢ a.0 = grind (arith, nat_tests) in
        same_holds s (numbered place) (get_or sources place None) _ (values_of items (numbered place)) _
        (get_or-set_other sources a.0 place (Some source) None k) (other_values items (a, vs) place e) h
    at true e =
        let k : a.0 ≡ place = grind (arith, nat_tests) in
        subst (λ (n : ℕ). HoldsAt s (numbered n) (get_or (set sources a.0 (Some source)) n None) (values_of (items ++ (a, vs) ∷ []) (numbered n))) k
        (same_holds s a (Some source) _ (Some vs) _ (get_or-set_same sources a.0 (Some source) None (omega arith)) (last_values items (a, vs) none) (refl, means))

new_fine : (s : Attributes) (sources : List (Option Source)) (a : AttrNo) (source : Source) (place : ℕ) → length sources ≡ 256 → a.0 < 256 → IsFine s a (Some source)
    → IsFine s (numbered place) (get_or sources place None) → IsFine s (numbered place) (get_or (set sources a.0 (Some source)) place None)
new_fine s sources a source place len within fine h = at (a.0 == place) refl
  where
    at : (b : Bool) → (a.0 == place) ≡ b → IsFine s (numbered place) (get_or (set sources a.0 (Some source)) place None)
    at false e =
        let k : place ≢ a.0 = grind (arith, nat_tests) in
        subst (IsFine s (numbered place)) (sym (get_or-set_other sources a.0 place (Some source) None k)) h
    at true e =
        let k : a.0 ≡ place = grind (arith, nat_tests) in
        subst (λ (n : ℕ). IsFine s (numbered n) (get_or (set sources a.0 (Some source)) n None)) k
        (subst (IsFine s a) (sym (get_or-set_same sources a.0 (Some source) None (omega arith))) fine)

none_of_both : (x y : Option ℕ) → option_or x y ≡ None → (x ≡ None) × (y ≡ None)
none_of_both None y h = (refl, h)
none_of_both (Some x) y h = absurd (cc)

few_of : (n : ℕ) → nat_lt 64 n ≡ false → n ≤ 64
few_of n h = grind (arith, nat_tests)

few_if : (n : ℕ) (b : Bool) → nat_lt SET_VALUES n ≡ b → (if b then Some n else None) ≡ None → n ≤ 64
few_if n true e h = absurd (cc)
few_if n false e h = few_of n e

not_over : (n : ℕ) → over n ≡ None → n ≤ 64
not_over n h = few_if n (nat_lt SET_VALUES n) refl h

-- what stays, where the table does
kept_fine : (s : Attributes) (items : List WrittenItem) (found found' : Found) (n : ℕ) → found'.faults.many ≡ option_or found.faults.many (over n) → found'.sources ≡ found.sources → Finds s items found
    → found'.faults.many ≡ None → AreFine s found'.sources
kept_fine s items found found' n m v f none =
    subst (AreFine s) (sym v) (f.fine (none_of_both found.faults.many (over n) (sym m ∙ none)).0)

many_is : (s : Attributes) (items : List WrittenItem) (item : WrittenItem) (found found' : Found) (n : ℕ) → found'.faults.many ≡ option_or found.faults.many (over n) → n ≡ length (item_words item.values) → Finds s items found
    → found'.faults.many ≡ large_in_event (items ++ item ∷ [])
many_is s items item found found' n m e f =
    m ∙ ap (λ x. option_or x (over n)) f.many ∙ ap (λ (k : ℕ). option_or (large_in_event items) (over k)) e ∙ sym (many-push items item)

-- an item whose attribute the schema doesn't have
pub finds_unknown : (s : Attributes) (items : List WrittenItem) (name : Text) (values : WrittenValues) (given : Given) (found found' : Found) → None ≡ attribute_named s name → IsGiven s None given values
    → found'.faults.some ≡ true → found'.faults.many ≡ option_or found.faults.many (over given.met.count)
    → found'.faults.unknown ≡ option_or found.faults.unknown (Some name) → found'.faults.outside ≡ found.faults.outside → found'.faults.twice ≡ found.faults.twice → found'.sources ≡ found.sources
    → Finds s items found → Finds s (items ++ item_of name values ∷ []) found'
finds_unknown s items name values given found found' none g some m u o t v f =
    let item = item_of name values in
    let named = sym none in
    let same = assignments-none s items item (rw named refl) in
    record {
      some = some ∙ sym (some_last items item);
      unknown = u ∙ ap (λ x. option_or x (Some name)) f.unknown ∙ sym (unknown-push s items item true (rw named refl));
      outside = o ∙ f.outside ∙ sym (outside-push s items item false (rw named refl) ∙ or_none (outside_in_event s items));
      twice = t ∙ f.twice ∙ ap stands_twice (sym same);
      many = many_is s items item found found' given.met.count m g.count f;
      holds = rw (v, same) f.holds;
      fine = kept_fine s items found found' given.met.count m v f;
    }

-- an item of which a value is outside the domain
pub finds_outside : (s : Attributes) (items : List WrittenItem) (name : Text) (values : WrittenValues) (a : AttrNo) (given : Given) (found found' : Found)
    → Some a ≡ attribute_named s name → IsGiven s (Some a) given values → given.met.is_outside ≡ true
    → found'.faults.some ≡ true → found'.faults.many ≡ option_or found.faults.many (over given.met.count)
    → found'.faults.unknown ≡ found.faults.unknown → found'.faults.outside ≡ option_or found.faults.outside (Some a) → found'.faults.twice ≡ found.faults.twice → found'.sources ≡ found.sources
    → Finds s items found → Finds s (items ++ item_of name values ∷ []) found'
finds_outside s items name values a given found found' there g out some m u o t v f =
    let item = item_of name values in
    let named = sym there in
    let outside : has_outside s a (item_words values) ≡ true = sym g.outside ∙ out in
    let same = assignments-none s items item (rw (named, outside) refl) in
    record {
      some = some ∙ sym (some_last items item);
      unknown = u ∙ f.unknown ∙ sym (unknown-push s items item false (rw named refl) ∙ or_none (unknown_in_event s items));
      outside = o ∙ ap (λ x. option_or x (Some a)) f.outside ∙ ap (λ x. option_or (outside_in_event s items) x) (sym named)
          ∙ sym (outside-push s items item true (rw (named, outside) refl));
      twice = t ∙ f.twice ∙ ap stands_twice (sym same);
      many = many_is s items item found found' given.met.count m g.count f;
      holds = rw (v, same) f.holds;
      fine = kept_fine s items found found' given.met.count m v f;
    }

-- an item whose attribute had a set already
pub finds_again : (s : Attributes) (items : List WrittenItem) (name : Text) (values : WrittenValues) (a : AttrNo) (given : Given) (old : Source) (found found' : Found)
    → Some a ≡ attribute_named s name → a.0 < 256 → IsGiven s (Some a) given values → given.met.is_outside ≡ false → get_or found.sources a.0 None ≡ Some old
    → found'.faults.some ≡ true → found'.faults.many ≡ option_or found.faults.many (over given.met.count)
    → found'.faults.unknown ≡ found.faults.unknown → found'.faults.outside ≡ found.faults.outside → found'.faults.twice ≡ option_or found.faults.twice (Some a) → found'.sources ≡ found.sources
    → Finds s items found → Finds s (items ++ item_of name values ∷ []) found'
finds_again s items name values a given old found found' there few g inside had some m u o t v f =
    let item = item_of name values in
    let named = sym there in
    let none : has_outside s a (item_words values) ≡ false = sym g.outside ∙ inside in
    let vs = meant_values s a (item_words values) in
    let more = assignments-some s items item (a, vs) (rw (named, none) refl) in
    let before : is_some (values_of (assignments s items) a) ≡ true = sym (f.holds.1 a.0 few).0 ∙ ap is_some had in
    record {
      some = some ∙ sym (some_last items item);
      unknown = u ∙ f.unknown ∙ sym (unknown-push s items item false (rw named refl) ∙ or_none (unknown_in_event s items));
      outside = o ∙ f.outside ∙ sym (outside-push s items item false (rw (named, none) refl) ∙ or_none (outside_in_event s items));
      twice = t ∙ ap (λ x. option_or x (Some a)) f.twice ∙ sym (again-push [] (assignments s items) (a, vs) ∙ rw before refl) ∙ ap stands_twice (sym more);
      many = many_is s items item found found' given.met.count m g.count f;
      holds = (
        ap length v ∙ f.holds.0,
        λ place k. same_holds s (numbered place) (get_or found.sources place None) _ (values_of (assignments s items) (numbered place)) _
            (ap (λ x. get_or x place None) v) (ap (λ (x : Assignments). values_of x (numbered place)) more ∙ had_values (assignments s items) (a, vs) place before) (f.holds.1 place k),
      );
      fine = kept_fine s items found found' given.met.count m v f;
    }

not_some : {X : Type 0} (o : Option X) → is_some o ≡ false → o ≡ None
not_some None h = refl
not_some (Some x) h = absurd (cc)

-- an item whose attribute had none
pub finds_new : (s : Attributes) (items : List WrittenItem) (name : Text) (values : WrittenValues) (a : AttrNo) (given : Given) (found found' : Found)
    → Some a ≡ attribute_named s name → a.0 < 256 → IsGiven s (Some a) given values → given.met.is_outside ≡ false → get_or found.sources a.0 None ≡ None
    → found'.faults.some ≡ true → found'.faults.many ≡ option_or found.faults.many (over given.met.count)
    → found'.faults.unknown ≡ found.faults.unknown → found'.faults.outside ≡ found.faults.outside → found'.faults.twice ≡ found.faults.twice → found'.sources ≡ set found.sources a.0 (Some given.source)
    → Finds s items found → Finds s (items ++ item_of name values ∷ []) found'
finds_new s items name values a given found found' there few g inside had some m u o t v f =
    let item = item_of name values in
    let named = sym there in
    let words = item_words values in
    let none : has_outside s a words ≡ false = sym g.outside ∙ inside in
    let vs = meant_values s a words in
    let more = assignments-some s items item (a, vs) (rw (named, none) refl) in
    let before : values_of (assignments s items) a ≡ None = not_some (values_of (assignments s items) a) (sym (f.holds.1 a.0 few).0 ∙ ap is_some had) in
    let source = g.source a refl inside in
    record {
      some = some ∙ sym (some_last items item);
      unknown = u ∙ f.unknown ∙ sym (unknown-push s items item false (rw named refl) ∙ or_none (unknown_in_event s items));
      outside = o ∙ f.outside ∙ sym (outside-push s items item false (rw (named, none) refl) ∙ or_none (outside_in_event s items));
      twice = t ∙ f.twice ∙ sym (again-push [] (assignments s items) (a, vs) ∙ rw before (or_none (again_after [] (assignments s items)))) ∙ ap stands_twice (sym more);
      many = many_is s items item found found' given.met.count m g.count f;
      holds = (
        ap length v ∙ length-set found.sources a.0 (Some given.source) ∙ f.holds.0,
        λ place k. same_holds s (numbered place) (get_or (set found.sources a.0 (Some given.source)) place None) _ (values_of (assignments s items ++ (a, vs) ∷ []) (numbered place)) _
            (ap (λ x. get_or x place None) v) (ap (λ (x : Assignments). values_of x (numbered place)) more)
            (new_source s found.sources (assignments s items) a given.source vs place f.holds.0 few before (source_means s a given.source words source) (f.holds.1 place k)),
      );
      fine = λ no_more.
          let parts = none_of_both found.faults.many (over given.met.count) (sym m ∙ no_more) in
          let small : length words ≤ 64 = subst (λ (n : ℕ). n ≤ 64) g.count (not_over given.met.count parts.1) in
          subst (AreFine s) (sym v)
          (λ place k. new_fine s found.sources a given.source place f.holds.0 few (source_fine s a given.source words source none small) (f.fine parts.0 place k));
    }

-- no items say nothing
pub finds_nothing : (s : Attributes) (found : Found) → found.faults.some ≡ false → found.faults.unknown ≡ None → found.faults.outside ≡ None → found.faults.twice ≡ None → found.faults.many ≡ None
    → found.sources ≡ replicate {A = Option Source} 256 None → Finds s [] found
finds_nothing s found some u o t m v =
    let at : (place : ℕ) → place < 256 → get_or found.sources place None ≡ None = λ place h. ap (λ x. get_or x place None) v ∙ get_or-replicate {A = Option Source} 256 place None None h in
    record {
      some = some;
      unknown = u;
      outside = o;
      twice = t;
      many = m;
      holds = (ap length v ∙ length-replicate {A = Option Source} 256 None, λ place h. same_holds s (numbered place) None _ None None (at place h) refl (refl, refl));
      fine = λ none place h. subst (IsFine s (numbered place)) (sym (at place h)) tt;
    }
