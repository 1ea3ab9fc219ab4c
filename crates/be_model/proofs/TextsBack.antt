-- Names and values that lie in a schema, read back from their texts.
use Rattle.std.proofs.Common.{◌≡◌, ℤ, pos, ◌<◌, true, false, not, cond, ◌||◌, Bool, List, [], ◌∷◌, length, map, All, Option, Some, None, option_and_then, refl, sym, ap, subst, ◌∙◌}
use Rattle.std.specs.List.{list_all, list_any}
use Rattle.std.specs.Option.{is_none, option_map_or}
use Rattle.std.specs.Int.Signed.{lt_z}
use Rattle.std.proofs.lemmas.Bool.{and_from, and_parts}
use Rattle.std.proofs.lemmas.List.Elements.{All-head, All-tail, All-weaker}
use Rattle.std.proofs.lemmas.List.Sums.{AllPass-from_list_all}
use Rattle.std.proofs.lemmas.List.Folds.{list_all-map}
use Rattle.std.proofs.lemmas.Option.{get_or_from_slice_get, slice_get_within}
use Rattle.be_base.specs.Text.{Text, IsName, IsWord}
use Rattle.be_base.specs.declared.names.AttrNo.{AttrNo}
use Rattle.be_base.proofs.NameForms.{name_of-Ok}
use Rattle.be_model.specs.declared.schemas.Attribute.{Attribute}
use Rattle.be_model.specs.Domains.{Range, bounds_of, is_within, value_of_word}
use Rattle.be_model.specs.Schemas.{Attributes, IsSchema, attribute_at, attribute_named, range_of, value_at, is_among_texts, reserved_words, is_domain, is_name, is_attr}
use Rattle.be_model.specs.Forms.{AreValues, rises, put_value}
use Rattle.be_model.specs.Lies.{lies_in}
use Rattle.be_model.specs.SetTexts.{known, has_outside, rising, meant_values, IsSpelled}
use Rattle.be_model.specs.Texts.{value_text, value_text_at, name_at, WordsAreNames, NamesAreNames}
use Rattle.be_model.proofs.Attributes.{all_at}
use Rattle.be_model.proofs.Forms.{rises_rest}
use Rattle.be_model.proofs.InSchema.{range_below, attribute_of_range}
use Rattle.be_model.proofs.ReadBack.{names_are_found, values_are_read, values_are_words}

rising_put : (v : ℤ) (vs : List ℤ) → rises (v ∷ vs) ≡ true → put_value v vs ≡ v ∷ vs
rising_put v [] h = refl
rising_put v (x ∷ xs) h = ap (λ b. cond b (v ∷ x ∷ xs) (cond (lt_z x v) (x ∷ put_value v xs) (x ∷ xs))) (and_parts (lt_z v x) (rises (x ∷ xs)) h).0

-- rising values are their own rising list
rising_kept : (vs : List ℤ) → rises vs ≡ true → rising vs ≡ vs
rising_kept [] h = refl
rising_kept (v ∷ vs) h = ap (put_value v) (rising_kept vs (rises_rest v vs h)) ∙ rising_put v vs h

all_back : (read : Text → ℤ) (value : ℤ → Text) (vs : List ℤ) → All (λ v. read (value v) ≡ v) vs → map read (map value vs) ≡ vs
all_back read value [] h = refl
all_back read value (v ∷ vs) h =
    ap (λ x. x ∷ map read (map value vs)) (All-head (λ x. read (value x) ≡ x) v vs h)
    ∙ ap (λ xs. v ∷ xs) (all_back read value vs (All-tail (λ x. read (value x) ≡ x) v vs h))

-- the texts of a set's values are read as the set
pub set_read_back : (read : Text → ℤ) (value : ℤ → Text) (vs : List ℤ) → AreValues vs → All (λ v. read (value v) ≡ v) vs → rising (map read (map value vs)) ≡ vs
set_read_back read value vs form h = ap rising (all_back read value vs h) ∙ rising_kept vs form.rising

or_both : (a b : Bool) → a ≡ false → b ≡ false → (a || b) ≡ false
or_both true b h k = h
or_both false b h k = k

none_any : {X Y : Type 0} (test : Y → Bool) (f : X → Y) (xs : List X) → All (λ x. test (f x) ≡ false) xs → list_any test (map f xs) ≡ false
none_any test f [] h = refl
none_any test f (x ∷ xs) h =
    or_both (test (f x)) (list_any test (map f xs)) (All-head (λ y. test (f y) ≡ false) x xs h) (none_any test f xs (All-tail (λ y. test (f y) ≡ false) x xs h))

-- the values are read from their texts
abbrev pub AreBack : Attributes → AttrNo → List ℤ → Type 0
AreBack s a vs = All (λ v. value_at s a (value_text_at s a v) ≡ Some v) vs

-- no text of such a value is outside the domain
pub inside_back : (s : Attributes) (a : AttrNo) (vs : List ℤ) → AreBack s a vs → has_outside s a (map (value_text_at s a) vs) ≡ false
inside_back s a vs h =
    let test = λ (w : Text). is_none (value_at s a w) in
    none_any test (value_text_at s a) vs
    (All-weaker (λ v. value_at s a (value_text_at s a v) ≡ Some v) (λ v. test (value_text_at s a v) ≡ false) (λ v e. ap is_none e) vs h)

pub known_back : (s : Attributes) (a : AttrNo) (vs : List ℤ) → AreBack s a vs → All (λ v. known s a (value_text_at s a v) ≡ v) vs
known_back s a vs h =
    All-weaker (λ v. value_at s a (value_text_at s a v) ≡ Some v) (λ v. known s a (value_text_at s a v) ≡ v) (λ v e. ap (λ o. option_map_or (λ n. n) o (pos 0)) e) vs h

pub meant_back : (s : Attributes) (a : AttrNo) (vs : List ℤ) → AreValues vs → AreBack s a vs → meant_values s a (map (value_text_at s a) vs) ≡ vs
meant_back s a vs form h = set_read_back (known s a) (value_text_at s a) vs form (known_back s a vs h)

-- the attribute of values that lie in a schema, and the values in its domain
record AreAt (s : Attributes) (a : AttrNo) (vs : List ℤ) (x : Attribute) : Type 0 where
  there : attribute_at s a ≡ Some x
  below : a.0 < length s
  valid : is_domain x.domain ≡ true
  within : All (λ v. is_within (bounds_of x.domain) v ≡ true) vs

range_of_values : (s : Attributes) (a : AttrNo) (vs : List ℤ) (o : Option Range) → range_of s a ≡ o → lies_in o vs ≡ true → (r : Range) × (range_of s a ≡ Some r) × (list_all (is_within r) vs ≡ true)
range_of_values s a vs None e h = absurd (cc)
range_of_values s a vs (Some r) e h = (r, e, h)

are_at : (s : Attributes) (a : AttrNo) (vs : List ℤ) → IsSchema s → lies_in (range_of s a) vs ≡ true → (x : Attribute) × AreAt s a vs x
are_at s a vs f lies =
    let r = range_of_values s a vs (range_of s a) refl lies in
    let x = attribute_of_range s a r.0 r.1 in (
      x.0,
      record {
        there = x.1;
        below = range_below s a r.0 r.1;
        valid = all_at (λ (y : Attribute). is_domain y.domain) s a.0 x.0 f.domains x.1;
        within = AllPass-from_list_all (is_within (bounds_of x.0.domain)) vs (subst (λ q. list_all (is_within q) vs ≡ true) (sym x.2) r.2);
      },
    )

value_read_back : (s : Attributes) (a : AttrNo) (x : Attribute) (v : ℤ) → attribute_at s a ≡ Some x → is_domain x.domain ≡ true → is_within (bounds_of x.domain) v ≡ true
    → value_at s a (value_text_at s a v) ≡ Some v
value_read_back s a x v e valid h =
    ap (λ o. option_and_then (λ (y : Attribute). value_of_word y.domain (option_map_or (λ (z : Attribute). value_text z.domain v) o [])) o) e
    ∙ values_are_read x.domain v valid h

-- values that lie in a schema are read from their texts
pub are_back : (s : Attributes) (a : AttrNo) (vs : List ℤ) → IsSchema s → lies_in (range_of s a) vs ≡ true → AreBack s a vs
are_back s a vs f lies =
    let k = are_at s a vs f lies in
    let at = k.1 in
    All-weaker (λ v. is_within (bounds_of k.0.domain) v ≡ true) (λ v. value_at s a (value_text_at s a v) ≡ Some v)
    (λ v h. value_read_back s a k.0 v at.there at.valid h) vs at.within

-- and their attribute is found by its name
pub name_back : (s : Attributes) (a : AttrNo) (vs : List ℤ) → IsSchema s → lies_in (range_of s a) vs ≡ true → attribute_named s (name_at s a) ≡ Some a
name_back s a vs f lies = let at = (are_at s a vs f lies).1 in names_are_found s a f at.below

-- which may stand before an operator or `=`
pub is_attr-name : (s : Attributes) (a : AttrNo) (vs : List ℤ) → IsSchema s → lies_in (range_of s a) vs ≡ true → IsName (name_at s a) → is_attr (name_at s a) ≡ true
is_attr-name s a vs f lies named =
    let k = are_at s a vs f lies in
    let at = k.1 in
    let free = λ (name : Text). not (is_among_texts name reserved_words) in
    and_from _ _ (ap is_name (name_of-Ok (name_at s a) named))
    (ap (λ o. free (option_map_or (λ (y : Attribute). y.name) o [])) at.there
    ∙ all_at (λ (y : Attribute). free y.name) s a.0 k.0 (sym (list_all-map free (λ (y : Attribute). y.name) s) ∙ f.unreserved) at.there)

names_there : (s : Attributes) (a : AttrNo) (x : Attribute) → NamesAreNames s → attribute_at s a ≡ Some x → IsName x.name × WordsAreNames x.domain
names_there s a x names e =
    subst (λ (y : Attribute). IsName y.name × WordsAreNames y.domain) (get_or_from_slice_get s a.0 x x e) (names a.0 x (slice_get_within s a.0 x e))

word_there : (s : Attributes) (a : AttrNo) (x : Attribute) (v : ℤ) → attribute_at s a ≡ Some x → IsWord (value_text x.domain v) → IsWord (value_text_at s a v)
word_there s a x v e h = subst (λ o. IsWord (option_map_or (λ (y : Attribute). value_text y.domain v) o [])) (sym e) h

-- values that lie in a schema of names are spelled in words
pub are_spelled : (s : Attributes) (a : AttrNo) (vs : List ℤ) → IsSchema s → NamesAreNames s → lies_in (range_of s a) vs ≡ true → IsSpelled s a vs
are_spelled s a vs f names lies =
    let k = are_at s a vs f lies in
    let at = k.1 in
    let named = names_there s a k.0 names at.there in (
      subst (λ o. IsName (option_map_or (λ (y : Attribute). y.name) o [])) (sym at.there) named.0,
      All-weaker (λ v. is_within (bounds_of k.0.domain) v ≡ true) (λ v. IsWord (value_text_at s a v))
          (λ v h. word_there s a k.0 v at.there (values_are_words k.0.domain v at.valid named.1 h)) vs at.within,
    )
