-- The items of a text, one after the other, as far as they were scanned.
use Rattle.std.proofs.Common.{◌≡◌, ℕ, zero, suc, ◌≤◌, ◌<◌, Bool, true, List, [], ◌∷◌, ◌++◌, length, Option, Some, None, option_map, option_and_then, refl, sym, ap, subst, ◌∙◌, arith, append_assoc, if◌then◌else◌}
use Rattle.be_base.specs.Text.{Text}
use Rattle.be_base.specs.Tokens.{Lexeme, word, equal, tokens, put_token}
use Rattle.be_base.specs.Readers.{Read}
use Rattle.be_base.specs.declared.names.AttrNo.{AttrNo}
use Rattle.be_model.specs.Schemas.{Attributes}
use Rattle.be_event.specs.Grammar.{WrittenValues, WrittenItem, item_of, is_attr, read_given, with_item_attr, read_item, read_items, items_of}
use Rattle.be_event.specs.Scan.{items_in, IsGiven, GivenBefore, Finds}
use Rattle.be_event.specs.declared.found.Found.{Found}
use Rattle.be_event.specs.declared.items.Given.{Given}
use Rattle.be_event.proofs.Grammar.{item_shortens}

rest_alike : (f g : List Lexeme → Option (List WrittenItem)) (o : Read WrittenItem) (n : ℕ) → ((ts : List Lexeme) → length ts ≤ n → f ts ≡ g ts)
    → ((r : WrittenItem × List Lexeme) → o ≡ Some r → length r.1 ≤ n)
    → option_and_then (λ (r : WrittenItem × List Lexeme). option_map (λ items. r.0 ∷ items) (f r.1)) o ≡ option_and_then (λ (r : WrittenItem × List Lexeme). option_map (λ items. r.0 ∷ items) (g r.1)) o
rest_alike f g None n each few = refl
rest_alike f g (Some r) n each few = ap (option_map (λ (items : List WrittenItem). r.0 ∷ items)) (each r.1 (few r refl))

-- more fuel than tokens changes nothing
fuel_is_enough : (fuel more : ℕ) (ts : List Lexeme) → length ts ≤ fuel → length ts ≤ more → read_items fuel ts ≡ read_items more ts
fuel_is_enough zero zero ts p q = refl
fuel_is_enough zero (suc more) [] p q = refl
fuel_is_enough zero (suc more) (t ∷ ts) p q = absurd (omega arith)
fuel_is_enough (suc fuel) zero [] p q = refl
fuel_is_enough (suc fuel) zero (t ∷ ts) p q = absurd (omega arith)
fuel_is_enough (suc fuel) (suc more) [] p q = refl
fuel_is_enough (suc fuel) (suc more) (t ∷ ts) p q =
    rest_alike (read_items fuel) (read_items more) (read_item (t ∷ ts)) (length ts)
    (λ after few. fuel_is_enough fuel more after (omega (arith, few)) (omega (arith, few)))
    (λ r e. let less_left : length r.1 < length (t ∷ ts) = item_shortens (t ∷ ts) (read_item (t ∷ ts)) r refl e in omega arith)

by_count : (n : ℕ) (t : Lexeme) (ts : List Lexeme) → length (t ∷ ts) ≡ n
    → read_items n (t ∷ ts) ≡ option_and_then (λ (r : WrittenItem × List Lexeme). option_map (λ items. r.0 ∷ items) (items_of r.1)) (read_item (t ∷ ts))
by_count zero t ts e = absurd (omega arith)
by_count (suc n) t ts e =
    rest_alike (read_items n) items_of (read_item (t ∷ ts)) n
    (λ after few. fuel_is_enough n (length after) after few (omega arith))
    (λ r h. let less_left : length r.1 < length (t ∷ ts) = item_shortens (t ∷ ts) (read_item (t ∷ ts)) r refl h in omega arith)

-- the first item, and those behind it
pub items_by_first : (t : Lexeme) (ts : List Lexeme)
    → items_of (t ∷ ts) ≡ option_and_then (λ (r : WrittenItem × List Lexeme). option_map (λ items. r.0 ∷ items) (items_of r.1)) (read_item (t ∷ ts))
items_by_first t ts = by_count (length (t ∷ ts)) t ts refl

given_then : (name : Text) (o : Read WrittenValues)
    → option_and_then (λ (r : WrittenItem × List Lexeme). option_map (λ items. r.0 ∷ items) (items_of r.1)) (option_map (with_item_attr name) o)
    ≡ option_and_then (λ (r : WrittenValues × List Lexeme). option_map (λ items. item_of name r.0 ∷ items) (items_of r.1)) o
given_then name None = refl
given_then name (Some r) = refl

-- an attribute in front, by what stands behind its `=`
items_by_given : (name : Text) (ts : List Lexeme) → is_attr name ≡ true
    → items_of (word name ∷ equal ∷ ts) ≡ option_and_then (λ (r : WrittenValues × List Lexeme). option_map (λ items. item_of name r.0 ∷ items) (items_of r.1)) (read_given ts)
items_by_given name ts h =
    items_by_first (word name) (equal ∷ ts)
    ∙ ap (λ (b : Bool). option_and_then (λ (r : WrittenItem × List Lexeme). option_map (λ items. r.0 ∷ items) (items_of r.1)) (if b then option_map (with_item_attr name) (read_given ts) else None)) h
    ∙ given_then name (read_given ts)

-- some items of the text stand before these tokens, and this was found among them; or it has no items
abbrev pub Passed : Attributes → Text → Option (List Lexeme) → Found → Type 0
Passed s text None found = items_in (tokens text) ≡ None
Passed s text (Some ts) found = (items : List WrittenItem) × (items_in (tokens text) ≡ option_map (λ more. items ++ more) (items_of ts)) × Finds s items found

same_map : (o : Option (List WrittenItem)) → o ≡ option_map (λ more. [] ++ more) o
same_map None = refl
same_map (Some more) = refl

passed_from : (s : Attributes) (text : Text) (o : Option (List Lexeme)) (found : Found) → tokens text ≡ o → Finds s [] found → Passed s text o found
passed_from s text None found e f = ap items_in e
passed_from s text (Some ts) found e f = ([], ap items_in e ∙ same_map (items_of ts), f)

pub passed_none : (s : Attributes) (text : Text) (found : Found) → Finds s [] found → Passed s text (tokens text) found
passed_none s text found f = passed_from s text (tokens text) found refl f

moved : (items : List WrittenItem) (item : WrittenItem) (o : Option (List WrittenItem))
    → option_map (λ more. items ++ more) (option_map (λ more. item ∷ more) o) ≡ option_map (λ more. (items ++ item ∷ []) ++ more) o
moved items item None = refl
moved items item (Some more) = ap (λ x. Some x) (sym (append_assoc items (item ∷ []) more))

-- what one more item adds to what is found
abbrev pub Notes : Attributes → Text → Option AttrNo → Given → Found → Found → Type 0
Notes s name attr given found found' = (items : List WrittenItem) (values : WrittenValues) → IsGiven s attr given values → Finds s items found → Finds s (items ++ item_of name values ∷ []) found'

passed_given : (s : Attributes) (text name : Text) (ts : List Lexeme) (after : Option (List Lexeme)) (attr : Option AttrNo) (given : Given) (found found' : Found) → is_attr name ≡ true
    → GivenBefore s attr (Some ts) given after → Notes s name attr given found found'
    → Passed s text (Some (word name ∷ equal ∷ ts)) found → Passed s text after found'
passed_given s text name ts None attr given found found' named g note p =
    p.1 ∙ ap (option_map (λ (more : List WrittenItem). p.0 ++ more))
    (items_by_given name ts named ∙ ap (option_and_then (λ (r : WrittenValues × List Lexeme). option_map (λ items. item_of name r.0 ∷ items) (items_of r.1))) g)
passed_given s text name ts (Some after) attr given found found' named g note p =
    let item = item_of name g.0 in (
      p.0 ++ item ∷ [],
      p.1 ∙ ap (option_map (λ (more : List WrittenItem). p.0 ++ more))
          (items_by_given name ts named ∙ ap (option_and_then (λ (r : WrittenValues × List Lexeme). option_map (λ items. item_of name r.0 ∷ items) (items_of r.1))) g.1)
          ∙ moved p.0 item (items_of after),
      note p.0 g.0 g.2 p.2,
    )

by_rest : (s : Attributes) (text name : Text) (left o after : Option (List Lexeme)) (attr : Option AttrNo) (given : Given) (found found' : Found) → is_attr name ≡ true
    → left ≡ put_token (word name) (put_token equal o) → GivenBefore s attr o given after → Notes s name attr given found found'
    → Passed s text left found → Passed s text after found'
by_rest s text name left None None attr given found found' named e g note p = subst (λ t. Passed s text t found) e p
by_rest s text name left None (Some after) attr given found found' named e g note p = let never = g.1 in absurd (cc)
by_rest s text name left (Some ts) after attr given found found' named e g note p =
    passed_given s text name ts after attr given found found' named g note (subst (λ t. Passed s text t found) e p)

-- one more item was scanned
pub passed_more : (s : Attributes) (text left rest after name : Text) (attr : Option AttrNo) (given : Given) (found found' : Found) → is_attr name ≡ true
    → tokens left ≡ put_token (word name) (put_token equal (tokens rest)) → GivenBefore s attr (tokens rest) given (tokens after) → Notes s name attr given found found'
    → Passed s text (tokens left) found → Passed s text (tokens after) found'
passed_more s text left rest after name attr given found found' named e g note p =
    by_rest s text name (tokens left) (tokens rest) (tokens after) attr given found found' named e g note p
