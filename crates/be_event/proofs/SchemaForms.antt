-- What the lines of a schema's text declare.
use Rattle.std.proofs.Common.{◌≡◌, ℕ, ℤ, ◌+◌, ◌<◌, ◌≤◌, leb, ltb, Bool, true, false, cond, not, ◌&&◌, ◌||◌, List, [], ◌∷◌, ◌++◌, length, is_some, Option, Some, None, option_map, option_and_then, Ok, Err, codes, refl, sym, ap, subst, ◌∙◌, arith}
use Rattle.std.specs.List.{list_all, list_any}
use Rattle.std.proofs.lemmas.Bool.Decides.{nat_tests}
use Rattle.std.proofs.lemmas.List.{length-map}
use Rattle.be_base.specs.Text.{Text, same_text, name_of}
use Rattle.be_base.specs.Numbers.{int_of}
use Rattle.be_base.proofs.NameForms.{IsName-from_name_of}
use Rattle.be_model.specs.declared.schemas.Attribute.{Attribute}
use Rattle.be_model.specs.declared.schemas.Domain.{Domain}
use Rattle.be_model.specs.declared.schemas.Domain.TheVariants.{Int, Sym}
use Rattle.be_model.specs.Schemas.{Attributes, IsSchema, attribute_of, names_of_attributes, is_among_texts, all_differ, is_domain}
use Rattle.be_model.proofs.Attributes.{IsSchema-push}
use Rattle.std.proofs.lemmas.Bool.{and_from}
use Rattle.be_event.specs.Grammar.{is_name}
use Rattle.be_io.specs.FileLines.{file_lines}
use Rattle.be_event.specs.SchemaTexts.{words, is_remark, declares_nothing, int_domain, sym_domain, domain_of, declared, repeats, is_out_of_range, has_many, first_kind, kind_of, attribute_or_fault, judge, declaration, schema_from, schema_of}
use Rattle.be_event.specs.Declarations.{names_declared, declared_on, flaws_of, flawed, JudgesWords}
use Rattle.be_event.specs.declared.schema_texts.Declared.{Declared}
use Rattle.be_event.specs.declared.schema_texts.Flaws.{Flaws}
use Rattle.be_event.specs.declared.schema_texts.Judged.TheVariants.{Declares}
use Rattle.be_event.specs.declared.schema_texts.SchemaFault.TheVariants.{Line}
use Rattle.be_event.specs.declared.schema_texts.SchemaKind.{SchemaKind}
use Rattle.be_event.specs.declared.schema_texts.SchemaKind.TheVariants.{Form}

pub count_declared : (ds : List Declared) → length (names_declared ds) ≡ length ds
count_declared ds = length-map ds (λ (d : Declared). d.0)

pub name_declared : (ds : List Declared) (name : Text) → is_among_texts name (names_declared ds) ≡ list_any (λ (d : Declared). same_text d.0 name) ds
name_declared [] name = refl
name_declared (d ∷ ds) name = ap (λ b. same_text d.0 name || b) (name_declared ds name)

sym_by : (b : Bool) (w : Text) (ws : List Text) → is_some (cond b (Some (Sym (w ∷ ws))) None) ≡ true → cond b (Some (Sym (w ∷ ws))) None ≡ Some (Sym (w ∷ ws))
sym_by true w ws h = refl
sym_by false w ws h = absurd (cc)

-- symbols are the words
pub sym_some : (ws : List Text) → is_some (sym_domain ws) ≡ true → sym_domain ws ≡ Some (Sym ws)
sym_some [] h = absurd (cc)
sym_some (w ∷ ws) h = sym_by (list_all (λ x. is_name (name_of x)) (w ∷ ws)) w ws h

-- what is declared, where the domain has flaws to be looked at
flawed_domain : (o : Option Domain) (f : Flaws) → Some f ≡ option_map flaws_of o → (d : Domain) × (o ≡ Some d) × (f ≡ flaws_of d)
flawed_domain None f h = absurd (cc)
flawed_domain (Some d) f h = (d, refl, cc)

no_domain : (o : Option Domain) → None ≡ option_map flaws_of o → o ≡ None
no_domain None h = refl
no_domain (Some d) h = absurd (cc)

record LineIs (ws : List Text) (kind name : Text) (rest : List Text) : Type 0 where
  is : ws ≡ kind ∷ name ∷ rest
  shown : is_remark kind ≡ false
  named : is_name (name_of name) ≡ true

line_is : (ws ws' rest : List Text) (kind text name : Text) → ws ≡ kind ∷ ws' → ws' ≡ text ∷ rest → is_remark kind ≡ false → Ok name ≡ name_of text → LineIs ws kind text rest
line_is ws ws' rest kind text name a b r n = record { is = rw (a, b) refl; shown = r; named = rw (← n) refl }

declared_as : (ws rest : List Text) (kind name : Text) (d : Domain) → LineIs ws kind name rest → domain_of kind rest ≡ Some d → declared ws ≡ Some (attribute_of name d)
declared_as ws rest kind name d l h = rw (l.is, l.named, h) refl

means_something : (ws rest : List Text) (kind name : Text) → LineIs ws kind name rest → declares_nothing ws ≡ false
means_something ws rest kind name l = rw l.is l.shown

-- a line whose words say no domain
pub says_no_domain : (names ws ws' rest : List Text) (kind text name : Text) → ws ≡ kind ∷ ws' → ws' ≡ text ∷ rest → is_remark kind ≡ false → Ok name ≡ name_of text
    → None ≡ option_map flaws_of (domain_of kind rest) → (declares_nothing ws ≡ false) × (declaration names ws ≡ Err Form)
says_no_domain names ws ws' rest kind text name a b r n h =
    let l = line_is ws ws' rest kind text name a b r n in
    (means_something ws rest kind text l, ap (λ (x : List Text). declaration names x) l.is ∙ rw (l.named, no_domain (domain_of kind rest) h) refl)

flawed_is : (names : List Text) (text name : Text) (d : Domain) (f : Flaws) (o : Option SchemaKind) → name ≡ text → f ≡ flaws_of d → o ≡ flawed names name f → kind_of names (attribute_of text d) ≡ o
flawed_is names text name d f o e g h = sym (h ∙ ap (λ (x : Text). flawed names x f) e ∙ ap (flawed names text) g)

judged_is : (names ws ws' rest : List Text) (kind text name : Text) (f : Flaws) (o : Option SchemaKind) → ws ≡ kind ∷ ws' → ws' ≡ text ∷ rest → is_remark kind ≡ false → Ok name ≡ name_of text
    → Some f ≡ option_map flaws_of (domain_of kind rest) → o ≡ flawed names name f
    → (declares_nothing ws ≡ false) × (a : Attribute) × (declaration names ws ≡ attribute_or_fault a o) × (a.name ≡ name)
judged_is names ws ws' rest kind text name f o a b r n h k =
    let l = line_is ws ws' rest kind text name a b r n in
    let d = flawed_domain (domain_of kind rest) f h in
    let same = (IsName-from_name_of text name (sym n)).0 in (
      means_something ws rest kind text l,
      attribute_of text d.0,
      ap (judge names) (declared_as ws rest kind text d.0 l d.1) ∙ ap (attribute_or_fault (attribute_of text d.0)) (flawed_is names text name d.0 f o same d.2 k),
      sym same,
    )

-- a line that declares an attribute with a fault
pub says_fault : (names ws ws' rest : List Text) (kind text name : Text) (f : Flaws) (fault : SchemaKind) → ws ≡ kind ∷ ws' → ws' ≡ text ∷ rest → is_remark kind ≡ false → Ok name ≡ name_of text
    → Some f ≡ option_map flaws_of (domain_of kind rest) → Some fault ≡ flawed names name f → (declares_nothing ws ≡ false) × (declaration names ws ≡ Err fault)
says_fault names ws ws' rest kind text name f fault a b r n h k =
    let j = judged_is names ws ws' rest kind text name f (Some fault) a b r n h k in (j.0, j.2)

-- a line that declares an attribute without any
pub says_attribute : (names ws ws' rest : List Text) (kind text name : Text) (f : Flaws) → ws ≡ kind ∷ ws' → ws' ≡ text ∷ rest → is_remark kind ≡ false → Ok name ≡ name_of text
    → Some f ≡ option_map flaws_of (domain_of kind rest) → None ≡ flawed names name f
    → (declares_nothing ws ≡ false) × (a : Attribute) × (declaration names ws ≡ Ok a) × (a.name ≡ name)
says_attribute names ws ws' rest kind text name f a b r n h k =
    judged_is names ws ws' rest kind text name f None a b r n h k

pub schema_from-fault : (n : ℕ) (s : Attributes) (line : Text) (lines : List Text) (kind : SchemaKind) → declares_nothing (words line) ≡ false → declaration (names_of_attributes s) (words line) ≡ Err kind
    → schema_from n s (line ∷ lines) ≡ Err (Line n kind)
schema_from-fault n s line lines kind h k = rw (h, k) refl

pub schema_from-declares : (n : ℕ) (s : Attributes) (line : Text) (lines : List Text) (a : Attribute) → declares_nothing (words line) ≡ false → declaration (names_of_attributes s) (words line) ≡ Ok a
    → schema_from n s (line ∷ lines) ≡ schema_from (n + 1) (s ++ a ∷ []) lines
schema_from-declares n s line lines a h k = rw (h, k) refl

-- a line of symbols
pub says_symbols : (kind : Text) (ws names : List Text) → same_text kind (codes "int") ≡ false → same_text kind (codes "sym") ≡ true → is_some (sym_domain ws) ≡ true → names ≡ ws
    → Some (Sym names) ≡ domain_of kind ws
says_symbols kind ws names i k some e = rw (i, k, e) (sym (sym_some ws some))

-- the kinds by their tests
none_of : (reserved twice range many : Bool) → first_kind reserved twice range many ≡ None → (reserved ≡ false) × (twice ≡ false) × (range ≡ false) × (many ≡ false)
none_of true twice range many h = absurd (cc)
none_of false true range many h = absurd (cc)
none_of false false true many h = absurd (cc)
none_of false false false true h = absurd (cc)
none_of false false false false h = (refl, refl, refl, refl)

or_false : (a b : Bool) → (a || b) ≡ false → (a ≡ false) × (b ≡ false)
or_false true b h = absurd (cc)
or_false false b h = (refl, h)

double : (b : Bool) → not b ≡ false → b ≡ true
double true h = refl
double false h = absurd (cc)

-- the domain of a line has a word where it has words
abbrev pub HasWord : Domain → Type 0
HasWord (Int lo hi) = Unit {0}
HasWord (Sym words) = 0 < length words

enough : (n : ℕ) → 0 < n → ltb 4096 n ≡ false → (leb 1 n ≡ true) × (leb n 4096 ≡ true)
enough n h k = (grind (arith, nat_tests), grind (arith, nat_tests))

valid : (d : Domain) → HasWord d → repeats d ≡ false → is_out_of_range d ≡ false → has_many d ≡ false → is_domain d ≡ true
valid (Int lo hi) w a b c = double (is_domain (Int lo hi)) b
valid (Sym words) w a b c =
    let k = enough (length words) w c in
    and_from (leb 1 (length words) && leb (length words) 4096) (all_differ words) (and_from (leb 1 (length words)) (leb (length words) 4096) k.0 k.1) (double (all_differ words) a)

-- an attribute without fault may be put last
pub may_be_put : (s : Attributes) (a : Attribute) → IsSchema s → HasWord a.domain → kind_of (names_of_attributes s) a ≡ None → IsSchema (s ++ a ∷ [])
may_be_put s a f w h =
    let k = none_of _ _ _ _ h in
    let twice = or_false (is_among_texts a.name (names_of_attributes s)) (repeats a.domain) k.1 in
    let many = or_false (leb 256 (length (names_of_attributes s))) (has_many a.domain) k.3 in
    let room : leb 256 (length s) ≡ false = ap (λ n. leb 256 n) (sym (length-map s (λ (x : Attribute). x.name))) ∙ many.0 in
    let d = valid a.domain w twice.1 k.2 many.1 in
    IsSchema-push s a.name a.domain f (rw (room, twice.0, k.0, d) refl)

-- what a line says, where it says it
on_by : (b : Bool) (o : Option Attribute) (a : Attribute) → Some a ≡ cond b None o → (b ≡ false) × (o ≡ Some a)
on_by true o a h = absurd (cc)
on_by false o a h = (refl, sym h)

has_bounds : (o : Option ℤ) (lo : ℤ) (d : Domain) → option_map (λ h. Int lo h) o ≡ Some d → HasWord d
has_bounds None lo d h = absurd (cc)
has_bounds (Some hi) lo d h = let is : Int lo hi ≡ d = cc in subst (λ (x : Domain). HasWord x) is tt

ints_said : (o : Option ℤ) (hi : Text) (d : Domain) → option_and_then (λ l. option_map (λ h. Int l h) (int_of hi)) o ≡ Some d → HasWord d
ints_said None hi d h = absurd (cc)
ints_said (Some lo) hi d h = has_bounds (int_of hi) lo d h

int_said : (ws : List Text) (d : Domain) → int_domain ws ≡ Some d → HasWord d
int_said (lo ∷ hi ∷ []) d h = ints_said (int_of lo) hi d h
int_said ws d h = absurd (cc)

syms_said : (b : Bool) (w : Text) (ws : List Text) (d : Domain) → cond b (Some (Sym (w ∷ ws))) None ≡ Some d → HasWord d
syms_said true w ws d h = let is : Sym (w ∷ ws) ≡ d = cc in let some : 0 < length (w ∷ ws) = omega arith in subst (λ (x : Domain). HasWord x) is some
syms_said false w ws d h = absurd (cc)

sym_said : (ws : List Text) (d : Domain) → sym_domain ws ≡ Some d → HasWord d
sym_said [] d h = absurd (cc)
sym_said (w ∷ ws) d h = syms_said (list_all (λ x. is_name (name_of x)) (w ∷ ws)) w ws d h

domain_said : (a b : Bool) (ws : List Text) (d : Domain) → cond a (int_domain ws) (cond b (sym_domain ws) None) ≡ Some d → HasWord d
domain_said true b ws d h = int_said ws d h
domain_said false true ws d h = sym_said ws d h
domain_said false false ws d h = absurd (cc)

named_said : (o : Option Domain) (name : Text) (a : Attribute) → ((d : Domain) → o ≡ Some d → HasWord d) → option_map (attribute_of name) o ≡ Some a → HasWord a.domain
named_said None name a said h = absurd (cc)
named_said (Some d) name a said h = let is : attribute_of name d ≡ a = cc in subst (λ (x : Attribute). HasWord x.domain) is (said d refl)

line_said : (b : Bool) (kind name : Text) (ws : List Text) (a : Attribute) → cond b (option_map (attribute_of name) (domain_of kind ws)) None ≡ Some a → HasWord a.domain
line_said true kind name ws a h = named_said (domain_of kind ws) name a (domain_said (same_text kind (codes "int")) (same_text kind (codes "sym")) ws) h
line_said false kind name ws a h = absurd (cc)

-- an attribute that a line declares has a word, where it has words
declared_said : (ws : List Text) (a : Attribute) → declared ws ≡ Some a → HasWord a.domain
declared_said [] a h = absurd (cc)
declared_said (kind ∷ []) a h = absurd (cc)
declared_said (kind ∷ name ∷ ws) a h = line_said (is_name (name_of name)) kind name ws a h

judge_by : (o : Option SchemaKind) (a x : Attribute) → attribute_or_fault a o ≡ Ok x → (o ≡ None) × (a ≡ x)
judge_by None a x h = (refl, cc)
judge_by (Some kind) a x h = absurd (cc)

-- the scan of a text, as far as it came
pub record Scanned (text rest : Text) (number : ℕ) (names : List Text) : Type 0 where
  pub attributes : Attributes
  pub named : names ≡ names_of_attributes attributes
  pub same : schema_from (number + 1) attributes (file_lines rest) ≡ schema_of text
  pub within : number + length rest ≤ length text

room_by : (names : List Text) (o : Option Attribute) (a : Attribute) → judge names o ≡ Ok a → length names < 256
room_by names None a h = absurd (cc)
room_by names (Some x) a h =
    let k = none_of _ _ _ _ (judge_by (kind_of names x) x a h).0 in
    let many = or_false (leb 256 (length names)) (has_many x.domain) k.3 in
    let first = many.0 in grind (arith, nat_tests)

-- there is room for an attribute without fault
pub room_left : (names : List Text) (ws : List Text) (name : Text) → JudgesWords names ws (Declares name) → length names < 256
room_left names ws name j = room_by names (declared ws) j.1 j.2

-- the attributes of a text without a fault, as far as they were put
pub record Put (text rest : Text) (s : Attributes) : Type 0 where
  pub number : ℕ
  pub form : IsSchema s
  pub same : schema_from number s (file_lines rest) ≡ schema_of text

next_is : (text rest line after : Text) (s whole : Attributes) (p : Put text rest s) → file_lines rest ≡ line ∷ file_lines after → schema_of text ≡ Ok whole → schema_from p.number s (line ∷ file_lines after) ≡ Ok whole
next_is text rest line after s whole p lines ok = ap (λ ls. schema_from p.number s ls) (sym lines) ∙ p.same ∙ ok

unflawed : (n : ℕ) (s whole : Attributes) (line : Text) (lines : List Text) (a : Attribute) (o : Option SchemaKind) → declares_nothing (words line) ≡ false → declared (words line) ≡ Some a
    → kind_of (names_of_attributes s) a ≡ o → schema_from n s (line ∷ lines) ≡ Ok whole → o ≡ None
unflawed n s whole line lines a None m d e h = refl
unflawed n s whole line lines a (Some kind) m d e h =
    let k = schema_from-fault n s line lines kind m (ap (judge (names_of_attributes s)) d ∙ ap (attribute_or_fault a) e) in absurd (cc)

no_flaw : (text rest line after : Text) (s whole : Attributes) (a : Attribute) → file_lines rest ≡ line ∷ file_lines after → schema_of text ≡ Ok whole → Some a ≡ declared_on (words line) → Put text rest s
    → kind_of (names_of_attributes s) a ≡ None
no_flaw text rest line after s whole a lines ok d p =
    let k = on_by (declares_nothing (words line)) (declared (words line)) a d in
    unflawed p.number s whole line (file_lines after) a (kind_of (names_of_attributes s) a) k.0 k.1 refl (next_is text rest line after s whole p lines ok)

-- the attribute that the next line declares may be put
pub next_may_be_put : (text rest line after : Text) (s whole : Attributes) (a : Attribute) → file_lines rest ≡ line ∷ file_lines after → schema_of text ≡ Ok whole → Some a ≡ declared_on (words line) → Put text rest s
    → IsSchema (s ++ a ∷ [])
next_may_be_put text rest line after s whole a lines ok d p =
    may_be_put s a p.form (declared_said (words line) a (on_by (declares_nothing (words line)) (declared (words line)) a d).1) (no_flaw text rest line after s whole a lines ok d p)

pub put_next : (text rest line after : Text) (s whole new : Attributes) (a : Attribute) → file_lines rest ≡ line ∷ file_lines after → schema_of text ≡ Ok whole → Some a ≡ declared_on (words line)
    → new ≡ s ++ a ∷ [] → Put text rest s → Put text after new
put_next text rest line after s whole new a lines ok d put p =
    let k = on_by (declares_nothing (words line)) (declared (words line)) a d in
    let none = no_flaw text rest line after s whole a lines ok d p in
    record {
      number = p.number + 1;
      form = rw put (next_may_be_put text rest line after s whole a lines ok d p);
      same = ap (λ x. schema_from (p.number + 1) x (file_lines after)) put
          ∙ sym (schema_from-declares p.number s line (file_lines after) a k.0 (ap (judge (names_of_attributes s)) k.1 ∙ ap (attribute_or_fault a) none))
          ∙ ap (λ ls. schema_from p.number s ls) (sym lines) ∙ p.same;
    }
