-- The texts of schemas.
use Rattle.std.specs.Prelude.{◌≡◌, ℕ, ◌+◌, ◌==◌, ◌||◌, not, Bool, true, false, List, [], ◌∷◌, ◌++◌, length, nat_le, nat_lt, Option, Some, None, option_map, option_and_then, Result, Ok, Err, codes, if◌then◌else◌}
use Rattle.std.specs.List.{list_all}
use Rattle.be_base.specs.declared.limits.TheConstants.{ATTRIBUTES, SYMBOLS}
use Rattle.be_base.specs.Text.{Text, same_text, name_of}
use Rattle.be_base.specs.Numbers.{int_of}
use Rattle.be_base.specs.Tokens.{is_blank}
use Rattle.be_base.specs.Fronts.{starts_with}
use Rattle.be_io.specs.FileLines.{file_lines}
use Rattle.be_model.specs.declared.schemas.Attribute.{Attribute}
use Rattle.be_model.specs.declared.schemas.Domain.{Domain}
use Rattle.be_model.specs.declared.schemas.Domain.TheVariants.{Int, Sym}
use Rattle.be_model.specs.Schemas.{Attributes, attribute_of, names_of_attributes, reserved_words, is_among_texts, all_differ, is_domain}
use Rattle.be_event.specs.Grammar.{is_name}
use Rattle.be_event.specs.declared.schema_texts.SchemaFault.{SchemaFault}
use Rattle.be_event.specs.declared.schema_texts.SchemaFault.TheVariants.{Line, NoMemory}
use Rattle.be_event.specs.declared.schema_texts.SchemaKind.{SchemaKind}
use Rattle.be_event.specs.declared.schema_texts.SchemaKind.TheVariants.{Form, Reserved, Twice, Range, Many}

-- a byte before words: it is part of the first one, or a word of its own
abbrev pub put_byte : ℕ → Bool → List Text → List Text
put_byte b true (word ∷ words) = (b ∷ word) ∷ words
put_byte b _ words = (b ∷ []) ∷ words

abbrev pub begins_word : Text → Bool
begins_word text = starts_with (λ b. not (is_blank b)) text

-- the words of a line: its parts between blanks
abbrev pub words : Text → List Text
words [] = []
words (b ∷ text) = if is_blank b then words text else put_byte b (begins_word text) (words text)

abbrev pub is_remark : Text → Bool
is_remark word = starts_with (λ b. b == 35) word

-- an empty or blank line, or one whose first byte after blanks is `#`
abbrev pub declares_nothing : List Text → Bool
declares_nothing [] = true
declares_nothing (word ∷ words) = is_remark word

-- `LO HI`
abbrev pub int_domain : List Text → Option Domain
int_domain (lo ∷ hi ∷ []) = option_and_then (λ l. option_map (λ h. Int l h) (int_of hi)) (int_of lo)
int_domain _ = None

-- `WORD { WORD }`, each a name
abbrev pub sym_domain : List Text → Option Domain
sym_domain [] = None
sym_domain (word ∷ words) = if list_all (λ w. is_name (name_of w)) (word ∷ words) then Some (Sym (word ∷ words)) else None

-- the domain that the words after the name say
abbrev pub domain_of : Text → List Text → Option Domain
domain_of kind words =
    if same_text kind (codes "int") then int_domain words else
    (if same_text kind (codes "sym") then sym_domain words else None)

-- the attribute that a line declares: `int NAME LO HI` or `sym NAME WORD { WORD }`
abbrev pub declared : List Text → Option Attribute
declared (kind ∷ name ∷ words) =
    if is_name (name_of name) then option_map (attribute_of name) (domain_of kind words) else None
declared _ = None

abbrev pub repeats : Domain → Bool
repeats (Int lo hi) = false
repeats (Sym words) = not (all_differ words)

-- the bounds are turned, or beyond 32 bits
abbrev pub is_out_of_range : Domain → Bool
is_out_of_range (Int lo hi) = not (is_domain (Int lo hi))
is_out_of_range (Sym words) = false

abbrev pub has_many : Domain → Bool
has_many (Int lo hi) = false
has_many (Sym words) = nat_lt SYMBOLS (length words)

-- the first kind that applies
abbrev pub first_kind : Bool → Bool → Bool → Bool → Option SchemaKind
first_kind reserved twice range many =
    if reserved then Some Reserved else
    (if twice then Some Twice else
    (if range then Some Range else
    (if many then Some Many else None)))

-- what is wrong with an attribute that comes after these names
abbrev pub kind_of : List Text → Attribute → Option SchemaKind
kind_of names a =
    first_kind (is_among_texts a.name reserved_words) (is_among_texts a.name names || repeats a.domain) (is_out_of_range a.domain)
    (nat_le ATTRIBUTES (length names) || has_many a.domain)

abbrev pub attribute_or_fault : Attribute → Option SchemaKind → Result Attribute SchemaKind
attribute_or_fault a None = Ok a
attribute_or_fault a (Some kind) = Err kind

abbrev pub judge : List Text → Option Attribute → Result Attribute SchemaKind
judge names None = Err Form
judge names (Some a) = attribute_or_fault a (kind_of names a)

-- the attribute that the words of a line declare after these names, or the line's first kind of fault
abbrev pub declaration : List Text → List Text → Result Attribute SchemaKind
declaration names words = judge names (declared words)

-- what follows a line's attribute, or the fault of the line
abbrev pub after_declaration : ℕ → Result Attribute SchemaKind → (Attribute → Result Attributes SchemaFault) → Result Attributes SchemaFault
after_declaration n (Err kind) rest = Err (Line n kind)
after_declaration n (Ok a) rest = rest a

-- the schema that these lines declare after these attributes, or the first faulty line, where the first line has this number
abbrev pub schema_from : ℕ → Attributes → List Text → Result Attributes SchemaFault
schema_from n s [] = Ok s
schema_from n s (line ∷ lines) =
    if declares_nothing (words line) then schema_from (n + 1) s lines else
    after_declaration n (declaration (names_of_attributes s) (words line)) (λ a. schema_from (n + 1) (s ++ a ∷ []) lines)

-- the schema that a text is, or its first fault
abbrev pub schema_of : Text → Result Attributes SchemaFault
schema_of text = schema_from 1 [] (file_lines text)

-- what a reader answered is what the text is. Memory can run out only where it is a schema
abbrev pub ReadsSchema : Result Attributes SchemaFault → Result Attributes SchemaFault → Type 0
ReadsSchema (Ok s) read = read ≡ Ok s
ReadsSchema (Err NoMemory) read = (s : Attributes) × (read ≡ Ok s)
ReadsSchema (Err (Line n kind)) read = read ≡ Err (Line n kind)
