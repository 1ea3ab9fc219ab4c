-- What a scan of a schema's text keeps of its lines.
use Rattle.std.specs.Prelude.{◌≡◌, ◌||◌, true, false, List, length, map, codes, Option, None, nat_le, Result, Ok, Err, if◌then◌else◌}
use Rattle.be_base.specs.declared.limits.TheConstants.{ATTRIBUTES}
use Rattle.be_base.specs.Text.{Text}
use Rattle.be_model.specs.declared.schemas.Attribute.{Attribute}
use Rattle.be_model.specs.declared.schemas.Domain.{Domain}
use Rattle.be_model.specs.Schemas.{Attributes, reserved_words, is_among_texts}
use Rattle.be_event.specs.declared.schema_texts.SchemaFault.{SchemaFault}
use Rattle.be_event.specs.declared.schema_texts.SchemaFault.TheVariants.{Line}
use Rattle.be_event.specs.declared.schema_texts.LineFault.{LineFault}
use Rattle.be_event.specs.declared.schema_texts.SchemaKind.{SchemaKind}
use Rattle.be_event.specs.declared.schema_texts.SchemaKind.TheVariants.{Form, Reserved, Twice, Range, Many}
use Rattle.be_event.specs.declared.schema_texts.Declared.{Declared}
use Rattle.be_event.specs.declared.schema_texts.Flaws.{Flaws}
use Rattle.be_event.specs.declared.schema_texts.Judged.{Judged}
use Rattle.be_event.specs.declared.schema_texts.Judged.TheVariants.{Nothing, Fault, Declares}
use Rattle.be_event.specs.SchemaTexts.{declares_nothing, declared, repeats, is_out_of_range, has_many, first_kind, declaration}

-- as it is printed
abbrev pub kind_name : SchemaKind → Text
kind_name Form = codes "Form"
kind_name Reserved = codes "Reserved"
kind_name Twice = codes "Twice"
kind_name Range = codes "Range"
kind_name Many = codes "Many"

abbrev pub names_declared : List Declared → List Text
names_declared ds = map (λ (d : Declared). d.0) ds

-- the attribute's first fault, or its name
abbrev pub JudgesWords : List Text → List Text → Judged → Type 0
JudgesWords names ws Nothing = declares_nothing ws ≡ true
JudgesWords names ws (Fault kind) = (declares_nothing ws ≡ false) × (declaration names ws ≡ Err kind)
JudgesWords names ws (Declares name) = (declares_nothing ws ≡ false) × (a : Attribute) × (declaration names ws ≡ Ok a) × (a.name ≡ name)

-- the text is a schema, or has this fault
abbrev pub Checks : Result (Unit {0}) LineFault → Result Attributes SchemaFault → Type 0
Checks (Ok _) read = (s : Attributes) × (read ≡ Ok s)
Checks (Err fault) read = read ≡ Err (Line fault.line fault.kind)

-- the attribute that a line declares, where it means something
abbrev pub declared_on : List Text → Option Attribute
declared_on ws = if declares_nothing ws then None else declared ws

-- what is wrong with the domain
abbrev pub flaws_of : Domain → Flaws
flaws_of d = record { repeats = repeats d; range = is_out_of_range d; many = has_many d }

-- the first kind of fault of an attribute of this name that comes after these names, where its domain has these flaws
abbrev pub flawed : List Text → Text → Flaws → Option SchemaKind
flawed names name f =
    first_kind (is_among_texts name reserved_words) (is_among_texts name names || f.repeats) f.range (nat_le ATTRIBUTES (length names) || f.many)
