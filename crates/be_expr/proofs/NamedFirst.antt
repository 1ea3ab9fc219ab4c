-- A name and a condition, by the parts of their text.
use Rattle.std.proofs.Common.{◌≡◌, true, List, ◌∷◌, Option, Some, None, option_map, option_and_then, Result, Ok, Err, refl, sym, ◌∙◌, ap}
use Rattle.std.specs.Option.{option_map_or}
use Rattle.be_base.specs.Text.{Text, name_of}
use Rattle.be_base.specs.Tokens.{Lexeme, word}
use Rattle.be_base.specs.Readers.{Read, read_word}
use Rattle.be_base.specs.declared.names.NameFault.{NameFault}
use Rattle.be_model.specs.declared.preds.Pred.{Pred}
use Rattle.be_model.specs.Schemas.{Attributes}
use Rattle.be_expr.specs.declared.faults.ExprFault.{ExprFault}
use Rattle.be_expr.specs.declared.faults.ExprFault.TheVariants.{Bad, Attr, Dom, Many, NoMemory}
use Rattle.be_model.specs.Lies.{conj_lies}
use Rattle.be_expr.specs.Readings.{written}
use Rattle.be_expr.specs.Expressions.{condition, Reads}
use Rattle.be_expr.specs.Named.{naming, named}
use Rattle.be_expr.proofs.Lying.{meaning_lies}

abbrev word_then : Attributes → Text × List Lexeme → Result (Text × List Pred) ExprFault
word_then s r = naming (name_of r.0) (condition s (Some r.1))

by_word : (s : Attributes) (ts : List Lexeme) → named s (Some ts) ≡ option_map_or (word_then s) (read_word ts) (Err Bad)
by_word s (word w ∷ ts) = refl
by_word s _ = refl

by_words : (s : Attributes) (o : Option (List Lexeme)) → named s o ≡ option_map_or (word_then s) (option_and_then read_word o) (Err Bad)
by_words s None = refl
by_words s (Some ts) = by_word s ts

no_tokens : (name : Result Text NameFault) → Err Bad ≡ naming name (Err Bad)
no_tokens (Ok name) = refl
no_tokens (Err fault) = refl

behind : (s : Attributes) (w : Text) (rest : Option (List Lexeme)) → option_map_or (word_then s) (option_map (λ ts. (w, ts)) rest) (Err Bad) ≡ naming (name_of w) (condition s rest)
behind s w None = no_tokens (name_of w)
behind s w (Some ts) = refl

-- a text that begins with this word
pub word_first : (s : Attributes) (w : Text) (o rest : Option (List Lexeme)) → option_map (λ ts. (w, ts)) rest ≡ option_and_then read_word o
    → named s o ≡ naming (name_of w) (condition s rest)
word_first s w o rest h = by_words s o ∙ ap (λ (r : Read Text). option_map_or (word_then s) r (Err Bad)) (sym h) ∙ behind s w rest

-- a fault of the condition is the fault, where the name has none
pub fault_behind : (name : Text) (fault : ExprFault) (read : Result (List Pred) ExprFault) → Reads (Err fault) read → Reads (Err fault) (naming (Ok name) read)
fault_behind name Bad read e = ap (naming (Ok name)) e
fault_behind name (Attr a) read e = ap (naming (Ok name)) e
fault_behind name (Dom a) read e = ap (naming (Ok name)) e
fault_behind name (Many n) read e = ap (naming (Ok name)) e
fault_behind name NoMemory read e = ((name, e.0), ap (naming (Ok name)) e.1)

naming_lies : (s : Attributes) (name : Result Text NameFault) (read : Result (List Pred) ExprFault) (said : Text × List Pred) → ((conj : List Pred) → read ≡ Ok conj → conj_lies s conj ≡ true)
    → naming name read ≡ Ok said → conj_lies s said.1 ≡ true
naming_lies s (Ok name) (Ok conj) said lies e = let same : conj ≡ said.1 = ap (λ (x : Text × List Pred). x.1) (let is : (name, conj) ≡ said = cc in is) in sym (ap (conj_lies s) same) ∙ lies conj refl
naming_lies s (Ok name) (Err fault) said lies e = absurd (cc)
naming_lies s (Err fault) read said lies e = absurd (cc)

-- a condition that is read behind a name lies in the schema
pub named_lies : (s : Attributes) (o : Option (List Lexeme)) (said : Text × List Pred) → named s o ≡ Ok said → conj_lies s said.1 ≡ true
named_lies s (Some (word w ∷ ts)) said e =
    naming_lies s (name_of w) (condition s (Some ts)) said (λ conj is. meaning_lies s (option_and_then written (Some ts)) conj is) e
named_lies s _ said e = absurd (cc)
