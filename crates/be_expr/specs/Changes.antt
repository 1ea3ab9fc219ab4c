-- The texts of changes.
use Rattle.std.specs.Prelude.{◌≡◌, ℕ, ◌<◌, Bool, true, false, List, [], ◌∷◌, ◌++◌, Option, Some, Result, Ok, Err, codes, decimal, if◌then◌else◌}
use Rattle.std.specs.Option.{option_map_or}
use Rattle.be_base.specs.Text.{Text, same_text, name_of, IsName}
use Rattle.be_base.specs.Numbers.{count_of}
use Rattle.be_base.specs.Tokens.{Lexeme, word, tokens}
use Rattle.be_base.specs.declared.limits.TheConstants.{COUNT_END}
use Rattle.be_base.specs.declared.names.NameFault.{NameFault}
use Rattle.be_model.specs.declared.preds.Pred.{Pred}
use Rattle.be_model.specs.declared.changes.Row.{Row}
use Rattle.be_model.specs.declared.changes.Change.{Change}
use Rattle.be_expr.specs.Parts.{PlainFront}
use Rattle.be_model.specs.Entries.{Entry, subscribed, unsubscribed, left, entry_of}
use Rattle.be_model.specs.Forms.{IsConj}
use Rattle.be_model.specs.Lies.{entry_lies}
use Rattle.be_model.specs.Texts.{NamesAreNames}
use Rattle.be_model.specs.Schemas.{Attributes, IsSchema}
use Rattle.be_expr.specs.declared.faults.ExprFault.{ExprFault}
use Rattle.be_expr.specs.declared.faults.ExprFault.TheVariants.{Bad}
use Rattle.be_expr.specs.Named.{named}
use Rattle.be_expr.specs.Writing.{expr_text}

-- the word of a change, its session and its serial
abbrev pub head_text : Text → ℕ → ℕ → Text
head_text kind k n = kind ++ codes " " ++ decimal k ++ codes " " ++ decimal n

-- `SUB session serial name expr`, `UNSUB session serial name` or `BYE session serial`
abbrev pub change_text : Attributes → Entry → Text
change_text s (subscribed k n row) = head_text (codes "SUB") k n ++ codes " " ++ row.name ++ codes " " ++ expr_text s row.conj
change_text s (unsubscribed k n name) = head_text (codes "UNSUB") k n ++ codes " " ++ name
change_text s (left k n) = head_text (codes "BYE") k n

abbrev pub new_row : ℕ → ℕ → Text → List Pred → Row
new_row id k name conj = record { id = record { 0 = id }; session = record { 0 = k }; name = name; conj = conj }

abbrev pub subscribing : ℕ → ℕ → ℕ → Result (Text × List Pred) ExprFault → Result Entry ExprFault
subscribing id k n (Ok read) = Ok (subscribed k n (new_row id k read.0 read.1))
subscribing id k n (Err fault) = Err fault

abbrev pub subscription : Attributes → ℕ → ℕ → ℕ → List Lexeme → Result Entry ExprFault
subscription s id k n ts = subscribing id k n (named s (Some ts))

abbrev pub unsubscribing : ℕ → ℕ → Result Text NameFault → Result Entry ExprFault
unsubscribing k n (Ok name) = Ok (unsubscribed k n name)
unsubscribing k n (Err fault) = Err Bad

abbrev pub removal : ℕ → ℕ → List Lexeme → Result Entry ExprFault
removal k n (word name ∷ []) = unsubscribing k n (name_of name)
removal k n _ = Err Bad

abbrev pub leave : ℕ → ℕ → List Lexeme → Result Entry ExprFault
leave k n [] = Ok (left k n)
leave k n _ = Err Bad

-- the change of this kind, where the numbers are those of the session and the serial
abbrev pub change_by : Attributes → ℕ → Text → Option ℕ → Option ℕ → List Lexeme → Result Entry ExprFault
change_by s id kind (Some k) (Some n) ts =
    if same_text kind (codes "SUB") then subscription s id k n ts else
    (if same_text kind (codes "UNSUB") then removal k n ts else
    (if same_text kind (codes "BYE") then leave k n ts else Err Bad))
change_by s id kind _ _ ts = Err Bad

abbrev pub change_of : Attributes → ℕ → Option (List Lexeme) → Result Entry ExprFault
change_of s id (Some (word kind ∷ word session ∷ word serial ∷ ts)) = change_by s id kind (count_of session) (count_of serial) ts
change_of s id _ = Err Bad

-- the change that a text is, where a Sub's row has this id, or the first fault
abbrev pub change : Attributes → ℕ → Text → Result Entry ExprFault
change s id text = change_of s id (tokens text)

-- the change behind this front, from the tokens of the text that is left
abbrev pub change_in : Attributes → ℕ → PlainFront → Option (List Lexeme) → Result Entry ExprFault
change_in s id front ts = option_map_or (change_by s id front.kind (Some front.session) (Some front.serial)) ts (Err Bad)

abbrev pub entry_read : Result Change ExprFault → Result Entry ExprFault
entry_read (Ok change) = Ok (entry_of change)
entry_read (Err fault) = Err fault

abbrev pub is_row_free : Entry → Bool
is_row_free (subscribed k n row) = false
is_row_free (unsubscribed k n name) = true
is_row_free (left k n) = true

-- the numbers are below the end of counts, and a Sub's row has this id and is of the change's session
abbrev pub IsNumbered : ℕ → Entry → Type 0
IsNumbered id (subscribed k n row) = (k < COUNT_END) × (n < COUNT_END) × (row.id.0 ≡ id) × (row.session.0 ≡ k)
IsNumbered id (unsubscribed k n name) = (k < COUNT_END) × (n < COUNT_END)
IsNumbered id (left k n) = (k < COUNT_END) × (n < COUNT_END)

-- the text is read as the change, where the numbers allow it
abbrev pub IsReadBack : Attributes → Text → Entry → Type 0
IsReadBack s text e = (id : ℕ) → IsNumbered id e → change s id text ≡ Ok e

-- its name is a name, and its condition has the form of one
abbrev pub IsFormed : Entry → Type 0
IsFormed (subscribed k n row) = IsName row.name × IsConj row.conj
IsFormed (unsubscribed k n name) = IsName name
IsFormed (left k n) = Unit {0}

-- reading the canonical text of a change that lies in the schema gives it back
abbrev pub ChangesAreRead : Type 0
ChangesAreRead =
    (s : Attributes) (e : Entry) → IsSchema s → NamesAreNames s → IsFormed e → entry_lies s e ≡ true → IsReadBack s (change_text s e) e
