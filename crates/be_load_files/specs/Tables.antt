-- The rows that a load file is, or its first fault.
use Rattle.std.specs.Prelude.{ℕ, ◌+◌, List, [], ◌∷◌, ◌++◌, length, map, option_and_then, Result, Ok, Err, codes, if◌then◌else◌}
use Rattle.be_base.specs.Text.{Text}
use Rattle.be_base.specs.TextLists.{is_among_texts}
use Rattle.be_base.specs.Tokens.{tokens}
use Rattle.be_base.specs.Readers.{after_word}
use Rattle.be_io.specs.FileLines.{file_lines, means_nothing}
use Rattle.be_model.specs.declared.changes.Row.{Row}
use Rattle.be_model.specs.declared.preds.Pred.{Pred}
use Rattle.be_model.specs.Schemas.{Attributes}
use Rattle.be_expr.specs.declared.faults.ExprFault.{ExprFault}
use Rattle.be_expr.specs.Changes.{new_row}
use Rattle.be_expr.specs.Named.{named}
use Rattle.be_load_files.specs.declared.faults.TableFault.{TableFault}
use Rattle.be_load_files.specs.declared.faults.TableFault.TheVariants.{Line}
use Rattle.be_load_files.specs.declared.faults.TableKind.TheVariants.{Twice}
use Rattle.be_load_files.specs.Faults.{fault_at}

abbrev pub row_names : List Row → List Text
row_names rows = map (λ (row : Row). row.name) rows

-- the name and the condition behind the word `ROW`, or their first fault
abbrev pub said_on : Attributes → Text → Result (Text × List Pred) ExprFault
said_on s line = named s (option_and_then (after_word (codes "ROW")) (tokens line))

-- the next row: its id is its place, and it is of session 0
abbrev pub next_row : List Row → Text → List Pred → Row
next_row rows name conj = new_row (length rows) 0 name conj

-- the rows with the next one, where none before it has its name
abbrev pub with_next : ℕ → List Row → Text × List Pred → Result (List Row) TableFault
with_next n rows said =
    if is_among_texts said.0 (row_names rows) then Err (Line n Twice) else Ok (rows ++ next_row rows said.0 said.1 ∷ [])

abbrev pub with_said : ℕ → List Row → Result (Text × List Pred) ExprFault → Result (List Row) TableFault
with_said n rows (Ok said) = with_next n rows said
with_said n rows (Err fault) = Err (fault_at n fault)

-- the rows after the line of this number, or its first kind of fault
abbrev pub rows_after_line : Attributes → ℕ → List Row → Text → Result (List Row) TableFault
rows_after_line s n rows line = if means_nothing line then Ok rows else with_said n rows (said_on s line)

abbrev pub going_on : Result (List Row) TableFault → (List Row → Result (List Row) TableFault) → Result (List Row) TableFault
going_on (Ok rows) rest = rest rows
going_on (Err fault) rest = Err fault

-- the rows after these lines, or the first faulty line, where the first of them has this number
abbrev pub table_from : Attributes → ℕ → List Row → List Text → Result (List Row) TableFault
table_from s n rows [] = Ok rows
table_from s n rows (line ∷ lines) = going_on (rows_after_line s n rows line) (λ more. table_from s (n + 1) more lines)

-- the rows that a text is, or its first fault
abbrev pub table_of : Attributes → Text → Result (List Row) TableFault
table_of s text = table_from s 1 [] (file_lines text)
