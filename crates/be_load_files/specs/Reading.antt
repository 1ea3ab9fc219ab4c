-- What a reader of a load file keeps and answers.
use Rattle.std.specs.Prelude.{◌≡◌, List, [], ◌∷◌, ◌++◌, Result, Ok, Err}
use Rattle.std.specs.declared.alloc.Global.{Global}
use Rattle.std.specs.declared.vec.Vec.{Vec}
use Rattle.be_base.specs.Text.{Text}
use Rattle.be_io.specs.FileLines.{file_lines}
use Rattle.be_model.specs.declared.changes.Row.{Row}
use Rattle.be_model.specs.declared.preds.Pred.{Pred}
use Rattle.be_model.specs.Schemas.{Attributes}
use Rattle.be_load_files.specs.declared.faults.TableFault.{TableFault}
use Rattle.be_load_files.specs.declared.faults.TableFault.TheVariants.{Line, NoMemory}
use Rattle.be_load_files.specs.declared.read.Table.{Table}
use Rattle.be_load_files.specs.Tables.{row_names, said_on, table_from, table_of}

abbrev pub rows_read : Result (Vec Row Global) TableFault → Result (List Row) TableFault
rows_read (Ok rows) = Ok rows.items
rows_read (Err fault) = Err fault

-- the line has a name and a condition without a fault
abbrev pub IsSaid : Attributes → Text → Type 0
IsSaid s line = (said : Text × List Pred) × (said_on s line ≡ Ok said)

-- one of the lines has a name and a condition, and no line before it has a fault
pub record TakesMemory (s : Attributes) (text : Text) : Type 0 where
  pub before : List Text
  pub after : List Text
  pub line : Text
  pub rows : List Row
  pub lines : file_lines text ≡ before ++ line ∷ after
  pub faultless : table_from s 1 [] before ≡ Ok rows
  pub said : IsSaid s line

-- what a reader answered is what the text is. Memory can run out only at a row
abbrev pub ReadsTable : Attributes → Text → Result (List Row) TableFault → Type 0
ReadsTable s text (Ok rows) = table_of s text ≡ Ok rows
ReadsTable s text (Err NoMemory) = TakesMemory s text
ReadsTable s text (Err (Line n kind)) = table_of s text ≡ Err (Line n kind)

-- the names are those of the rows
abbrev pub KeepsNames : Table → Type 0
KeepsNames t = t.names ≡ row_names t.rows.items

-- what a row's line, or want of memory, makes of the rows
abbrev pub PutsRow : Result (Unit {0}) TableFault → Table → Result (List Row) TableFault → Type 0 → Type 0
PutsRow (Ok _) after meant IsRow = (meant ≡ Ok after.rows.items) × KeepsNames after
PutsRow (Err NoMemory) after meant IsRow = IsRow
PutsRow (Err (Line n kind)) after meant IsRow = meant ≡ Err (Line n kind)
