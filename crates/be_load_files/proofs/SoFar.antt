-- A load file, read line by line.
use Rattle.std.proofs.Common.{◌≡◌, ℕ, suc, ◌+◌, ◌<◌, ◌≤◌, true, false, List, [], ◌∷◌, ◌++◌, length, Result, Ok, Err, sym, ap, ◌∙◌, arith, append_assoc, length-append, if◌then◌else◌}
use Rattle.be_base.specs.Text.{Text}
use Rattle.be_io.specs.FileLines.{file_lines, means_nothing}
use Rattle.be_model.specs.declared.changes.Row.{Row}
use Rattle.be_model.specs.Schemas.{Attributes}
use Rattle.be_load_files.specs.declared.faults.TableFault.{TableFault}
use Rattle.be_load_files.specs.declared.faults.TableFault.TheVariants.{Line, NoMemory}
use Rattle.be_load_files.specs.declared.read.Table.{Table}
use Rattle.be_load_files.specs.Tables.{said_on, with_said, rows_after_line, going_on, table_from, table_of}
use Rattle.be_load_files.specs.Reading.{IsSaid, TakesMemory, ReadsTable, PutsRow}

append_by : (s : Attributes) (n : ℕ) (more : List Row) (before lines : List Text) (o : Result (List Row) TableFault)
    → ((r : List Row) → table_from s (n + 1) r before ≡ Ok more → table_from s (n + 1) r (before ++ lines) ≡ table_from s ((n + 1) + length before) more lines)
    → going_on o (λ r. table_from s (n + 1) r before) ≡ Ok more
    → going_on o (λ r. table_from s (n + 1) r (before ++ lines)) ≡ table_from s (n + suc (length before)) more lines
append_by s n more before lines (Ok r) along h =
    let same : (n + 1) + length before ≡ n + suc (length before) = omega arith in
    along r h ∙ ap (λ (m : ℕ). table_from s m more lines) same
append_by s n more before lines (Err fault) along h = absurd (cc)

-- where some lines have no fault, the lines after them decide
pub table_from-append : (s : Attributes) (n : ℕ) (rows more : List Row) (before lines : List Text) → table_from s n rows before ≡ Ok more
    → table_from s n rows (before ++ lines) ≡ table_from s (n + length before) more lines
table_from-append s n rows more [] lines e =
    let same : rows ≡ more = cc in
    let here : n ≡ n + 0 = omega arith in
    ap (λ (r : List Row). table_from s n r lines) same ∙ ap (λ (m : ℕ). table_from s m more lines) here
table_from-append s n rows more (line ∷ before) lines e =
    append_by s n more before lines (rows_after_line s n rows line) (λ r h. table_from-append s (n + 1) r more before lines h) e

-- the lines of a text before the rest have no fault, and give these rows
pub record SoFar (s : Attributes) (text rest : Text) (number : ℕ) (rows : List Row) : Type 0 where
  pub before : List Text
  pub lines : file_lines text ≡ before ++ file_lines rest
  pub read : table_from s 1 [] before ≡ Ok rows
  pub count : length before ≡ number
  pub within : number + length rest ≤ length text

-- what is left decides
left : (s : Attributes) (text rest : Text) (number : ℕ) (rows : List Row) → SoFar s text rest number rows → table_of s text ≡ table_from s (number + 1) rows (file_lines rest)
left s text rest number rows p =
    let next : 1 + length p.before ≡ number + 1 = omega (arith, p.count) in
    ap (λ (ls : List Text). table_from s 1 [] ls) p.lines ∙ table_from-append s 1 [] rows p.before (file_lines rest) p.read
    ∙ ap (λ (m : ℕ). table_from s m rows (file_lines rest)) next

-- one line more
pub line_more : (s : Attributes) (text rest line after : Text) (number : ℕ) (rows more : List Row) → file_lines rest ≡ line ∷ file_lines after → length after < length rest
    → rows_after_line s (number + 1) rows line ≡ Ok more → SoFar s text rest number rows → SoFar s text after (number + 1) more
line_more s text rest line after number rows more lines shorter is p =
    let next : 1 + length p.before ≡ number + 1 = omega (arith, p.count) in
    record {
      before = p.before ++ line ∷ [];
      lines = p.lines ∙ ap (λ (ls : List Text). p.before ++ ls) lines ∙ sym (append_assoc p.before (line ∷ []) (file_lines after));
      read = table_from-append s 1 [] rows p.before (line ∷ []) p.read ∙ ap (λ (m : ℕ). table_from s m rows (line ∷ [])) next
          ∙ ap (λ (o : Result (List Row) TableFault). going_on o (λ r. table_from s (number + 1 + 1) r [])) is;
      count = length-append p.before (line ∷ []) ∙ omega (arith, p.count);
      within = let w = p.within in omega arith;
    }

-- a line with a fault
pub line_faulty : (s : Attributes) (text rest line after : Text) (number : ℕ) (rows : List Row) (fault : TableFault) → file_lines rest ≡ line ∷ file_lines after
    → rows_after_line s (number + 1) rows line ≡ Err fault → SoFar s text rest number rows → table_of s text ≡ Err fault
line_faulty s text rest line after number rows fault lines is p =
    left s text rest number rows p ∙ ap (λ (ls : List Text). table_from s (number + 1) rows ls) lines
    ∙ ap (λ (o : Result (List Row) TableFault). going_on o (λ r. table_from s (number + 1 + 1) r (file_lines after))) is

-- a line that takes memory
pub line_wants : (s : Attributes) (text rest line after : Text) (number : ℕ) (rows : List Row) → file_lines rest ≡ line ∷ file_lines after
    → IsSaid s line → SoFar s text rest number rows → TakesMemory s text
line_wants s text rest line after number rows lines said p = record {
  before = p.before;
  after = file_lines after;
  line = line;
  rows = rows;
  lines = p.lines ∙ ap (λ (ls : List Text). p.before ++ ls) lines;
  faultless = p.read;
  said = said;
}

row_line : (s : Attributes) (n : ℕ) (rows : List Row) (line : Text) (o : Result (List Row) TableFault) → means_nothing line ≡ false → with_said n rows (said_on s line) ≡ o → rows_after_line s n rows line ≡ o
row_line s n rows line o means is = ap (λ b. if b then Ok rows else with_said n rows (said_on s line)) means ∙ is

-- a line that means nothing
pub nothing_more : (s : Attributes) (text rest line after : Text) (number : ℕ) (rows : List Row) → file_lines rest ≡ line ∷ file_lines after → length after < length rest
    → means_nothing line ≡ true → SoFar s text rest number rows → SoFar s text after (number + 1) rows
nothing_more s text rest line after number rows lines shorter means p =
    line_more s text rest line after number rows rows lines shorter (ap (λ b. if b then Ok rows else with_said (number + 1) rows (said_on s line)) means) p

-- a line that is a row
pub row_more : (s : Attributes) (text rest line after : Text) (number : ℕ) (rows more : List Row) → file_lines rest ≡ line ∷ file_lines after → length after < length rest
    → means_nothing line ≡ false → with_said (number + 1) rows (said_on s line) ≡ Ok more → SoFar s text rest number rows → SoFar s text after (number + 1) more
row_more s text rest line after number rows more lines shorter means is p =
    line_more s text rest line after number rows more lines shorter (row_line s (number + 1) rows line (Ok more) means is) p

-- a line that was refused
pub row_refused : (s : Attributes) (text rest line after : Text) (number : ℕ) (rows : List Row) (t : Table) (fault : TableFault) → file_lines rest ≡ line ∷ file_lines after
    → means_nothing line ≡ false → PutsRow (Err fault) t (with_said (number + 1) rows (said_on s line)) (IsSaid s line) → SoFar s text rest number rows → ReadsTable s text (Err fault)
row_refused s text rest line after number rows t (Line n kind) lines means is p =
    line_faulty s text rest line after number rows (Line n kind) lines (row_line s (number + 1) rows line (Err (Line n kind)) means is) p
row_refused s text rest line after number rows t NoMemory lines means said p = line_wants s text rest line after number rows lines said p
