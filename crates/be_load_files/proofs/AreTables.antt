-- The rows of a load file are a table, and lie in the schema.
use Rattle.std.proofs.Common.{◌≡◌, ℕ, suc, ◌+◌, ◌≤◌, Bool, true, false, not, cond, List, [], ◌∷◌, ◌++◌, length, Result, Ok, Err, refl, sym, ap, ◌∙◌, subst, arith, length-append}
use Rattle.std.specs.Prelude.{option_and_then, codes}
use Rattle.std.specs.List.{list_all}
use Rattle.std.proofs.lemmas.Bool.{and_from, not_from_false}
use Rattle.std.proofs.lemmas.List.{map-append}
use Rattle.std.proofs.lemmas.List.Folds.{list_all-append}
use Rattle.be_base.specs.Text.{Text}
use Rattle.be_base.specs.TextLists.{is_among_texts, all_differ}
use Rattle.be_base.specs.Tokens.{tokens}
use Rattle.be_base.specs.Readers.{after_word}
use Rattle.be_io.specs.FileLines.{means_nothing}
use Rattle.be_model.specs.declared.changes.Row.{Row}
use Rattle.be_model.specs.declared.preds.Pred.{Pred}
use Rattle.be_model.specs.ByIds.{ByIds, SayIds}
use Rattle.be_model.specs.Lies.{conj_lies, row_lies}
use Rattle.be_model.specs.Schemas.{Attributes}
use Rattle.be_model.proofs.Attributes.{all_differ_push}
use Rattle.be_model.proofs.RisingIds.{SayIds-snoc}
use Rattle.be_change.specs.Opening.{IsTable, by_place, is_of_nobody}
use Rattle.be_expr.specs.declared.faults.ExprFault.{ExprFault}
use Rattle.be_expr.proofs.NamedFirst.{named_lies}
use Rattle.be_load_files.specs.declared.faults.TableFault.{TableFault}
use Rattle.be_load_files.specs.declared.faults.TableFault.TheVariants.{Line}
use Rattle.be_load_files.specs.declared.faults.TableKind.TheVariants.{Twice}
use Rattle.be_load_files.proofs.SoFar.{SoFar}
use Rattle.be_load_files.specs.Tables.{row_names, said_on, next_row, with_said, rows_after_line, going_on, table_from}

-- the rows of so many lines
pub record AreTable (s : Attributes) (rows : List Row) (lines : ℕ) : Type 0 where
  pub table : IsTable rows
  pub lie : list_all (row_lies s) rows ≡ true
  pub few : length rows ≤ lines

by_place-snoc : (place : ℕ) (rows : List Row) (row : Row) → by_place place (rows ++ row ∷ []) ≡ by_place place rows ++ (place + length rows, row) ∷ []
by_place-snoc place [] row = ap (λ (n : ℕ). (n, row) ∷ []) (let e : place ≡ place + 0 = omega arith in e)
by_place-snoc place (x ∷ rows) row =
    ap (λ (m : ByIds). (place, x) ∷ m) (by_place-snoc (place + 1) rows row ∙ ap (λ (n : ℕ). by_place (place + 1) rows ++ (n, row) ∷ []) (let e : (place + 1) + length rows ≡ place + suc (length rows) = omega arith in e))

all_last : (p : Row → Bool) (rows : List Row) (row : Row) → list_all p rows ≡ true → p row ≡ true → list_all p (rows ++ row ∷ []) ≡ true
all_last p rows row all here = list_all-append p rows (row ∷ []) ∙ and_from (list_all p rows) (list_all p (row ∷ [])) all (and_from (p row) true here refl)

-- a row more, under a name that no row before it has
row_more : (s : Attributes) (rows : List Row) (name : Text) (conj : List Pred) (n : ℕ) → is_among_texts name (row_names rows) ≡ false → conj_lies s conj ≡ true
    → AreTable s rows n → AreTable s (rows ++ next_row rows name conj ∷ []) (n + 1)
row_more s rows name conj n apart lies a =
    let row = next_row rows name conj in
    record {
      table = record {
        owner = all_last is_of_nobody rows row a.table.owner refl;
        ids = subst (λ (m : ByIds). SayIds m) (sym (by_place-snoc 0 rows row)) (SayIds-snoc (by_place 0 rows) (0 + length rows, row) a.table.ids (let e : length rows ≡ 0 + length rows = omega arith in e));
        names = ap (λ (ns : List Text). all_differ ns) (map-append (λ (r : Row). r.name) rows (row ∷ [])) ∙ all_differ_push (row_names rows) name
            ∙ and_from (all_differ (row_names rows)) (not (is_among_texts name (row_names rows))) a.table.names (not_from_false (is_among_texts name (row_names rows)) apart);
      };
      lie = all_last (row_lies s) rows row a.lie lies;
      few = let f = a.few in omega (arith, length-append rows (row ∷ []));
    }

more_by : (s : Attributes) (k : ℕ) (rows more : List Row) (said : Text × List Pred) (n : ℕ) (b : Bool) → is_among_texts said.0 (row_names rows) ≡ b → conj_lies s said.1 ≡ true
    → cond b (Err (Line k Twice)) (Ok (rows ++ next_row rows said.0 said.1 ∷ [])) ≡ Ok more → AreTable s rows n → AreTable s more (n + 1)
more_by s k rows more said n true e lies is a = absurd (cc)
more_by s k rows more said n false e lies is a =
    let same : rows ++ next_row rows said.0 said.1 ∷ [] ≡ more = cc in
    subst (λ (r : List Row). AreTable s r (n + 1)) same (row_more s rows said.0 said.1 n e lies a)

said_more : (s : Attributes) (k : ℕ) (rows more : List Row) (read : Result (Text × List Pred) ExprFault) (n : ℕ) → ((said : Text × List Pred) → read ≡ Ok said → conj_lies s said.1 ≡ true)
    → with_said k rows read ≡ Ok more → AreTable s rows n → AreTable s more (n + 1)
said_more s k rows more (Ok said) n lies is a = more_by s k rows more said n (is_among_texts said.0 (row_names rows)) refl (lies said refl) is a
said_more s k rows more (Err fault) n lies is a = absurd (cc)

line_more_by : (s : Attributes) (k : ℕ) (rows more : List Row) (line : Text) (n : ℕ) (b : Bool) → cond b (Ok rows) (with_said k rows (said_on s line)) ≡ Ok more
    → AreTable s rows n → AreTable s more (n + 1)
line_more_by s k rows more line n true is a =
    let same : rows ≡ more = cc in
    subst (λ (r : List Row). AreTable s r (n + 1)) same (record { table = a.table; lie = a.lie; few = let f = a.few in omega arith })
line_more_by s k rows more line n false is a =
    said_more s k rows more (said_on s line) n (λ said e. named_lies s (option_and_then (after_word (codes "ROW")) (tokens line)) said e) is a

from_line : (s : Attributes) (k : ℕ) (more : List Row) (lines : List Text) (n : ℕ) (o : Result (List Row) TableFault) → ((r : List Row) → o ≡ Ok r → AreTable s r (n + 1))
    → ((r : List Row) → table_from s (k + 1) r lines ≡ Ok more → AreTable s r (n + 1) → AreTable s more ((n + 1) + length lines))
    → going_on o (λ r. table_from s (k + 1) r lines) ≡ Ok more → AreTable s more (n + suc (length lines))
from_line s k more lines n (Ok r) first along h =
    let same : (n + 1) + length lines ≡ n + suc (length lines) = omega arith in
    subst (λ (m : ℕ). AreTable s more m) same (along r h (first r refl))
from_line s k more lines n (Err fault) first along h = absurd (cc)

-- the rows of lines without a fault are a table
pub AreTable-table_from : (s : Attributes) (k : ℕ) (rows more : List Row) (lines : List Text) (n : ℕ) → table_from s k rows lines ≡ Ok more → AreTable s rows n → AreTable s more (n + length lines)
AreTable-table_from s k rows more [] n is a =
    let same : rows ≡ more = cc in
    let here : n ≡ n + 0 = omega arith in
    subst (λ (r : List Row). AreTable s r (n + 0)) same (subst (λ (m : ℕ). AreTable s rows m) here a)
AreTable-table_from s k rows more (line ∷ lines) n is a =
    from_line s k more lines n (rows_after_line s k rows line)
    (λ r e. line_more_by s k rows r line n (means_nothing line) e a)
    (λ r h b. AreTable-table_from s (k + 1) r more lines (n + 1) h b) is

no_rows : (s : Attributes) → AreTable s [] 0
no_rows s = record { table = record { owner = refl; ids = tt; names = refl }; lie = refl; few = omega arith }

-- and so are those of a text, as far as it is read
pub AreTable-SoFar : (s : Attributes) (text rest : Text) (number : ℕ) (rows : List Row) → SoFar s text rest number rows → AreTable s rows (length text)
AreTable-SoFar s text rest number rows p =
    let a = AreTable-table_from s 1 [] rows p.before 0 p.read (no_rows s) in
    record { table = a.table; lie = a.lie; few = let f = a.few in let w = p.within in omega (arith, p.count) }
