-- The reply to a DUMP is a load file of the rows that it tells.
use Rattle.std.proofs.Common.{◌≡◌, ℕ, ◌+◌, Bool, true, false, not, cond, List, [], ◌∷◌, ◌++◌, length, All, Result, Ok, Err, refl, sym, ap, ◌∙◌, append_assoc, length-append}
use Rattle.std.specs.Prelude.{map}
use Rattle.std.specs.List.{flat_map, list_all}
use Rattle.std.proofs.lemmas.Bool.{and_parts, or_parts, or_from, not-true}
use Rattle.std.proofs.lemmas.List.{append-nil, map-append}
use Rattle.std.proofs.lemmas.List.Elements.{All-head, All-tail}
use Rattle.be_base.specs.Text.{Text, IsName, same_text}
use Rattle.be_base.specs.TextLists.{is_among_texts, all_differ}
use Rattle.be_io.specs.FileLines.{file_lines}
use Rattle.be_model.specs.declared.changes.Row.{Row}
use Rattle.be_model.specs.Forms.{IsConj}
use Rattle.be_model.specs.Lies.{row_lies}
use Rattle.be_model.specs.Schemas.{Attributes, IsSchema}
use Rattle.be_model.specs.Texts.{NamesAreNames}
use Rattle.be_model.proofs.Attributes.{same_text_sym}
use Rattle.be_expr.proofs.CanonicalMeaning.{texts_are_read}
use Rattle.be_protocol.specs.Replies.{row_line, with_lf}
use Rattle.be_load_files.specs.declared.faults.TableFault.{TableFault}
use Rattle.be_load_files.specs.declared.faults.TableFault.TheVariants.{Line}
use Rattle.be_load_files.specs.declared.faults.TableKind.TheVariants.{Twice}
use Rattle.be_load_files.specs.Tables.{row_names, next_row, with_said, rows_after_line, going_on, table_from}
use Rattle.be_load_files.specs.Dumps.{as_table, DumpsReadBack}
use Rattle.be_load_files.proofs.DumpLines.{IsRead, said_on-row_line, row_line-IsLine, file_lines-with_lf, end_line, end_line-IsLine}

abbrev IsFormed : Row → Type 0
IsFormed row = IsName row.name × IsConj row.conj

-- each has a name, and its condition is read back
abbrev AreWritten : Attributes → List Row → Type 0
AreWritten s [] = Unit {0}
AreWritten s (row ∷ rows) = (IsName row.name × IsRead s row) × AreWritten s rows

written : (s : Attributes) (rows : List Row) → IsSchema s → NamesAreNames s → All IsFormed rows → list_all (row_lies s) rows ≡ true → AreWritten s rows
written s [] f names forms lie = tt
written s (row ∷ rows) f names forms lie =
    let parts = and_parts (row_lies s row) (list_all (row_lies s) rows) lie in
    let form = All-head IsFormed row rows forms in
    ((form.0, texts_are_read s row.conj f names form.1 parts.0), written s rows f names (All-tail IsFormed row rows forms) parts.1)

-- the lines of the reply
lines_back : (s : Attributes) (n c : ℕ) (rows : List Row) → AreWritten s rows → file_lines (flat_map with_lf (map (row_line s) rows ++ end_line n c ∷ [])) ≡ map (row_line s) rows ++ end_line n c ∷ []
lines_back s n c [] w = file_lines-with_lf (end_line n c) [] (end_line-IsLine n c)
lines_back s n c (row ∷ rows) w =
    file_lines-with_lf (row_line s row) (flat_map with_lf (map (row_line s) rows ++ end_line n c ∷ [])) (row_line-IsLine s row w.0.0 w.0.1)
    ∙ ap (λ (ls : List Text). row_line s row ∷ ls) (lines_back s n c rows w.1)

-- of names that differ none is among those before it
apart : (before after : List Text) (name : Text) → all_differ (before ++ name ∷ after) ≡ true → is_among_texts name before ≡ false
apart [] after name d = refl
apart (x ∷ before) after name d =
    let both = and_parts (not (is_among_texts x (before ++ name ∷ after))) (all_differ (before ++ name ∷ after)) d in
    or_from (same_text x name) (is_among_texts name before)
    (same_text_sym x name ∙ behind before (not-true (is_among_texts x (before ++ name ∷ after)) both.0)) (apart before after name both.1)
  where
    behind : (before : List Text) → is_among_texts x (before ++ name ∷ after) ≡ false → same_text name x ≡ false
    behind [] e = (or_parts (same_text name x) (is_among_texts x after) e).0
    behind (y ∷ before) e = behind before (or_parts (same_text y x) (is_among_texts x (before ++ name ∷ after)) e).1

-- the line of a row, under a name that no row before it has
row_read : (s : Attributes) (k : ℕ) (done : List Row) (row : Row) → IsName row.name → IsRead s row → is_among_texts row.name (row_names done) ≡ false
    → rows_after_line s k done (row_line s row) ≡ Ok (done ++ next_row done row.name row.conj ∷ [])
row_read s k done row named read apart =
    ap (with_said k done) (said_on-row_line s row named read)
    ∙ ap (λ (b : Bool). cond b (Err (Line k Twice)) (Ok (done ++ next_row done row.name row.conj ∷ []))) apart

rows_read : (s : Attributes) (k n c : ℕ) (done rows : List Row) → AreWritten s rows → all_differ (row_names done ++ row_names rows) ≡ true
    → table_from s k done (map (row_line s) rows ++ end_line n c ∷ []) ≡ Ok (done ++ as_table (length done) rows)
rows_read s k n c done [] w d = ap (λ (r : List Row). Ok r) (sym (append-nil done))
rows_read s k n c done (row ∷ rows) w d =
    let new = next_row done row.name row.conj in
    let names : row_names (done ++ new ∷ []) ++ row_names rows ≡ row_names done ++ row.name ∷ row_names rows =
    ap (λ (ns : List Text). ns ++ row_names rows) (map-append (λ (r : Row). r.name) done (new ∷ [])) ∙ append_assoc (row_names done) (row.name ∷ []) (row_names rows) in
    ap (λ (o : Result (List Row) TableFault). going_on o (λ r. table_from s (k + 1) r (map (row_line s) rows ++ end_line n c ∷ [])))
    (row_read s k done row w.0.0 w.0.1 (apart (row_names done) (row_names rows) row.name d))
    ∙ rows_read s (k + 1) n c (done ++ new ∷ []) rows w.1 (ap (λ (ns : List Text). all_differ ns) names ∙ d)
    ∙ ap (λ (r : List Row). Ok r) (append_assoc done (new ∷ []) (as_table (length (done ++ new ∷ [])) rows)
    ∙ ap (λ (m : ℕ). done ++ new ∷ as_table m rows) (length-append done (new ∷ [])))

pub dumps_read_back : DumpsReadBack
dumps_read_back s n rows f names are =
    let w = written s rows f names are.forms are.lie in
    ap (λ (ls : List Text). table_from s 1 [] ls) (lines_back s n (length rows) rows w)
    ∙ rows_read s 1 n (length rows) [] rows w are.differ
