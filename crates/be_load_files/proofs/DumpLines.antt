-- The lines of a reply to a DUMP.
use Rattle.std.proofs.Common.{◌≡◌, ℕ, false, List, [], ◌∷◌, ◌++◌, Option, Some, None, Ok, codes, refl, sym, ap, ◌∙◌, arith, append_assoc}
use Rattle.std.specs.Prelude.{option_and_then, decimal}
use Rattle.be_base.specs.Text.{Text, IsName, IsWord, is_word_byte}
use Rattle.be_base.specs.Tokens.{Lexeme, word, tokens}
use Rattle.be_base.specs.Readers.{after_word}
use Rattle.be_base.proofs.Joined.{IsWord-from_name, word_space}
use Rattle.be_base.proofs.NameForms.{name_of-Ok}
use Rattle.be_io.specs.FileLines.{file_lines}
use Rattle.be_io.proofs.FileLineLemmas.{file_lines-ClosedLine}
use Rattle.be_model.specs.declared.changes.Row.{Row}
use Rattle.be_model.specs.Schemas.{Attributes}
use Rattle.be_expr.specs.Expressions.{condition, expression}
use Rattle.be_expr.specs.Named.{naming, named}
use Rattle.be_expr.specs.Writing.{expr_text}
use Rattle.be_protocol.specs.Replies.{number, row_line, with_lf}
use Rattle.be_load_files.specs.Tables.{said_on}
use Rattle.be_load_files.proofs.Bytes.{has, has-append, has_not, lf_is_stray, cr_is_stray, decimal_without, without_cr-none}

-- the canonical text of the row's condition is read as the condition
abbrev pub IsRead : Attributes → Row → Type 0
IsRead s row = expression s (expr_text s row.conj) ≡ Ok row.conj

-- a line that ends where its LF stands, and loses nothing there
pub record IsLine (line : Text) : Type 0 where
  pub lf : has 10 line ≡ false
  pub cr : has 13 line ≡ false

-- the lines of a text that was written of lines
pub file_lines-with_lf : (line rest : Text) → IsLine line → file_lines (with_lf line ++ rest) ≡ line ∷ file_lines rest
file_lines-with_lf line rest is =
    file_lines-ClosedLine (with_lf line ++ rest) line rest (is.lf, append_assoc line (10 ∷ []) rest)
    ∙ ap (λ (l : Text). l ∷ file_lines rest) (without_cr-none line is.cr)

-- what a row's line says
record Says (s : Attributes) (row : Row) : Type 0 where
  tail : List Lexeme
  line : tokens (row_line s row) ≡ Some (word (codes "ROW") ∷ word row.name ∷ tail)
  read : condition s (Some tail) ≡ Ok row.conj

IsWord-row : IsWord (codes "ROW")
unfolding is_word_byte
IsWord-row = record { some = omega arith; bytes = refl }

says_by : (s : Attributes) (row : Row) (o : Option (List Lexeme)) → IsName row.name → tokens (expr_text s row.conj) ≡ o → condition s o ≡ Ok row.conj → Says s row
says_by s row None named e read = absurd (cc)
says_by s row (Some ts) named e read = record {
  tail = ts;
  line = ap tokens (append_assoc (codes "ROW") (32 ∷ row.name) (32 ∷ expr_text s row.conj))
      ∙ word_space (codes "ROW") (row.name ++ 32 ∷ expr_text s row.conj) (word row.name ∷ ts) IsWord-row
      (word_space row.name (expr_text s row.conj) ts (IsWord-from_name row.name named) e);
  read = read;
}

says : (s : Attributes) (row : Row) → IsName row.name → IsRead s row → Says s row
says s row named read = says_by s row (tokens (expr_text s row.conj)) named refl read

-- a row's line says its name and its condition
pub said_on-row_line : (s : Attributes) (row : Row) → IsName row.name → IsRead s row → said_on s (row_line s row) ≡ Ok (row.name, row.conj)
said_on-row_line s row is read =
    let k = says s row is read in
    ap (λ (o : Option (List Lexeme)). named s (option_and_then (after_word (codes "ROW")) o)) k.line
    ∙ ap (λ r. naming r (condition s (Some k.tail))) (name_of-Ok row.name is)
    ∙ ap (naming (Ok row.name)) k.read

pub row_line-IsLine : (s : Attributes) (row : Row) → IsName row.name → IsRead s row → IsLine (row_line s row)
row_line-IsLine s row is read =
    let k = says s row is read in
    let ts = word (codes "ROW") ∷ word row.name ∷ k.tail in
    record { lf = has_not 10 (row_line s row) ts lf_is_stray k.line; cr = has_not 13 (row_line s row) ts cr_is_stray k.line }

-- the last line
abbrev pub end_line : ℕ → ℕ → Text
end_line n c = codes "# DUMP" ++ number n ++ number c

end_without : (b n c : ℕ) → has b (codes "# DUMP" ++ 32 ∷ []) ≡ false → has b (32 ∷ []) ≡ false → has b (decimal n) ≡ false → has b (decimal c) ≡ false → has b (end_line n c) ≡ false
end_without b n c first space left right =
    has-append b (codes "# DUMP" ++ number n) (number c)
    (ap (has b) (sym (append_assoc (codes "# DUMP") (32 ∷ []) (decimal n))) ∙ has-append b (codes "# DUMP" ++ 32 ∷ []) (decimal n) first left)
    (has-append b (32 ∷ []) (decimal c) space right)

pub end_line-IsLine : (n c : ℕ) → IsLine (end_line n c)
end_line-IsLine n c = record {
  lf = end_without 10 n c refl refl (decimal_without 10 n (omega arith)) (decimal_without 10 c (omega arith));
  cr = end_without 13 n c refl refl (decimal_without 13 n (omega arith)) (decimal_without 13 c (omega arith));
}
