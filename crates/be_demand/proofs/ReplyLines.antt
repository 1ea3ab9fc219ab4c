-- The lines of a reply.
use Rattle.std.proofs.Common.{◌≡◌, ℕ, ◌+◌, true, false, List, [], ◌∷◌, ◌++◌, map, refl, sym, ◌∙◌}
use Rattle.std.specs.List.{list_all}
use Rattle.std.proofs.lemmas.Bool.{and_parts}
use Rattle.std.proofs.lemmas.List.Folds.{list_all-append}
use Rattle.be_base.specs.Text.{Text}
use Rattle.be_model.specs.declared.changes.Row.{Row}
use Rattle.be_model.specs.Schemas.{Attributes}
use Rattle.be_change.specs.History.{Entry}
use Rattle.be_change.specs.Requests.{Refusal, bad, long, unknown_attribute, outside_domain, given_twice, too_many, Note, Reply, refusal, notes, dumped, tailed}
use Rattle.be_protocol.specs.Replies.{note_line, row_line, change_lines, refusal_line, closing_line, first_lines, reply_text}
use Rattle.be_demand.specs.Texts.{goes_on, says_hit, is_hit, is_whole, HasLines}
use Rattle.be_demand.proofs.Blocks.{IsBlock}

notes_go : (s : Attributes) (letters : List Note) → list_all goes_on (map (note_line s) letters) ≡ true
notes_go s [] = refl
notes_go s (letter ∷ letters) = notes_go s letters

rows_go : (s : Attributes) (rows : List Row) → list_all goes_on (map (row_line s) rows) ≡ true
rows_go s [] = refl
rows_go s (row ∷ rows) = rows_go s rows

changes_go : (s : Attributes) (place : ℕ) (entries : List Entry) → list_all goes_on (change_lines s place entries) ≡ true
changes_go s place [] = refl
changes_go s place (e ∷ es) = changes_go s (place + 1) es

first_go : (s : Attributes) (r : Reply) → list_all goes_on (first_lines s r) ≡ true
first_go s (notes letters) = notes_go s letters
first_go s (dumped n rows) = rows_go s rows
first_go s (tailed n place entries) = changes_go s place entries
first_go s _ = refl

refusal_ends : (r : Refusal) → goes_on (refusal_line r) ≡ false
refusal_ends bad = refl
refusal_ends long = refl
refusal_ends (unknown_attribute name) = refl
refusal_ends (outside_domain name) = refl
refusal_ends (given_twice name) = refl
refusal_ends (too_many count) = refl

last_ends : (r : Reply) → goes_on (closing_line r) ≡ false
last_ends (refusal r) = refusal_ends r
last_ends _ = refl

refusal_says : (r : Refusal) → says_hit (refusal_line r) ≡ false
refusal_says bad = refl
refusal_says long = refl
refusal_says (unknown_attribute name) = refl
refusal_says (outside_domain name) = refl
refusal_says (given_twice name) = refl
refusal_says (too_many count) = refl

-- only the last line of a HIT says so
pub last_says : (r : Reply) → says_hit (closing_line r) ≡ is_hit r
last_says (refusal r) = refusal_says r
last_says _ = refl

-- the lines of a reply
pub reply_block : (s : Attributes) (r : Reply) (bytes rest : Text) → HasLines s r → bytes ≡ reply_text s r ++ rest → IsBlock bytes (first_lines s r) (closing_line r) rest
reply_block s r bytes rest h is =
    let parts = and_parts (list_all is_whole (first_lines s r)) (list_all is_whole (closing_line r ∷ [])) (sym (list_all-append is_whole (first_lines s r) (closing_line r ∷ [])) ∙ h) in
    let last = and_parts (is_whole (closing_line r)) true parts.1 in
    record { first = first_go s r; ends = last_ends r; whole = parts.0; last_whole = last.0; text = is }
