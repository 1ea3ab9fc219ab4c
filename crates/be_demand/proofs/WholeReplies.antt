-- The replies that a session may be given have lines without an LF within, where no name has one.
use Rattle.std.proofs.Common.{◌≡◌, ℕ, ◌+◌, true, not, List, [], ◌∷◌, ◌++◌, length, take, map, codes, refl, sym, ap, ◌∙◌}
use Rattle.std.specs.Prelude.{All, decimal}
use Rattle.std.specs.List.{list_all}
use Rattle.std.proofs.lemmas.Bool.{and_parts, and_from}
use Rattle.std.proofs.lemmas.List.Elements.{All-head, All-tail}
use Rattle.std.proofs.lemmas.List.Folds.{list_all-append}
use Rattle.be_base.specs.Text.{Text}
use Rattle.be_model.specs.declared.changes.Row.{Row}
use Rattle.be_model.specs.Matching.{satisfies}
use Rattle.be_model.specs.ByIds.{is_of}
use Rattle.be_model.specs.Schemas.{Attributes}
use Rattle.be_change.specs.History.{Entry, live}
use Rattle.be_change.specs.Requests.{Refusal, Request, refused, publish, listing, fetching, dumping, tailing, Note, Reply, refusal, ok, held, bye, dup, none, other, hit, cost, listed, sent, notes, dumped, tailed, split, no_memory, shut, Exchange}
use Rattle.be_change.specs.Walk.{Walk, Answers, IsLegal, IsNoteFor, beginning_at}
use Rattle.be_expr.specs.Changes.{change_text}
use Rattle.be_expr.specs.Writing.{expr_text}
use Rattle.be_event.specs.Writing.{event_text}
use Rattle.be_protocol.specs.Replies.{part, number, names_text, note_line, row_line, change_lines, closing_line}
use Rattle.be_demand.specs.Texts.{is_whole}
use Rattle.be_demand.specs.Demand.{IsFit, AreFit}
use Rattle.be_demand.specs.Whole.{names_are_whole, entry_is_whole, changes_are_whole, LegalIsFit}
use Rattle.be_demand.proofs.LiveNames.{live_whole, names_whole, rows_whole, row_whole, tail_whole}
use Rattle.be_demand.proofs.WholeTexts.{Plain, plain_both, plain_whole, plain_number, plain_event, plain_expr, plain_change}

plain_two : (m n : ℕ) → Plain (decimal m ++ number n)
plain_two m n = plain_both (decimal m) (number n) (plain_number m) (plain_number n)

plain_three : (l m n : ℕ) → Plain (decimal l ++ number m ++ number n)
plain_three l m n = plain_both (decimal l ++ number m) (number n) (plain_two l m) (plain_number n)

plain_names : (names : List Text) → list_all is_whole names ≡ true → Plain (names_text names)
plain_names [] h = refl
plain_names (name ∷ names) h =
    let p = and_parts (is_whole name) (list_all is_whole names) h in
    plain_both (part name) (names_text names) (plain_whole name p.0) (plain_names names p.1)

plain_listed : (n : ℕ) (names : List Text) → list_all is_whole names ≡ true → Plain (decimal n ++ number (length names) ++ names_text names)
plain_listed n names h = plain_both (decimal n ++ number (length names)) (names_text names) (plain_two n (length names)) (plain_names names h)

whole : (text : Text) → Plain text → is_whole text ≡ true
whole text h = ap not h

-- one line, and lines before a last one
one : (line : Text) → Plain line → list_all is_whole (line ∷ []) ≡ true
one line h = and_from (is_whole line) true (whole line h) refl

more : (ls : List Text) (last : Text) → list_all is_whole ls ≡ true → Plain last → list_all is_whole (ls ++ last ∷ []) ≡ true
more ls last h k = list_all-append is_whole ls (last ∷ []) ∙ and_from (list_all is_whole ls) (list_all is_whole (last ∷ [])) h (one last k)

module _ (s : Attributes) (names : names_are_whole s ≡ true) (k : ℕ) (h : List Entry) (changes : changes_are_whole h ≡ true) where
  note_whole : (note : Note) → IsNoteFor k h note → Plain (note_line s note)
  note_whole note is =
      let name = ap is_whole (sym is.named) ∙ row_whole is.id (live (take note.n h)) is.row (live_whole note.n h changes) is.stands in
      plain_both (decimal note.n ++ part note.name) (part (event_text s note.event))
      (plain_both (decimal note.n) (part note.name) (plain_number note.n) (plain_whole note.name name)) (plain_event s names note.event)

  notes_whole : (letters : List Note) → All (IsNoteFor k h) letters → list_all is_whole (map (note_line s) letters) ≡ true
  notes_whole [] all = refl
  notes_whole (note ∷ letters) all =
      and_from (is_whole (note_line s note)) (list_all is_whole (map (note_line s) letters))
      (whole (note_line s note) (note_whole note (All-head (IsNoteFor k h) note letters all))) (notes_whole letters (All-tail (IsNoteFor k h) note letters all))

  row_lines_whole : (rows : List Row) → list_all (λ (row : Row). is_whole row.name) rows ≡ true → list_all is_whole (map (row_line s) rows) ≡ true
  row_lines_whole [] all = refl
  row_lines_whole (row ∷ rows) all =
      let p = and_parts (is_whole row.name) (list_all (λ (row : Row). is_whole row.name) rows) all in
      and_from (is_whole (row_line s row)) (list_all is_whole (map (row_line s) rows))
      (whole (row_line s row) (plain_both row.name (part (expr_text s row.conj)) (plain_whole row.name p.0) (plain_expr s names row.conj))) (row_lines_whole rows p.1)

  change_lines_whole : (place : ℕ) (entries : List Entry) → changes_are_whole entries ≡ true → list_all is_whole (change_lines s place entries) ≡ true
  change_lines_whole place [] all = refl
  change_lines_whole place (e ∷ es) all =
      let p = and_parts (entry_is_whole e) (changes_are_whole es) all in
      let line = codes "AT" ++ number place ++ part (change_text s e) in
      and_from (is_whole line) (list_all is_whole (change_lines s (place + 1) es))
      (whole line (plain_both (decimal place) (part (change_text s e)) (plain_number place) (plain_change s names e p.0))) (change_lines_whole (place + 1) es p.1)

  module _ (w w' : Walk) where
    fit_refusal : (r : Request) (t : Refusal) → Answers s k h r (refusal t) w w' → r ≡ refused t
    fit_refusal (refused r) t a = ap refused (sym a.0)
    fit_refusal _ t a = absurd a

    fit_hit : (r : Request) (n : ℕ) (found : List Text) → Answers s k h r (hit n found) w w' → list_all is_whole found ≡ true
    fit_hit (publish e) n found a =
        ap (list_all is_whole) a.1 ∙ names_whole (λ (r : ℕ × Row). satisfies e r.1.conj) (live (take n h)) (live_whole n h changes)
    fit_hit _ n found a = absurd a

    fit_listed : (r : Request) (n : ℕ) (found : List Text) → Answers s k h r (listed n found) w w' → list_all is_whole found ≡ true
    fit_listed listing n found a = ap (list_all is_whole) a.1 ∙ names_whole (is_of k) (live (take n h)) (live_whole n h changes)
    fit_listed _ n found a = absurd a

    fit_notes : (r : Request) (letters : List Note) → Answers s k h r (notes letters) w w' → list_all is_whole (map (note_line s) letters) ≡ true
    fit_notes (fetching max) letters a = notes_whole letters a.1
    fit_notes _ letters a = absurd a

    fit_dumped : (r : Request) (n : ℕ) (rows : List Row) → Answers s k h r (dumped n rows) w w' → list_all is_whole (map (row_line s) rows) ≡ true
    fit_dumped dumping n rows a = row_lines_whole rows (ap (list_all (λ (row : Row). is_whole row.name)) a.1 ∙ rows_whole n h changes)
    fit_dumped _ n rows a = absurd a

    fit_tailed : (r : Request) (n start : ℕ) (entries : List Entry) → Answers s k h r (tailed n start entries) w w' → list_all is_whole (change_lines s start entries) ≡ true
    fit_tailed (tailing place max) n start entries a = change_lines_whole start entries (ap changes_are_whole a.2 ∙ tail_whole place max n h changes)
    fit_tailed _ n start entries a = absurd a

    answer_fit : (r : Request) (reply : Reply) → Answers s k h r reply w w' → IsFit s r reply
    answer_fit r (refusal t) a = fit_refusal r t a
    answer_fit r (hit n found) a = one (closing_line (hit n found)) (plain_listed n found (fit_hit r n found a))
    answer_fit r (listed n found) a = one (closing_line (listed n found)) (plain_listed n found (fit_listed r n found a))
    answer_fit r (notes letters) a = more (map (note_line s) letters) (closing_line (notes letters)) (fit_notes r letters a) (plain_number (length letters))
    answer_fit r (dumped n rows) a = more (map (row_line s) rows) (closing_line (dumped n rows)) (fit_dumped r n rows a) (plain_two n (length rows))
    answer_fit r (tailed n start entries) a = more (change_lines s start entries) (closing_line (tailed n start entries)) (fit_tailed r n start entries a) (plain_two n (length entries))
    answer_fit r (ok n) a = one (closing_line (ok n)) (plain_number n)
    answer_fit r (held n) a = one (closing_line (held n)) (plain_number n)
    answer_fit r (bye n) a = one (closing_line (bye n)) (plain_number n)
    answer_fit r (dup m id) a = one (closing_line (dup m id)) (plain_two m id)
    answer_fit r (none m) a = one (closing_line (none m)) (plain_number m)
    answer_fit r (other m id) a = one (closing_line (other m id)) (plain_two m id)
    answer_fit r (cost n c) a = one (closing_line (cost n c)) (plain_three n c.visits c.tested)
    answer_fit r (sent n put dropped) a = one (closing_line (sent n put dropped)) (plain_three n put dropped)
    answer_fit r (split x y) a = one (closing_line (split x y)) (plain_two x y)
    answer_fit r no_memory a = refl
    answer_fit r shut a = refl

  walk_fit : (ps : List Exchange) (w w' : Walk) → IsLegal s k h ps w w' → AreFit s ps
  walk_fit [] w w' legal = tt
  walk_fit (p ∷ ps) w w' legal = (answer_fit w legal.1 p.0 p.1 legal.2, walk_fit ps legal.1 w' legal.3)

pub legal_is_fit : LegalIsFit
legal_is_fit s k z h ls ps names changes are =
    walk_fit s names k h changes ps (beginning_at z) are.session.end are.session.legal
