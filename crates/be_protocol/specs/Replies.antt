-- The bytes of a reply: its lines, each with its LF.
use Rattle.std.specs.Prelude.{ℕ, ◌+◌, List, [], ◌∷◌, ◌++◌, length, map, codes, decimal}
use Rattle.std.specs.List.{flat_map}
use Rattle.be_base.specs.Text.{Text}
use Rattle.be_model.specs.declared.changes.Row.{Row}
use Rattle.be_model.specs.Schemas.{Attributes}
use Rattle.be_change.specs.History.{Entry}
use Rattle.be_change.specs.Requests.{Refusal, bad, long, unknown_attribute, outside_domain, given_twice, too_many, Note, Reply, refusal, ok, held, bye, dup, none, other, hit, cost, listed, sent, notes, dumped, tailed, split, no_memory, shut}
use Rattle.be_expr.specs.Changes.{change_text}
use Rattle.be_expr.specs.Writing.{expr_text}
use Rattle.be_event.specs.Writing.{event_text}

-- a space and a part of a line
abbrev pub part : Text → Text
part text = 32 ∷ text

abbrev pub number : ℕ → Text
number n = part (decimal n)

abbrev pub names_text : List Text → Text
names_text names = flat_map part names

abbrev pub refusal_line : Refusal → Text
refusal_line bad = codes "BAD"
refusal_line long = codes "LONG"
refusal_line (unknown_attribute name) = codes "ATTR" ++ part name
refusal_line (outside_domain name) = codes "DOM" ++ part name
refusal_line (given_twice name) = codes "TWICE" ++ part name
refusal_line (too_many count) = codes "MANY" ++ number count

-- a letter to FETCH, a live row to DUMP and a change to TAIL, in canonical text
abbrev pub note_line : Attributes → Note → Text
note_line s note = codes "NOTE" ++ number note.n ++ part note.name ++ part (event_text s note.event)

abbrev pub row_line : Attributes → Row → Text
row_line s row = codes "ROW" ++ part row.name ++ part (expr_text s row.conj)

abbrev pub change_lines : Attributes → ℕ → List Entry → List Text
change_lines s place [] = []
change_lines s place (e ∷ es) = (codes "AT" ++ number place ++ part (change_text s e)) ∷ change_lines s (place + 1) es

-- the last line of a reply, which for most is all of it
abbrev pub closing_line : Reply → Text
closing_line (refusal r) = refusal_line r
closing_line (ok n) = codes "OK" ++ number n
closing_line (held n) = codes "HELD" ++ number n
closing_line (bye n) = codes "BYE" ++ number n
closing_line (dup m id) = codes "DUP" ++ number m ++ number id
closing_line (none m) = codes "NONE" ++ number m
closing_line (other m id) = codes "OTHER" ++ number m ++ number id
closing_line (hit n names) = codes "HIT" ++ number n ++ number (length names) ++ names_text names
closing_line (cost n c) = codes "COST" ++ number n ++ number c.visits ++ number c.tested
closing_line (listed n names) = codes "LIST" ++ number n ++ number (length names) ++ names_text names
closing_line (sent n put dropped) = codes "SENT" ++ number n ++ number put ++ number dropped
closing_line (notes letters) = codes "END" ++ number (length letters)
closing_line (dumped n rows) = codes "# DUMP" ++ number n ++ number (length rows)
closing_line (tailed n place entries) = codes "TAILED" ++ number n ++ number (length entries)
closing_line (split a b) = codes "SPLIT" ++ number a ++ number b
closing_line no_memory = codes "NOMEM"
closing_line shut = codes "SHUT"

-- the lines before it
abbrev pub first_lines : Attributes → Reply → List Text
first_lines s (notes letters) = map (note_line s) letters
first_lines s (dumped n rows) = map (row_line s) rows
first_lines s (tailed n place entries) = change_lines s place entries
first_lines s _ = []

abbrev pub reply_lines : Attributes → Reply → List Text
reply_lines s r = first_lines s r ++ closing_line r ∷ []

abbrev pub with_lf : Text → Text
with_lf line = line ++ 10 ∷ []

abbrev pub reply_text : Attributes → Reply → Text
reply_text s r = flat_map with_lf (reply_lines s r)
