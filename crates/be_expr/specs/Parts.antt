-- A condition read part by part.
use Rattle.std.specs.Prelude.{ℕ, ◌&&◌, Bool, false, List, [], ◌∷◌, Option, Some, None, option_map, option_and_then, codes, if◌then◌else◌}
use Rattle.std.specs.Borrow.{Bor}
use Rattle.be_base.specs.Text.{Text, same_text}
use Rattle.be_base.specs.Numbers.{count_of}
use Rattle.be_base.specs.Tokens.{Lexeme, word, tokens}
use Rattle.be_base.specs.Readers.{Read, is_empty, read_word, after_word, after_brace}
use Rattle.be_base.specs.Sets.{read_values}
use Rattle.be_base.specs.Scans.{lexeme}
use Rattle.be_expr.specs.declared.parts.Opening.{Opening}
use Rattle.be_expr.specs.declared.parts.Opening.TheVariants.{Compared, Between, Among, NotAmong}
use Rattle.be_expr.specs.declared.parts.Front.{Front}
use Rattle.be_expr.specs.declared.parts.Head.{Head}
use Rattle.be_expr.specs.Grammar.{WrittenOp, compared, between, among, not_among, WrittenPred, is_operator, is_attr}
use Rattle.be_expr.specs.Readings.{with_pred_attr}

-- `all` alone
abbrev pub is_all : List Lexeme → Bool
is_all (word w ∷ ts) = same_text w (codes "all") && is_empty ts
is_all _ = false

-- the word behind an `and`
abbrev pub read_high : List Lexeme → Read Text
read_high ts = option_and_then read_word (after_word (codes "and") ts)

-- the two values of a `between`
abbrev pub read_ends : List Lexeme → Read WrittenOp
read_ends ts =
    option_and_then (λ (low : Text × List Lexeme). option_map (λ (high : Text × List Lexeme). (between low.0 high.0, high.1)) (read_high low.1)) (read_word ts)

-- a set, before its values
abbrev pub read_brace : WrittenOp → List Lexeme → Read WrittenOp
read_brace op ts = option_map (λ after. (op, after)) (after_brace ts)

-- what follows the word of an operator, but that the values of a set are left
abbrev pub read_worded_opening : Text → List Lexeme → Read WrittenOp
read_worded_opening w ts =
    if same_text w (codes "between") then read_ends ts else
    (if same_text w (codes "in") then read_brace (among []) ts else
    (if same_text w (codes "not") then option_and_then (read_brace (not_among [])) (after_word (codes "in") ts) else None))

-- an operator and its values, but that the values of a set are left
abbrev pub read_opening : List Lexeme → Read WrittenOp
read_opening (word w ∷ ts) = read_worded_opening w ts
read_opening (operator ∷ word v ∷ ts) = if is_operator operator then Some (compared operator v, ts) else None
read_opening _ = None

abbrev pub read_attr : List Lexeme → Read Text
read_attr (word a ∷ ts) = if is_attr a then Some (a, ts) else None
read_attr _ = None

-- a predicate, but that the values of a set are left
abbrev pub read_head : List Lexeme → Read WrittenPred
read_head ts = option_and_then (λ (r : Text × List Lexeme). option_map (with_pred_attr r.0) (read_opening r.1)) (read_attr ts)

-- what is left behind a predicate: nothing, or what follows an `and`
abbrev pub read_end : List Lexeme → Option (Option (List Lexeme))
read_end [] = Some None
read_end (word w ∷ ts) = if same_text w (codes "and") then Some (Some ts) else None
read_end _ = None

-- an operator, with the values that are left where it is of a set
abbrev pub with_values : WrittenOp → Option (List Lexeme) → Read WrittenOp
with_values (compared operator v) left = option_map (λ ts. (compared operator v, ts)) left
with_values (between v w) left = option_map (λ ts. (between v w, ts)) left
with_values (among vs) left = option_map (λ r. (among r.0, r.1)) (option_and_then read_values left)
with_values (not_among vs) left = option_map (λ r. (not_among r.0, r.1)) (option_and_then read_values left)

-- the front of a change: its kind, its session and its serial
pub record PlainFront : Type 0 where
  pub kind : Text
  pub session : ℕ
  pub serial : ℕ

abbrev pub read_number : List Lexeme → Read ℕ
read_number ts = option_and_then (λ (r : Text × List Lexeme). option_map (λ n. (n, r.1)) (count_of r.0)) (read_word ts)

abbrev pub read_numbers : List Lexeme → Read (ℕ × ℕ)
read_numbers ts =
    option_and_then (λ (first : ℕ × List Lexeme). option_map (λ (second : ℕ × List Lexeme). ((first.0, second.0), second.1)) (read_number first.1)) (read_number ts)

abbrev pub front_of : Text → (ℕ × ℕ) × List Lexeme → PlainFront × List Lexeme
front_of kind r = (record { kind = kind; session = r.0.0; serial = r.0.1 }, r.1)

abbrev pub read_front : List Lexeme → Read PlainFront
read_front ts = option_and_then (λ (r : Text × List Lexeme). option_map (front_of r.0) (read_numbers r.1)) (read_word ts)

abbrev pub plain_opening : Opening → WrittenOp
plain_opening (Compared operator v) = compared (lexeme operator) v.now
plain_opening (Between v w) = between v.now w.now
plain_opening Among = among []
plain_opening NotAmong = not_among []

abbrev pub plain_head : Head → WrittenPred
plain_head head = record { attr = head.attr; op = plain_opening head.opening }

abbrev pub plain_front : Front → PlainFront
plain_front front = record { kind = front.kind.now; session = front.session; serial = front.serial }

abbrev pub end_of : Option (Option (Bor Text)) → Option (Option (List Lexeme))
end_of None = None
end_of (Some None) = Some None
end_of (Some (Some text)) = option_map (λ ts. Some ts) (tokens text.now)
