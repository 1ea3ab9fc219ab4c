-- Reading a condition from left to right.
use Rattle.std.specs.Prelude.{◌≡◌, ◌↔◌, ℕ, zero, suc, true, List, [], ◌∷◌, length, Option, Some, None, option_map, option_and_then, codes, if◌then◌else◌}
use Rattle.be_base.specs.Text.{Text, same_text}
use Rattle.be_base.specs.Tokens.{Lexeme, word, open_brace}
use Rattle.be_base.specs.Readers.{Read}
use Rattle.be_base.specs.Sets.{read_values}
use Rattle.be_expr.specs.Grammar.{WrittenOp, compared, between, among, not_among, WrittenPred, is_operator, is_attr, condition_tokens, are_written}

abbrev pub read_set : (List Text → WrittenOp) → List Lexeme → Read WrittenOp
read_set op (open_brace ∷ ts) = option_map (λ r. (op r.0, r.1)) (read_values ts)
read_set op _ = None

abbrev pub read_not : List Lexeme → Read WrittenOp
read_not (word w ∷ ts) = if same_text w (codes "in") then read_set not_among ts else None
read_not _ = None

abbrev pub read_between : List Lexeme → Read WrittenOp
read_between (word v ∷ word joiner ∷ word w ∷ ts) = if same_text joiner (codes "and") then Some (between v w, ts) else None
read_between _ = None

-- what follows the word of an operator
abbrev pub read_worded : Text → List Lexeme → Read WrittenOp
read_worded w ts =
    if same_text w (codes "between") then read_between ts else
    (if same_text w (codes "in") then read_set among ts else
    (if same_text w (codes "not") then read_not ts else None))

-- an operator and its values
abbrev pub read_op : List Lexeme → Read WrittenOp
read_op (word w ∷ ts) = read_worded w ts
read_op (operator ∷ word v ∷ ts) = if is_operator operator then Some (compared operator v, ts) else None
read_op _ = None

abbrev pub with_pred_attr : Text → WrittenOp × List Lexeme → WrittenPred × List Lexeme
with_pred_attr a r = (record { attr = a; op = r.0 }, r.1)

abbrev pub read_pred : List Lexeme → Read WrittenPred
read_pred (word a ∷ ts) = if is_attr a then option_map (with_pred_attr a) (read_op ts) else None
read_pred _ = None

-- a predicate and, after `and`, what the rest is read as
abbrev pub read_joined : (List Lexeme → Option (List WrittenPred)) → WrittenPred → List Lexeme → Option (List WrittenPred)
read_joined rest p [] = Some (p ∷ [])
read_joined rest p (word w ∷ ts) = if same_text w (codes "and") then option_map (λ ps. p ∷ ps) (rest ts) else None
read_joined rest p _ = None

-- predicates joined by `and`, up to the end; fuel is how many there may be
abbrev pub read_preds : ℕ → List Lexeme → Option (List WrittenPred)
read_preds zero ts = None
read_preds (suc fuel) ts = option_and_then (λ r. read_joined (read_preds fuel) r.0 r.1) (read_pred ts)

-- the predicates that the tokens write. Each takes more than one token
abbrev pub written : List Lexeme → Option (List WrittenPred)
written (word w ∷ []) = if same_text w (codes "all") then Some [] else None
written ts = read_preds (length ts) ts

-- this reading is the grammar's, and so each condition has one reading
abbrev pub ReadsAreWritten : Type 0
ReadsAreWritten =
    (ts : List Lexeme) (ps : List WrittenPred) → (written ts ≡ Some ps ↔ (are_written ps ≡ true) × (condition_tokens ps ≡ ts))
