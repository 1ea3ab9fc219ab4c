-- Conditions as they are written: the grammar over tokens.
use Rattle.std.specs.Prelude.{◌&&◌, Bool, true, false, List, [], ◌∷◌, ◌++◌, codes}
use Rattle.std.specs.List.{list_all}
use Rattle.be_base.specs.Text.{Text}
use Rattle.be_base.specs.Tokens.{Lexeme, word, less, less_or_equal, equal, not_equal, greater_or_equal, greater}
use Rattle.be_base.specs.Sets.{set_tokens, is_filled}
pub use Rattle.be_model.specs.Schemas.{is_name, is_attr}

-- a comparison with the words of its values
pub data WrittenOp : Type 0 where
  compared : Lexeme → Text → WrittenOp
  between : Text → Text → WrittenOp
  among : List Text → WrittenOp
  not_among : List Text → WrittenOp

pub record WrittenPred : Type 0 where
  pub attr : Text
  pub op : WrittenOp

abbrev pub op_tokens : WrittenOp → List Lexeme
op_tokens (compared operator v) = operator ∷ word v ∷ []
op_tokens (between v w) = word (codes "between") ∷ word v ∷ word (codes "and") ∷ word w ∷ []
op_tokens (among vs) = word (codes "in") ∷ set_tokens vs
op_tokens (not_among vs) = word (codes "not") ∷ word (codes "in") ∷ set_tokens vs

abbrev pub pred_tokens : WrittenPred → List Lexeme
pred_tokens p = word p.attr ∷ op_tokens p.op

-- `all`, or predicates joined by `and`
abbrev pub condition_tokens : List WrittenPred → List Lexeme
condition_tokens [] = word (codes "all") ∷ []
condition_tokens (p ∷ []) = pred_tokens p
condition_tokens (p ∷ q ∷ ps) = pred_tokens p ++ word (codes "and") ∷ condition_tokens (q ∷ ps)

abbrev pub is_operator : Lexeme → Bool
is_operator less = true
is_operator less_or_equal = true
is_operator equal = true
is_operator not_equal = true
is_operator greater_or_equal = true
is_operator greater = true
is_operator _ = false

-- a set has at least one value
abbrev pub op_is_written : WrittenOp → Bool
op_is_written (compared operator v) = is_operator operator
op_is_written (between v w) = true
op_is_written (among vs) = is_filled vs
op_is_written (not_among vs) = is_filled vs

-- the predicates have the form of written ones
abbrev pub are_written : List WrittenPred → Bool
are_written ps = list_all (λ (p : WrittenPred). is_attr p.attr && op_is_written p.op) ps
