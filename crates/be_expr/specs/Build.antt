-- What a text without a fault is built into.
use Rattle.std.specs.Prelude.{ℤ, ◌&&◌, not, Bool, List, length, map, nat_lt, Option, Some, None, if◌then◌else◌}
use Rattle.std.specs.List.{list_all}
use Rattle.be_base.specs.Text.{Text}
use Rattle.be_base.specs.Tokens.{Lexeme}
use Rattle.be_base.specs.Readers.{Read}
use Rattle.be_base.specs.declared.limits.TheConstants.{PREDICATES, SET_VALUES}
use Rattle.be_base.specs.declared.names.AttrNo.{AttrNo}
use Rattle.be_model.specs.declared.ops.Op.{Op}
use Rattle.be_model.specs.declared.preds.Pred.{Pred}
use Rattle.be_model.specs.Schemas.{Attributes}
use Rattle.be_model.specs.SetTexts.{known, has_outside, values_with}
use Rattle.be_expr.specs.Grammar.{WrittenOp, WrittenPred}
use Rattle.be_expr.specs.Expressions.{words_of, is_unknown, is_outside, has_many_values, meant_op, meant_pred}

-- each word has a value in the attribute's domain, and there aren't too many
abbrev pub are_fine_words : Attributes → AttrNo → List Text → Bool
are_fine_words s a words = not (has_outside s a words) && not (nat_lt SET_VALUES (length words))

abbrev pub is_fine : Attributes → WrittenPred → Bool
is_fine s p = not (is_unknown s p) && not (is_outside s p) && not (has_many_values p)

-- no predicate has a fault, and there aren't too many
abbrev pub are_fine : Attributes → List WrittenPred → Bool
are_fine s ps = list_all (is_fine s) ps && not (nat_lt PREDICATES (length ps))

abbrev pub op_with : Attributes → AttrNo → WrittenOp × List Lexeme → Op × List Lexeme
op_with s a r = (meant_op (known s a) r.0, r.1)

abbrev pub pred_with : Attributes → WrittenPred × List Lexeme → Pred × List Lexeme
pred_with s r = (meant_pred s r.0, r.1)

-- what was read as it is meant, where it has no fault
abbrev pub built_values : Attributes → AttrNo → List Text × List Lexeme → Read (List ℤ)
built_values s a r = if are_fine_words s a r.0 then Some (values_with s a r) else None

abbrev pub built_op : Attributes → AttrNo → WrittenOp × List Lexeme → Read Op
built_op s a r = if are_fine_words s a (words_of r.0) then Some (op_with s a r) else None

abbrev pub built_pred : Attributes → WrittenPred × List Lexeme → Read Pred
built_pred s r = if is_fine s r.0 then Some (pred_with s r) else None

abbrev pub built_preds : Attributes → List WrittenPred → Option (List Pred)
built_preds s ps = if are_fine s ps then Some (map (meant_pred s) ps) else None
