-- The faults of a condition, as they are gathered from left to right.
use Rattle.std.specs.Prelude.{◌+◌, List, [], ◌∷◌, length, nat_lt, Option, Some, None, option_and_then, if◌then◌else◌}
use Rattle.std.specs.Option.{is_none, option_or}
use Rattle.be_base.specs.Text.{Text}
use Rattle.be_base.specs.Tokens.{Lexeme}
use Rattle.be_base.specs.declared.limits.TheConstants.{PREDICATES, SET_VALUES}
use Rattle.be_base.specs.declared.names.AttrNo.{AttrNo}
use Rattle.be_model.specs.Schemas.{Attributes}
use Rattle.be_model.specs.SetTexts.{met_in}
use Rattle.be_model.specs.declared.set_texts.Met.{Met}
use Rattle.be_expr.specs.declared.faults.ExprFault.{ExprFault}
use Rattle.be_expr.specs.declared.faults.ExprFault.TheVariants.{Attr, Dom, Many}
use Rattle.be_expr.specs.declared.faults.Faults.{Faults}
use Rattle.be_expr.specs.Grammar.{WrittenOp, WrittenPred}
use Rattle.be_expr.specs.Readings.{read_preds}
use Rattle.be_expr.specs.Expressions.{unknown_attr, outside_domain, large_set, words_of}

abbrev pub faults_of : Attributes → List WrittenPred → Faults
faults_of s ps = record { preds = length ps; unknown = unknown_attr s ps; outside = outside_domain s ps; large_set = large_set ps }

-- of each kind, the first of both
abbrev pub joined_faults : Faults → Faults → Faults
joined_faults f g =
    record { preds = f.preds + g.preds; unknown = option_or f.unknown g.unknown; outside = option_or f.outside g.outside; large_set = option_or f.large_set g.large_set }

-- the first fault in the order of the kinds
abbrev pub first_fault : Faults → Option ExprFault
first_fault f =
    option_or f.unknown (option_or f.outside (if nat_lt PREDICATES f.preds then Some (Many f.preds) else f.large_set))

-- an operator with its values as what is met in these
abbrev pub met_of_op : Attributes → Option AttrNo → WrittenOp × List Lexeme → Met × List Lexeme
met_of_op s o r = (met_in s o (words_of r.0), r.1)

-- what is wrong with a predicate on this attribute, where that is met in its values
abbrev pub judged_pred : Text → Option AttrNo → Met → Faults
judged_pred name o m = record {
  preds = 1;
  unknown = if is_none o then Some (Attr name) else None;
  outside = option_and_then (λ a. if m.is_outside then Some (Dom a) else None) o;
  large_set = if nat_lt SET_VALUES m.count then Some (Many m.count) else None;
}

abbrev pub faults_with : Attributes → WrittenPred × List Lexeme → Faults × List Lexeme
faults_with s r = (faults_of s (r.0 ∷ []), r.1)

-- the predicates up to the end
abbrev pub preds_in : List Lexeme → Option (List WrittenPred)
preds_in ts = read_preds (length ts) ts
