-- A fault of a condition names attributes of the schema.
use Rattle.std.proofs.Common.{◌≡◌, List, length, map, find, subst, Option, Some, None, option_map, option_and_then, Err, refl, cond, true, false, Bool, nat_lt, IfSome, MatchOption}
use Rattle.std.specs.Option.{option_or}
use Rattle.be_base.specs.Text.{Text}
use Rattle.be_base.specs.Tokens.{tokens}
use Rattle.be_base.specs.declared.names.AttrNo.{AttrNo}
use Rattle.be_model.specs.declared.preds.Pred.{Pred}
use Rattle.be_model.specs.Schemas.{Attributes, attribute_named}
use Rattle.be_model.proofs.NamedBelow.{named_below}
use Rattle.be_expr.specs.Grammar.{WrittenPred}
use Rattle.be_expr.specs.Readings.{written}
use Rattle.be_expr.specs.Expressions.{unknown_attr, is_unknown, outside_domain, is_outside, too_many, has_many_values, words_of, fault_in, judged, meaning, meant_pred, expression, Reads, IsKnown}
use Rattle.be_expr.specs.declared.faults.ExprFault.{ExprFault}
use Rattle.be_expr.specs.declared.faults.ExprFault.TheVariants.{Bad, Attr, Dom, Many, NoMemory}

-- what is known of a fault that may be there
abbrev Knows : Attributes → Option ExprFault → Type 0
Knows s None = Unit {0}
Knows s (Some fault) = IsKnown s fault

knows_unknown : (s : Attributes) (p : Option WrittenPred) → Knows s (option_map (λ (q : WrittenPred). Attr q.attr) p)
knows_unknown s None = tt
knows_unknown s (Some p) = tt

knows_outside : (s : Attributes) (p : Option WrittenPred) → Knows s (option_map (λ a. Dom a) (option_and_then (λ (q : WrittenPred). attribute_named s q.attr) p))
knows_outside s None = tt
knows_outside s (Some p) = by_attr (attribute_named s p.attr) refl
  where
    by_attr : (a : Option AttrNo) → attribute_named s p.attr ≡ a → Knows s (option_map (λ b. Dom b) a)
    by_attr None e = tt
    by_attr (Some a) e = named_below s p.attr a e

knows_many : (s : Attributes) (n : Bool) (count : ExprFault) (p : Option WrittenPred) → IsKnown s count → Knows s (cond n (Some count) (option_map (λ (q : WrittenPred). Many (length (words_of q.op))) p))
knows_many s true count p k = k
knows_many s false count None k = tt
knows_many s false count (Some p) k = tt

knows_either : (s : Attributes) (a b : Option ExprFault) → Knows s a → Knows s b → Knows s (option_or a b)
knows_either s None b x y = y
knows_either s (Some fault) b x y = x

knows_fault : (s : Attributes) (ps : List WrittenPred) → Knows s (fault_in s ps)
knows_fault s ps =
    knows_either s (unknown_attr s ps) (option_or (outside_domain s ps) (too_many ps)) (knows_unknown s (find (is_unknown s) ps))
    (knows_either s (outside_domain s ps) (too_many ps) (knows_outside s (find (is_outside s) ps))
    (knows_many s (nat_lt 32 (length ps)) (Many (length ps)) (find has_many_values ps) tt))

known_judged : (s : Attributes) (conj : List Pred) (f : Option ExprFault) (fault : ExprFault) → Knows s f → judged conj f ≡ Err fault → IsKnown s fault
known_judged s conj None fault k e = absurd cc
known_judged s conj (Some g) fault k e = let same : g ≡ fault = cc in subst (IsKnown s) same k

known_meant : (s : Attributes) (ps : Option (List WrittenPred)) (fault : ExprFault) → meaning s ps ≡ Err fault → IsKnown s fault
known_meant s None fault e = let same : Bad ≡ fault = cc in subst (IsKnown s) same tt
known_meant s (Some ps) fault e = known_judged s (map (meant_pred s) ps) (fault_in s ps) fault (knows_fault s ps) e

pub known_read : (s : Attributes) (text : Text) (fault : ExprFault) → Reads (Err fault) (expression s text) → IsKnown s fault
known_read s text (Dom a) r = known_meant s (option_and_then written (tokens text)) (Dom a) r
known_read s text Bad r = tt
known_read s text (Attr name) r = tt
known_read s text (Many count) r = tt
known_read s text NoMemory r = tt

-- the first fault that a scan met
pub known_scanned : (s : Attributes) (text : Text) (first : Option ExprFault) (P : Type 0) → MatchOption first P (λ fault. Reads {T = List Pred} (Err fault) (expression s text)) → IfSome first (IsKnown s)
known_scanned s text None P h = tt
known_scanned s text (Some fault) P h = known_read s text fault h
