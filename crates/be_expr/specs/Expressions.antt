-- What the text of a condition means in a schema, or its first fault.
use Rattle.std.specs.Prelude.{◌≡◌, ℤ, ◌<◌, Bool, List, [], ◌∷◌, length, map, find, nat_lt, Option, Some, None, option_map, option_and_then, Result, Ok, Err, if◌then◌else◌}
use Rattle.std.specs.Option.{is_none, option_map_or, option_or}
use Rattle.be_base.specs.Text.{Text}
use Rattle.be_base.specs.Tokens.{Lexeme, less, less_or_equal, not_equal, greater_or_equal, greater, tokens}
use Rattle.be_base.specs.declared.limits.TheConstants.{PREDICATES, SET_VALUES}
use Rattle.be_base.specs.declared.names.AttrNo.{AttrNo}
use Rattle.be_model.specs.declared.ops.Op.{Op}
use Rattle.be_model.specs.declared.ops.Op.TheVariants.{Lt, Le, Eq, Ne, Ge, Gt, Between, OneOf, NoneOf}
use Rattle.be_model.specs.declared.preds.Pred.{Pred}
use Rattle.be_model.specs.Schemas.{Attributes, numbered, attribute_named}
use Rattle.be_model.specs.SetTexts.{known, some_outside, rising}
use Rattle.be_expr.specs.Grammar.{WrittenOp, compared, between, among, not_among, WrittenPred}
use Rattle.be_expr.specs.Readings.{written}
use Rattle.be_expr.specs.declared.faults.ExprFault.{ExprFault}
use Rattle.be_expr.specs.declared.faults.ExprFault.TheVariants.{Bad, Attr, Dom, Many, NoMemory}

-- the values as they are written, from left to right
abbrev pub words_of : WrittenOp → List Text
words_of (compared operator v) = v ∷ []
words_of (between v w) = v ∷ w ∷ []
words_of (among vs) = vs
words_of (not_among vs) = vs

abbrev pub is_unknown : Attributes → WrittenPred → Bool
is_unknown s p = is_none (attribute_named s p.attr)

-- the first attribute that the schema doesn't have
abbrev pub unknown_attr : Attributes → List WrittenPred → Option ExprFault
unknown_attr s ps = option_map (λ (p : WrittenPred). Attr p.attr) (find (is_unknown s) ps)

-- one of the values is outside the attribute's domain
abbrev pub is_outside : Attributes → WrittenPred → Bool
is_outside s p = some_outside s (attribute_named s p.attr) (words_of p.op)

-- the attribute of the first value outside its domain
abbrev pub outside_domain : Attributes → List WrittenPred → Option ExprFault
outside_domain s ps =
    option_map (λ a. Dom a) (option_and_then (λ (p : WrittenPred). attribute_named s p.attr) (find (is_outside s) ps))

abbrev pub has_many_values : WrittenPred → Bool
has_many_values p = nat_lt SET_VALUES (length (words_of p.op))

-- the first set of more than 64 written values
abbrev pub large_set : List WrittenPred → Option ExprFault
large_set ps = option_map (λ (p : WrittenPred). Many (length (words_of p.op))) (find has_many_values ps)

-- more than 32 predicates, else a set that is too large
abbrev pub too_many : List WrittenPred → Option ExprFault
too_many ps = if nat_lt PREDICATES (length ps) then Some (Many (length ps)) else large_set ps

-- the first fault, in the order of the kinds
abbrev pub fault_in : Attributes → List WrittenPred → Option ExprFault
fault_in s ps = option_or (unknown_attr s ps) (option_or (outside_domain s ps) (too_many ps))

-- the comparison that an operator makes with a value
abbrev pub comparison : Lexeme → ℤ → Op
comparison less v = Lt v
comparison less_or_equal v = Le v
comparison not_equal v = Ne v
comparison greater_or_equal v = Ge v
comparison greater v = Gt v
comparison _ v = Eq v

-- the comparison, where each word has this value
abbrev pub meant_op : (Text → ℤ) → WrittenOp → Op
meant_op value (compared operator v) = comparison operator (value v)
meant_op value (between v w) = Between (value v) (value w)
meant_op value (among vs) = OneOf (rising (map value vs))
meant_op value (not_among vs) = NoneOf (rising (map value vs))

abbrev pub pred_on : Attributes → AttrNo → WrittenOp → Pred
pred_on s a op = record { attr = a; op = meant_op (known s a) op }

-- the predicate, where it has no fault. Then its attribute is there, and each word has a value
abbrev pub meant_pred : Attributes → WrittenPred → Pred
meant_pred s p = option_map_or (λ a. pred_on s a p.op) (attribute_named s p.attr) (pred_on s (numbered 0) p.op)

abbrev pub judged : List Pred → Option ExprFault → Result (List Pred) ExprFault
judged conj None = Ok conj
judged conj (Some fault) = Err fault

abbrev pub meaning : Attributes → Option (List WrittenPred) → Result (List Pred) ExprFault
meaning s None = Err Bad
meaning s (Some ps) = judged (map (meant_pred s) ps) (fault_in s ps)

-- the condition that these tokens are, or the first fault
abbrev pub condition : Attributes → Option (List Lexeme) → Result (List Pred) ExprFault
condition s ts = meaning s (option_and_then written ts)

-- the condition that a text is, or its first fault
abbrev pub expression : Attributes → Text → Result (List Pred) ExprFault
expression s text = condition s (tokens text)

-- what a reader answered is what the text means. Memory can run out only where it has no fault
abbrev pub Reads : {T : Type 0} → Result T ExprFault → Result T ExprFault → Type 0
Reads (Ok meant) read = read ≡ Ok meant
Reads {T} (Err NoMemory) read = (meant : T) × (read ≡ Ok meant)
Reads (Err fault) read = read ≡ Err fault

-- a fault that names an attribute by its number names one of the schema
abbrev pub IsKnown : Attributes → ExprFault → Type 0
IsKnown s (Dom a) = a.0 < length s
IsKnown s _ = Unit {0}
