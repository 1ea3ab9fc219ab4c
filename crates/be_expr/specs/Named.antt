-- A name and a condition, as a SUB and a row of a load file have them.
use Rattle.std.specs.Prelude.{List, ◌∷◌, Option, Some, Result, Ok, Err}
use Rattle.be_base.specs.Text.{Text, name_of}
use Rattle.be_base.specs.Tokens.{Lexeme, word}
use Rattle.be_base.specs.declared.names.NameFault.{NameFault}
use Rattle.be_model.specs.declared.preds.Pred.{Pred}
use Rattle.be_model.specs.Schemas.{Attributes}
use Rattle.be_expr.specs.declared.faults.ExprFault.{ExprFault}
use Rattle.be_expr.specs.declared.faults.ExprFault.TheVariants.{Bad}
use Rattle.be_expr.specs.Expressions.{condition}

abbrev pub naming : Result Text NameFault → Result (List Pred) ExprFault → Result (Text × List Pred) ExprFault
naming (Ok name) (Ok conj) = Ok (name, conj)
naming (Ok name) (Err fault) = Err fault
naming (Err fault) read = Err Bad

-- the name and the condition that these tokens are, or the first fault
abbrev pub named : Attributes → Option (List Lexeme) → Result (Text × List Pred) ExprFault
named s (Some (word name ∷ ts)) = naming (name_of name) (condition s (Some ts))
named s _ = Err Bad
