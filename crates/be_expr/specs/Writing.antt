-- The text of a condition in its one canonical form.
use Rattle.std.specs.Prelude.{◌≡◌, ℤ, true, List, [], ◌∷◌, ◌++◌, Ok, codes}
use Rattle.std.specs.List.{join_by}
use Rattle.be_base.specs.Text.{Text}
use Rattle.be_base.specs.Sets.{set_text}
use Rattle.be_model.specs.declared.ops.Op.{Op}
use Rattle.be_model.specs.declared.ops.Op.TheVariants.{Lt, Le, Eq, Ne, Ge, Gt, Between, OneOf, NoneOf}
use Rattle.be_model.specs.declared.preds.Pred.{Pred}
use Rattle.be_model.specs.Schemas.{Attributes, IsSchema}
use Rattle.be_model.specs.Forms.{IsConj}
use Rattle.be_model.specs.Lies.{values_in, conj_lies}
use Rattle.be_model.specs.SetTexts as set
use Rattle.be_model.specs.Texts.{value_text_at, name_at, NamesAreNames}
use Rattle.be_expr.specs.Expressions.{expression}

abbrev pub op_text : (ℤ → Text) → Op → Text
op_text value (Lt v) = codes "< " ++ value v
op_text value (Le v) = codes "<= " ++ value v
op_text value (Eq v) = codes "= " ++ value v
op_text value (Ne v) = codes "!= " ++ value v
op_text value (Ge v) = codes ">= " ++ value v
op_text value (Gt v) = codes "> " ++ value v
op_text value (Between v w) = codes "between " ++ value v ++ codes " and " ++ value w
op_text value (OneOf vs) = codes "in " ++ set_text value vs
op_text value (NoneOf vs) = codes "not in " ++ set_text value vs

abbrev pub pred_text : Attributes → Pred → Text
pred_text s p = name_at s p.attr ++ codes " " ++ op_text (value_text_at s p.attr) p.op

-- `all`, or the predicates in their order, joined by ` and `
abbrev pub expr_text : Attributes → List Pred → Text
expr_text s [] = codes "all"
expr_text s (p ∷ ps) = join_by (pred_text s) (codes " and ") (p ∷ ps)

-- its name is a name, and the texts of its values are words
abbrev pub IsSpelled : Attributes → Pred → Type 0
IsSpelled s p = set.IsSpelled s p.attr (values_in p.op)

-- reading the canonical text of a condition gives it back
abbrev pub TextsAreRead : Type 0
TextsAreRead =
    (s : Attributes) (conj : List Pred) → IsSchema s → NamesAreNames s → IsConj conj → conj_lies s conj ≡ true → expression s (expr_text s conj) ≡ Ok conj
