-- The forms of sets, conjunctions and events.
use Rattle.std.specs.Prelude.{◌≡◌, ℤ, ◌<◌, ◌≤◌, ◌&&◌, Bool, true, List, [], ◌∷◌, length, nat_le, nat_lt, int_lt, All, if◌then◌else◌}
use Rattle.std.specs.List.{list_all}
use Rattle.be_base.specs.declared.names.AttrNo.{AttrNo}
use Rattle.be_base.specs.declared.limits.TheConstants.{PREDICATES, SET_VALUES}
use Rattle.be_model.specs.declared.ops.Op.{Op}
use Rattle.be_model.specs.declared.ops.Op.TheVariants.{Lt, Le, Eq, Ne, Ge, Gt, Between, OneOf, NoneOf}
use Rattle.be_model.specs.declared.preds.Pred.{Pred}
use Rattle.be_model.specs.Matching.{Assignments, attrs_of}

-- each value is below the next
abbrev pub rises : List ℤ → Bool
rises [] = true
rises (x ∷ []) = true
rises (x ∷ y ∷ ys) = int_lt x y && rises (y ∷ ys)

-- a value put among rising ones, where it doesn't stand yet
abbrev pub put_value : ℤ → List ℤ → List ℤ
put_value v [] = v ∷ []
put_value v (x ∷ xs) = if int_lt v x then v ∷ x ∷ xs else (if int_lt x v then x ∷ put_value v xs else x ∷ xs)

-- 1 to 64 rising values
pub record AreValues (xs : List ℤ) : Type 0 where
  pub some : 0 < length xs
  pub few : length xs ≤ SET_VALUES
  pub rising : rises xs ≡ true

-- the same as a test
abbrev pub is_values : List ℤ → Bool
is_values xs = nat_lt 0 (length xs) && nat_le (length xs) SET_VALUES && rises xs

-- the values of a set rise
abbrev pub OpForm : Op → Type 0
OpForm (OneOf xs) = AreValues xs
OpForm (NoneOf xs) = AreValues xs
OpForm (Lt x) = Unit {0}
OpForm (Le x) = Unit {0}
OpForm (Eq x) = Unit {0}
OpForm (Ne x) = Unit {0}
OpForm (Ge x) = Unit {0}
OpForm (Gt x) = Unit {0}
OpForm (Between x y) = Unit {0}

-- the same as a test
abbrev pub has_op_form : Op → Bool
has_op_form (OneOf xs) = is_values xs
has_op_form (NoneOf xs) = is_values xs
has_op_form (Lt x) = true
has_op_form (Le x) = true
has_op_form (Eq x) = true
has_op_form (Ne x) = true
has_op_form (Ge x) = true
has_op_form (Gt x) = true
has_op_form (Between x y) = true

-- at most 32 predicates
pub record IsConj (conj : List Pred) : Type 0 where
  pub few : length conj ≤ PREDICATES
  pub forms : All (λ (p : Pred). OpForm p.op) conj

-- the same as a test
abbrev pub is_conj : List Pred → Bool
is_conj conj = nat_le (length conj) PREDICATES && list_all (λ (p : Pred). has_op_form p.op) conj

-- each attribute is below the next, so each stands once
abbrev pub attrs_rise : List AttrNo → Bool
attrs_rise [] = true
attrs_rise (a ∷ []) = true
attrs_rise (a ∷ b ∷ more) = nat_lt a.0 b.0 && attrs_rise (b ∷ more)

-- sets of values, rising by attribute
pub record IsEvent (e : Assignments) : Type 0 where
  pub rising : attrs_rise (attrs_of e) ≡ true
  pub sets : All (λ (item : AttrNo × List ℤ). AreValues item.1) e
