-- The tests of forms say what the forms say.
use Rattle.std.proofs.Common.{◌≡◌, ℤ, Bool, true, List, [], ◌∷◌, length, All, refl}
use Rattle.std.specs.List.{list_all}
use Rattle.std.proofs.lemmas.Bool.{and_parts, and_from, ltb-true, lt-ltb, leb-true, le-leb}
use Rattle.std.proofs.lemmas.List.Elements.{All-nil, All-cons, All-head, All-tail}
use Rattle.be_model.specs.declared.ops.Op.{Op}
use Rattle.be_model.specs.declared.ops.Op.TheVariants.{Lt, Le, Eq, Ne, Ge, Gt, Between, OneOf, NoneOf}
use Rattle.be_model.specs.declared.preds.Pred.{Pred}
use Rattle.be_model.specs.Forms.{AreValues, is_values, OpForm, has_op_form, IsConj, is_conj, rises}

pub AreValues-from_is_values : (xs : List ℤ) → is_values xs ≡ true → AreValues xs
AreValues-from_is_values xs h =
    let front = and_parts _ (rises xs) h in
    let sizes = and_parts _ _ front.0 in
    record { some = ltb-true 0 (length xs) sizes.0; few = leb-true (length xs) 64 sizes.1; rising = front.1 }

pub is_values-from_AreValues : (xs : List ℤ) → AreValues xs → is_values xs ≡ true
is_values-from_AreValues xs f =
    and_from _ _ (and_from _ _ (lt-ltb 0 (length xs) f.some) (le-leb (length xs) 64 f.few)) f.rising

pub OpForm-from_has_op_form : (op : Op) → has_op_form op ≡ true → OpForm op
OpForm-from_has_op_form (OneOf xs) h = AreValues-from_is_values xs h
OpForm-from_has_op_form (NoneOf xs) h = AreValues-from_is_values xs h
OpForm-from_has_op_form (Lt x) h = tt
OpForm-from_has_op_form (Le x) h = tt
OpForm-from_has_op_form (Eq x) h = tt
OpForm-from_has_op_form (Ne x) h = tt
OpForm-from_has_op_form (Ge x) h = tt
OpForm-from_has_op_form (Gt x) h = tt
OpForm-from_has_op_form (Between x y) h = tt

pub has_op_form-from_OpForm : (op : Op) → OpForm op → has_op_form op ≡ true
has_op_form-from_OpForm (OneOf xs) f = is_values-from_AreValues xs f
has_op_form-from_OpForm (NoneOf xs) f = is_values-from_AreValues xs f
has_op_form-from_OpForm (Lt x) f = refl
has_op_form-from_OpForm (Le x) f = refl
has_op_form-from_OpForm (Eq x) f = refl
has_op_form-from_OpForm (Ne x) f = refl
has_op_form-from_OpForm (Ge x) f = refl
has_op_form-from_OpForm (Gt x) f = refl
has_op_form-from_OpForm (Between x y) f = refl

abbrev Formed : Pred → Type 0
Formed p = OpForm p.op

abbrev is_formed : Pred → Bool
is_formed p = has_op_form p.op

all_formed : (conj : List Pred) → list_all is_formed conj ≡ true → All Formed conj
all_formed [] h = All-nil Formed
all_formed (p ∷ ps) h =
    let parts = and_parts (is_formed p) (list_all is_formed ps) h in
    All-cons Formed p ps (OpForm-from_has_op_form p.op parts.0) (all_formed ps parts.1)

all_formed_test : (conj : List Pred) → All Formed conj → list_all is_formed conj ≡ true
all_formed_test [] f = refl
all_formed_test (p ∷ ps) f =
    and_from (is_formed p) (list_all is_formed ps) (has_op_form-from_OpForm p.op (All-head Formed p ps f)) (all_formed_test ps (All-tail Formed p ps f))

pub IsConj-from_is_conj : (conj : List Pred) → is_conj conj ≡ true → IsConj conj
IsConj-from_is_conj conj h =
    let parts = and_parts _ (list_all is_formed conj) h in
    record { few = leb-true (length conj) 32 parts.0; forms = all_formed conj parts.1 }

pub is_conj-from_IsConj : (conj : List Pred) → IsConj conj → is_conj conj ≡ true
is_conj-from_IsConj conj f =
    and_from _ (list_all is_formed conj) (le-leb (length conj) 32 f.few) (all_formed_test conj f.forms)
