-- The canonical text of a condition means the condition.
use Rattle.std.proofs.Common.{◌≡◌, ℕ, ℤ, ◌≤◌, Bool, true, false, ltb, cond, List, [], ◌∷◌, length, map, All, Some, None, Ok, option_and_then, refl, ap, ◌∙◌, arith}
use Rattle.std.specs.List.{find}
use Rattle.std.specs.Option.{is_none, option_map_or}
use Rattle.std.proofs.lemmas.Bool.{and_from, and_parts}
use Rattle.std.proofs.lemmas.Bool.Decides.{nat_tests}
use Rattle.std.proofs.lemmas.List.{length-map}
use Rattle.std.proofs.lemmas.List.Elements.{All-head, All-tail, All-cons, All-nil, All-weaker}
use Rattle.be_base.specs.Text.{Text, IsName}
use Rattle.be_model.specs.declared.ops.Op.{Op}
use Rattle.be_model.specs.declared.ops.Op.TheVariants.{Lt, Le, Eq, Ne, Ge, Gt, Between, OneOf, NoneOf}
use Rattle.be_model.specs.declared.preds.Pred.{Pred}
use Rattle.be_model.specs.Schemas.{Attributes, IsSchema, attribute_named}
use Rattle.be_model.specs.Forms.{OpForm, IsConj}
use Rattle.be_model.specs.Lies.{values_in, pred_lies, conj_lies}
use Rattle.be_model.specs.Schemas.{value_at}
use Rattle.be_model.specs.SetTexts.{known, has_outside, some_outside}
use Rattle.be_model.proofs.TextsBack.{set_read_back, inside_back, known_back, name_back, is_attr-name, are_back, are_spelled}
use Rattle.be_model.specs.Texts.{value_text_at, name_at, NamesAreNames}
use Rattle.be_expr.specs.Grammar.{is_attr, op_is_written, are_written}
use Rattle.be_expr.specs.Readings.{written}
use Rattle.be_expr.specs.Expressions.{words_of, is_unknown, is_outside, has_many_values, fault_in, meant_op, pred_on, meant_pred, judged, meaning, expression}
use Rattle.be_expr.specs.Writing.{expr_text, IsSpelled, TextsAreRead}
use Rattle.be_expr.proofs.Grammar.{tokens_are_read}
use Rattle.be_expr.proofs.CanonicalTokens.{written_op, written_pred, expr_lexed}

-- what is known of each predicate of a condition that lies in a schema
record IsSettled (s : Attributes) (p : Pred) : Type 0 where
  form : OpForm p.op
  name : is_attr (name_at s p.attr) ≡ true
  found : attribute_named s (name_at s p.attr) ≡ Some p.attr
  values : All (λ v. value_at s p.attr (value_text_at s p.attr v) ≡ Some v) (values_in p.op)

first_of : (f : ℤ → ℤ) (v : ℤ) (vs : List ℤ) → All (λ x. f x ≡ x) (v ∷ vs) → f v ≡ v
first_of f v vs h = All-head (λ x. f x ≡ x) v vs h

op_read_back : (read : Text → ℤ) (value : ℤ → Text) (op : Op) → OpForm op → All (λ v. read (value v) ≡ v) (values_in op) → meant_op read (written_op value op) ≡ op
op_read_back read value (Lt v) form h = ap (λ x. Lt x) (first_of (λ x. read (value x)) v [] h)
op_read_back read value (Le v) form h = ap (λ x. Le x) (first_of (λ x. read (value x)) v [] h)
op_read_back read value (Eq v) form h = ap (λ x. Eq x) (first_of (λ x. read (value x)) v [] h)
op_read_back read value (Ne v) form h = ap (λ x. Ne x) (first_of (λ x. read (value x)) v [] h)
op_read_back read value (Ge v) form h = ap (λ x. Ge x) (first_of (λ x. read (value x)) v [] h)
op_read_back read value (Gt v) form h = ap (λ x. Gt x) (first_of (λ x. read (value x)) v [] h)
op_read_back read value (Between v w) form h =
    ap (λ x. Between x (read (value w))) (first_of (λ x. read (value x)) v (w ∷ []) h)
    ∙ ap (λ x. Between v x) (first_of (λ x. read (value x)) w [] (All-tail (λ x. read (value x) ≡ x) v (w ∷ []) h))
op_read_back read value (OneOf vs) form h = ap (λ xs. OneOf xs) (set_read_back read value vs form h)
op_read_back read value (NoneOf vs) form h = ap (λ xs. NoneOf xs) (set_read_back read value vs form h)

-- a predicate, from its written form
pred_read_back : (s : Attributes) (p : Pred) → IsSettled s p → meant_pred s (written_pred s p) ≡ p
pred_read_back s p k =
    let a = p.attr in
    let value = value_text_at s a in
    let read = known s a in
    ap (λ o. option_map_or (λ b. pred_on s b (written_op value p.op)) o (pred_on s (record { 0 = 0 }) (written_op value p.op))) k.found
    ∙ ap (λ op. record { attr = a; op = op }) (op_read_back read value p.op k.form
    (known_back s a (values_in p.op) k.values))

preds_read_back : (s : Attributes) (ps : List Pred) → All (IsSettled s) ps → map (meant_pred s) (map (written_pred s) ps) ≡ ps
preds_read_back s [] k = refl
preds_read_back s (p ∷ ps) k =
    ap (λ q. q ∷ map (meant_pred s) (map (written_pred s) ps)) (pred_read_back s p (All-head (IsSettled s) p ps k))
    ∙ ap (λ qs. p ∷ qs) (preds_read_back s ps (All-tail (IsSettled s) p ps k))

words_are : (value : ℤ → Text) (op : Op) → words_of (written_op value op) ≡ map value (values_in op)
words_are value (Lt v) = refl
words_are value (Le v) = refl
words_are value (Eq v) = refl
words_are value (Ne v) = refl
words_are value (Ge v) = refl
words_are value (Gt v) = refl
words_are value (Between v w) = refl
words_are value (OneOf vs) = refl
words_are value (NoneOf vs) = refl

-- nothing is found that no element of a list is
none_found : {X Y : Type 0} (test : Y → Bool) (f : X → Y) (xs : List X) → All (λ x. test (f x) ≡ false) xs → find test (map f xs) ≡ None
none_found test f [] h = refl
none_found test f (x ∷ xs) h =
    ap (λ b. cond b (Some (f x)) (find test (map f xs))) (All-head (λ y. test (f y) ≡ false) x xs h)
    ∙ none_found test f xs (All-tail (λ y. test (f y) ≡ false) x xs h)

is_known : (s : Attributes) (p : Pred) → IsSettled s p → is_unknown s (written_pred s p) ≡ false
is_known s p k = ap is_none k.found

inside : (s : Attributes) (p : Pred) → IsSettled s p → is_outside s (written_pred s p) ≡ false
inside s p k =
    let value = value_text_at s p.attr in
    ap (λ o. some_outside s o (words_of (written_op value p.op))) k.found
    ∙ ap (has_outside s p.attr) (words_are value p.op)
    ∙ inside_back s p.attr (values_in p.op) k.values

at_most : (k n m : ℕ) → n ≡ m → m ≤ k → ltb k n ≡ false
at_most k n m e h = grind (arith, nat_tests)

few_values : (op : Op) → OpForm op → length (values_in op) ≤ 64
few_values (Lt v) form = omega arith
few_values (Le v) form = omega arith
few_values (Eq v) form = omega arith
few_values (Ne v) form = omega arith
few_values (Ge v) form = omega arith
few_values (Gt v) form = omega arith
few_values (Between v w) form = omega arith
few_values (OneOf vs) form = form.few
few_values (NoneOf vs) form = form.few

few_words : (s : Attributes) (p : Pred) → IsSettled s p → has_many_values (written_pred s p) ≡ false
few_words s p k =
    let value = value_text_at s p.attr in
    at_most 64 (length (words_of (written_op value p.op))) (length (values_in p.op))
    (ap length (words_are value p.op) ∙ length-map (values_in p.op) value) (few_values p.op k.form)

no_fault : (s : Attributes) (ps : List Pred) → length ps ≤ 32 → All (IsSettled s) ps → fault_in s (map (written_pred s) ps) ≡ None
no_fault s ps few k =
    let ws = map (written_pred s) ps in
    let unknown = none_found (is_unknown s) (written_pred s) ps (All-weaker (IsSettled s) (λ p. is_unknown s (written_pred s p) ≡ false) (is_known s) ps k) in
    let outside = none_found (is_outside s) (written_pred s) ps (All-weaker (IsSettled s) (λ p. is_outside s (written_pred s p) ≡ false) (inside s) ps k) in
    let many = none_found has_many_values (written_pred s) ps (All-weaker (IsSettled s) (λ p. has_many_values (written_pred s p) ≡ false) (few_words s) ps k) in
    rw (unknown, outside, at_most 32 (length ws) (length ps) (length-map ps (written_pred s)) few, many) refl

is_written : (op : Op) (value : ℤ → Text) → OpForm op → op_is_written (written_op value op) ≡ true
is_written (Lt v) value form = refl
is_written (Le v) value form = refl
is_written (Eq v) value form = refl
is_written (Ne v) value form = refl
is_written (Ge v) value form = refl
is_written (Gt v) value form = refl
is_written (Between v w) value form = refl
is_written (OneOf []) value form = absurd (omega (arith, form.some))
is_written (OneOf (v ∷ vs)) value form = refl
is_written (NoneOf []) value form = absurd (omega (arith, form.some))
is_written (NoneOf (v ∷ vs)) value form = refl

all_written : (s : Attributes) (ps : List Pred) → All (IsSettled s) ps → are_written (map (written_pred s) ps) ≡ true
all_written s [] k = refl
all_written s (p ∷ ps) k =
    let first = All-head (IsSettled s) p ps k in
    and_from _ _ (and_from _ _ first.name (is_written p.op (value_text_at s p.attr) first.form)) (all_written s ps (All-tail (IsSettled s) p ps k))

settled : (s : Attributes) (p : Pred) → IsSchema s → OpForm p.op → pred_lies s p ≡ true → IsName (name_at s p.attr) → IsSettled s p
settled s p f form lies named = record {
  form = form;
  name = is_attr-name s p.attr (values_in p.op) f lies named;
  found = name_back s p.attr (values_in p.op) f lies;
  values = are_back s p.attr (values_in p.op) f lies;
}

all_settled : (s : Attributes) (ps : List Pred) → IsSchema s → All (λ (p : Pred). OpForm p.op) ps → conj_lies s ps ≡ true → All (IsSpelled s) ps → All (IsSettled s) ps
all_settled s [] f forms lies spelled = All-nil (IsSettled s)
all_settled s (p ∷ ps) f forms lies spelled =
    let both = and_parts (pred_lies s p) (conj_lies s ps) lies in
    All-cons (IsSettled s) p ps
    (settled s p f (All-head (λ (q : Pred). OpForm q.op) p ps forms) both.0 (All-head (IsSpelled s) p ps spelled).0)
    (all_settled s ps f (All-tail (λ (q : Pred). OpForm q.op) p ps forms) both.1 (All-tail (IsSpelled s) p ps spelled))

-- a condition whose names and values are spelled in words is read back from its canonical text
pub spelled_is_read : (s : Attributes) (conj : List Pred) → IsSchema s → IsConj conj → conj_lies s conj ≡ true → All (IsSpelled s) conj
    → expression s (expr_text s conj) ≡ Ok conj
spelled_is_read s conj f form lies spelled =
    let k = all_settled s conj f form.forms lies spelled in
    let ws = map (written_pred s) conj in
    ap (λ o. meaning s (option_and_then written o)) (expr_lexed s conj form.forms spelled)
    ∙ ap (meaning s) (tokens_are_read ws (all_written s conj k))
    ∙ ap (judged (map (meant_pred s) ws)) (no_fault s conj form.few k)
    ∙ ap (λ (c : List Pred). Ok c) (preds_read_back s conj k)

all_spelled : (s : Attributes) (ps : List Pred) → IsSchema s → NamesAreNames s → conj_lies s ps ≡ true → All (IsSpelled s) ps
all_spelled s [] f names lies = All-nil (IsSpelled s)
all_spelled s (p ∷ ps) f names lies =
    let both = and_parts (pred_lies s p) (conj_lies s ps) lies in
    All-cons (IsSpelled s) p ps (are_spelled s p.attr (values_in p.op) f names both.0) (all_spelled s ps f names both.1)

pub texts_are_read : TextsAreRead
texts_are_read s conj f names form lies = spelled_is_read s conj f form lies (all_spelled s conj f names lies)
