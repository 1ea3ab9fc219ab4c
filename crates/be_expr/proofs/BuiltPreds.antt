-- Predicates, as they are built.
use Rattle.std.proofs.Common.{◌≡◌, ℕ, ◌+◌, ◌≤◌, ◌<◌, ◌&&◌, not, Bool, true, false, List, [], ◌∷◌, ◌++◌, append_assoc, append-nil, length, length-append, map, nat_lt, Option, Some, None, Bor, option_map, option_and_then, refl, sym, ◌∙◌, ap, arith, if◌then◌else◌}
use Rattle.std.specs.List.{list_all}
use Rattle.std.specs.Option.{is_none, option_map_or}
use Rattle.std.proofs.lemmas.Bool.{and_parts, and_right, not-true, not_from_true, lt-ltb, le-ltb}
use Rattle.be_base.specs.Text.{Text}
use Rattle.be_base.specs.Tokens.{Lexeme}
use Rattle.be_base.specs.Readers.{Read}
use Rattle.be_base.specs.declared.names.AttrNo.{AttrNo}
use Rattle.be_model.specs.declared.ops.Op.{Op}
use Rattle.be_model.specs.declared.preds.Pred.{Pred}
use Rattle.be_model.specs.Schemas.{Attributes, numbered, attribute_named}
use Rattle.be_model.specs.SetTexts.{some_outside}
use Rattle.be_expr.specs.Grammar.{WrittenOp, WrittenPred}
use Rattle.be_expr.specs.Readings.{with_pred_attr, read_pred}
use Rattle.be_expr.specs.Parts.{read_end, end_of}
use Rattle.be_expr.specs.Expressions.{words_of, is_unknown, is_outside, has_many_values, pred_on, meant_pred}
use Rattle.be_expr.specs.Faults.{preds_in}
use Rattle.be_expr.specs.Build.{are_fine_words, is_fine, op_with, pred_with, built_op, built_pred, built_preds}
use Rattle.be_expr.proofs.Joining.{before, preds_behind, preds_then, preds_by_first, preds_left, left_by_end}

pub fine_parts : (s : Attributes) (p : WrittenPred) → is_fine s p ≡ true → (is_unknown s p ≡ false) × (is_outside s p ≡ false) × (has_many_values p ≡ false)
fine_parts s p h =
    let outer = and_parts (not (is_unknown s p) && not (is_outside s p)) (not (has_many_values p)) h in
    let inner = and_parts (not (is_unknown s p)) (not (is_outside s p)) outer.0 in
    (not-true (is_unknown s p) inner.0, not-true (is_outside s p) inner.1, not-true (has_many_values p) outer.1)

-- a predicate, where its attribute is this one
abbrev on_attr : Attributes → Option AttrNo → WrittenOp × List Lexeme → Read Pred
on_attr s o r =
    if not (is_none o) && not (some_outside s o (words_of r.0)) && not (nat_lt 64 (length (words_of r.0)))
    then Some (option_map_or (λ a. pred_on s a r.0) o (pred_on s (numbered 0) r.0), r.1) else None

abbrev of_attr : AttrNo → Op × List Lexeme → Pred × List Lexeme
of_attr a r = (record { attr = a; op = r.0 }, r.1)

wrapped_if : (s : Attributes) (a : AttrNo) (r : WrittenOp × List Lexeme) (b : Bool)
    → option_map (of_attr a) (if b then Some (op_with s a r) else None) ≡ (if b then Some (pred_on s a r.0, r.1) else None)
wrapped_if s a r true = refl
wrapped_if s a r false = refl

by_attr : (s : Attributes) (name : Text) (a : AttrNo) (o : Read WrittenOp) → Some a ≡ attribute_named s name
    → option_map (of_attr a) (option_and_then (built_op s a) o) ≡ option_and_then (built_pred s) (option_map (with_pred_attr name) o)
by_attr s name a None there = refl
by_attr s name a (Some r) there = wrapped_if s a r (are_fine_words s a (words_of r.0)) ∙ ap (λ (o : Option AttrNo). on_attr s o r) there

wrapped : (a : AttrNo) (op : Op) (left : Option (List Lexeme)) → option_map (before (record { attr = a; op = op })) left ≡ option_map (of_attr a) (option_map (before op) left)
wrapped a op None = refl
wrapped a op (Some ts) = refl

-- a predicate, by what its operator and values are built into
pub pred_is_built : (s : Attributes) (name : Text) (a : AttrNo) (op : Op) (o : Read WrittenOp) (left : Option (List Lexeme)) → Some a ≡ attribute_named s name
    → option_map (before op) left ≡ option_and_then (built_op s a) o
    → option_map (before (record { attr = a; op = op })) left ≡ option_and_then (built_pred s) (option_map (with_pred_attr name) o)
pred_is_built s name a op o left there h = wrapped a op left ∙ ap (option_map (of_attr a)) h ∙ by_attr s name a o there

pub no_op_built : (s : Attributes) (name : Text) (a : AttrNo) (o : Read WrittenOp) → Some a ≡ attribute_named s name
    → None ≡ option_and_then (built_op s a) o → None ≡ option_and_then (built_pred s) (option_map (with_pred_attr name) o)
no_op_built s name a o there h = ap (option_map (of_attr a)) h ∙ by_attr s name a o there

pub unknown_is_unbuilt : (s : Attributes) (name : Text) (o : Read WrittenOp) → None ≡ attribute_named s name → None ≡ option_and_then (built_pred s) (option_map (with_pred_attr name) o)
unknown_is_unbuilt s name None there = refl
unknown_is_unbuilt s name (Some r) there = ap (λ (o : Option AttrNo). on_attr s o r) there

-- predicates behind n others
abbrev are_fine_behind : Attributes → ℕ → List WrittenPred → Bool
are_fine_behind s n ps = list_all (is_fine s) ps && not (nat_lt 32 (n + length ps))

abbrev pub built_behind : Attributes → ℕ → List WrittenPred → Option (List Pred)
built_behind s n ps = if are_fine_behind s n ps then Some (map (meant_pred s) ps) else None

none_before : (s : Attributes) (o : Option (List WrittenPred)) → option_and_then (built_preds s) o ≡ option_and_then (built_behind s 0) o
none_before s None = refl
none_before s (Some ps) =
    let none : length ps ≡ 0 + length ps = omega arith in
    ap (λ (n : ℕ). if list_all (is_fine s) ps && not (nat_lt 32 n) then Some (map (meant_pred s) ps) else None) none

put_if : (x : Pred) (xs : List Pred) (b : Bool) → (if b then Some (x ∷ xs) else None) ≡ option_map (λ ys. x ∷ ys) (if b then Some xs else None)
put_if x xs true = refl
put_if x xs false = refl

-- the first predicate without a fault is built
fine_put : (s : Attributes) (n : ℕ) (p : WrittenPred) (o : Option (List WrittenPred)) → is_fine s p ≡ true
    → option_and_then (built_behind s n) (option_map (λ ps. p ∷ ps) o) ≡ option_map (λ ys. meant_pred s p ∷ ys) (option_and_then (built_behind s (n + 1)) o)
fine_put s n p None fine = refl
fine_put s n p (Some ps) fine =
    let more : n + length (p ∷ ps) ≡ (n + 1) + length ps = omega arith in
    let whole : Bool → ℕ → Option (List Pred) = λ first m. if (first && list_all (is_fine s) ps) && not (nat_lt 32 m) then Some (meant_pred s p ∷ map (meant_pred s) ps) else None in
    ap (λ (b : Bool). whole b (n + length (p ∷ ps))) fine ∙ ap (whole true) more ∙ put_if (meant_pred s p) (map (meant_pred s) ps) (are_fine_behind s (n + 1) ps)

-- one with a fault, or one too many, is not
unfine_put : (s : Attributes) (n : ℕ) (p : WrittenPred) (o : Option (List WrittenPred)) → is_fine s p ≡ false → option_and_then (built_behind s n) (option_map (λ ps. p ∷ ps) o) ≡ None
unfine_put s n p None h = refl
unfine_put s n p (Some ps) h =
    ap (λ (first : Bool). if (first && list_all (is_fine s) ps) && not (nat_lt 32 (n + length (p ∷ ps))) then Some (map (meant_pred s) (p ∷ ps)) else None) h

crowded_put : (s : Attributes) (n : ℕ) (p : WrittenPred) (o : Option (List WrittenPred)) → 32 ≤ n → option_and_then (built_behind s n) (option_map (λ ps. p ∷ ps) o) ≡ None
crowded_put s n p None full = refl
crowded_put s n p (Some ps) full =
    let more : 32 < n + length (p ∷ ps) = omega (arith, full) in
    ap (λ (b : Bool). if b then Some (map (meant_pred s) (p ∷ ps)) else None)
    (and_right (list_all (is_fine s) (p ∷ ps)) (not (nat_lt 32 (n + length (p ∷ ps)))) (not_from_true (nat_lt 32 (n + length (p ∷ ps))) (lt-ltb 32 (n + length (p ∷ ps)) more)))

full_then : (s : Attributes) (n : ℕ) (o : Read WrittenPred) → 32 ≤ n → option_and_then (built_behind s n) (option_and_then preds_then o) ≡ None
full_then s n None full = refl
full_then s n (Some r) full = crowded_put s n r.0 (option_and_then preds_behind (read_end r.1)) full

-- behind 32 predicates none more is built
pub full_is_unbuilt : (s : Attributes) (n : ℕ) (o : Option (List Lexeme)) → 32 ≤ n → option_and_then (built_behind s n) (option_and_then preds_in o) ≡ None
full_is_unbuilt s n o full = ap (option_and_then (built_behind s n)) (preds_by_first o) ∙ full_then s n (option_and_then read_pred o) full

unfine_then : (s : Attributes) (n : ℕ) (r : WrittenPred × List Lexeme) (b : Bool) → is_fine s r.0 ≡ b → None ≡ (if b then Some (pred_with s r) else None)
    → option_and_then (built_behind s n) (preds_then r) ≡ None
unfine_then s n r true e h = absurd (cc)
unfine_then s n r false e h = unfine_put s n r.0 (option_and_then preds_behind (read_end r.1)) e

none_then : (s : Attributes) (n : ℕ) (o : Read WrittenPred) → None ≡ option_and_then (built_pred s) o → option_and_then (built_behind s n) (option_and_then preds_then o) ≡ None
none_then s n None h = refl
none_then s n (Some r) h = unfine_then s n r (is_fine s r.0) refl h

-- where the first predicate isn't built, none is
pub first_is_unbuilt : (s : Attributes) (n : ℕ) (o : Option (List Lexeme)) → None ≡ option_and_then (built_pred s) (option_and_then read_pred o)
    → option_and_then (built_behind s n) (option_and_then preds_in o) ≡ None
first_is_unbuilt s n o h = ap (option_and_then (built_behind s n)) (preds_by_first o) ∙ none_then s n (option_and_then read_pred o) h

abbrev next_built : Attributes → ℕ → Pred → Option (Option (List Lexeme)) → Option (List Pred)
next_built s n x end = option_map (λ ys. x ∷ ys) (option_and_then (built_behind s (n + 1)) (option_and_then preds_behind end))

step_if : (s : Attributes) (n : ℕ) (x : Pred) (r : WrittenPred × List Lexeme) (left : Option (List Lexeme)) (end : Option (Option (List Lexeme))) (b : Bool) → is_fine s r.0 ≡ b
    → option_map (before x) left ≡ (if b then Some (pred_with s r) else None) → end ≡ option_and_then read_end left
    → option_and_then (built_behind s n) (preds_then r) ≡ next_built s n x end
step_if s n x r None end true e h q = absurd (cc)
step_if s n x r (Some ts) end false e h q = absurd (cc)
step_if s n x r None end false e h q = unfine_put s n r.0 (option_and_then preds_behind (read_end r.1)) e ∙ sym (ap (next_built s n x) q)
step_if s n x r (Some ts) end true e h q =
    let first : meant_pred s r.0 ≡ x = ap (λ o. option_map_or (λ y. y.0) o x) (sym h) in
    let rest : r.1 ≡ ts = ap (λ o. option_map_or (λ y. y.1) o ts) (sym h) in
    fine_put s n r.0 (option_and_then preds_behind (read_end r.1)) e
    ∙ ap (λ (y : Pred). next_built s n y (read_end r.1)) first ∙ ap (next_built s n x) (ap read_end rest ∙ sym q)

step_then : (s : Attributes) (n : ℕ) (x : Pred) (o : Read WrittenPred) (left : Option (List Lexeme)) (end : Option (Option (List Lexeme)))
    → option_map (before x) left ≡ option_and_then (built_pred s) o → end ≡ option_and_then read_end left
    → option_and_then (built_behind s n) (option_and_then preds_then o) ≡ next_built s n x end
step_then s n x None None end h q = sym (ap (next_built s n x) q)
step_then s n x None (Some ts) end h q = absurd (cc)
step_then s n x (Some r) left end h q = step_if s n x r left end (is_fine s r.0) refl h q

-- a predicate was built, and those behind it
one_step : (s : Attributes) (n : ℕ) (x : Pred) (o left : Option (List Lexeme)) (end : Option (Option (List Lexeme)))
    → option_map (before x) left ≡ option_and_then (built_pred s) (option_and_then read_pred o) → end ≡ option_and_then read_end left
    → option_and_then (built_behind s n) (option_and_then preds_in o) ≡ next_built s n x end
one_step s n x o left end h q = ap (option_and_then (built_behind s n)) (preds_by_first o) ∙ step_then s n x (option_and_then read_pred o) left end h q

-- no end and no `and` follows it
pub end_is_unbuilt : (s : Attributes) (n : ℕ) (x : Pred) (o left : Option (List Lexeme))
    → option_map (before x) left ≡ option_and_then (built_pred s) (option_and_then read_pred o) → None ≡ option_and_then read_end left
    → option_and_then (built_behind s n) (option_and_then preds_in o) ≡ None
end_is_unbuilt s n x o left h q = one_step s n x o left None h q

-- all predicates, by those that were built and those that are left
abbrev pub joined : Attributes → List Pred → Option (List WrittenPred) → Option (List Pred)
joined s conj o = option_map (λ ys. conj ++ ys) (option_and_then (built_behind s (length conj)) o)

moved : (conj : List Pred) (x : Pred) (o : Option (List Pred)) → option_map (λ ys. conj ++ ys) (option_map (λ ys. x ∷ ys) o) ≡ option_map (λ ys. (conj ++ x ∷ []) ++ ys) o
moved conj x None = refl
moved conj x (Some ys) = ap (λ zs. Some zs) (sym (append_assoc conj (x ∷ []) ys))

nothing_put : (o : Option (List Pred)) → o ≡ option_map (λ ys. [] ++ ys) o
nothing_put None = refl
nothing_put (Some ys) = refl

pub begun : (s : Attributes) (o : Option (List WrittenPred)) → option_and_then (built_preds s) o ≡ joined s [] o
begun s o = none_before s o ∙ nothing_put (option_and_then (built_behind s 0) o)

-- a predicate more is built
pub one_more_built : (s : Attributes) (conj more : List Pred) (x : Pred) (o left : Option (List Lexeme)) (after : Option (Bor Text))
    → more ≡ conj ++ x ∷ [] → option_map (before x) left ≡ option_and_then (built_pred s) (option_and_then read_pred o) → end_of (Some after) ≡ option_and_then read_end left
    → joined s conj (option_and_then preds_in o) ≡ joined s more (preds_left after)
one_more_built s conj more x o left after is h q =
    let size : length conj + 1 ≡ length (conj ++ x ∷ []) = sym (length-append conj (x ∷ [])) in
    let rest = option_and_then preds_behind (end_of (Some after)) in
    ap (option_map (λ ys. conj ++ ys)) (one_step s (length conj) x o left (end_of (Some after)) h q)
    ∙ moved conj x (option_and_then (built_behind s (length conj + 1)) rest)
    ∙ ap (λ (n : ℕ). option_map (λ ys. (conj ++ x ∷ []) ++ ys) (option_and_then (built_behind s n) rest)) size
    ∙ ap (joined s (conj ++ x ∷ [])) (left_by_end after)
    ∙ ap (λ (front : List Pred). joined s front (preds_left after)) (sym is)

-- nothing is left
pub all_built : (s : Attributes) (conj : List Pred) → length conj ≤ 32 → joined s conj (Some []) ≡ Some conj
all_built s conj few =
    let test : nat_lt 32 (length conj + 0) ≡ false = le-ltb 32 (length conj + 0) (omega (arith, few)) in
    ap (λ (b : Bool). option_map (λ ys. conj ++ ys) (if not b then Some [] else None)) test ∙ ap (λ ys. Some ys) (append-nil conj)
