-- The reading of conditions is the grammar's.
use Rattle.std.proofs.Common.{◌≡◌, ℕ, zero, suc, ◌+◌, ◌≤◌, ◌<◌, ◌&&◌, Bool, true, false, List, [], ◌∷◌, ◌++◌, length, Option, Some, None, option_map, option_and_then, codes, refl, sym, ◌∙◌, ap, subst, arith, append_assoc, append-nil, length-append, if◌then◌else◌}
use Rattle.be_base.specs.Text.{Text, same_text}
use Rattle.be_base.specs.Tokens.{Lexeme, word, less, less_or_equal, equal, not_equal, greater_or_equal, greater, open_brace, close_brace, comma, blank, stray}
use Rattle.be_base.specs.Readers.{Read}
use Rattle.be_base.specs.Sets.{value_tokens, set_tokens, is_filled, read_values}
use Rattle.be_base.proofs.SameText.{equal_from_same_text}
use Rattle.be_base.proofs.SetReadings.{read_values-value_tokens, ValuesRead, values_are_written}
use Rattle.std.proofs.lemmas.Bool.{and_parts, and_from}
use Rattle.be_expr.specs.Grammar.{WrittenOp, compared, between, among, not_among, WrittenPred, op_tokens, pred_tokens, condition_tokens, is_attr, op_is_written, are_written}
use Rattle.be_expr.specs.Readings.{read_set, read_not, read_between, read_worded, read_op, with_pred_attr, read_pred, read_joined, read_preds, written, ReadsAreWritten}

set_is_read : (op : List Text → WrittenOp) (vs : List Text) (ts : List Lexeme) → is_filled vs ≡ true
    → read_set op (set_tokens vs ++ ts) ≡ Some (op vs, ts)
set_is_read op [] ts h = absurd (cc)
set_is_read op (v ∷ vs) ts h =
    ap (λ (rest : List Lexeme). option_map (λ (r : List Text × List Lexeme). (op r.0, r.1)) (read_values rest)) (append_assoc (value_tokens (v ∷ vs)) (close_brace ∷ []) ts)
    ∙ ap (option_map (λ (r : List Text × List Lexeme). (op r.0, r.1))) (read_values-value_tokens v vs ts)

op_is_read : (op : WrittenOp) (ts : List Lexeme) → op_is_written op ≡ true → read_op (op_tokens op ++ ts) ≡ Some (op, ts)
op_is_read (compared less v) ts h = refl
op_is_read (compared less_or_equal v) ts h = refl
op_is_read (compared equal v) ts h = refl
op_is_read (compared not_equal v) ts h = refl
op_is_read (compared greater_or_equal v) ts h = refl
op_is_read (compared greater v) ts h = refl
op_is_read (compared operator v) ts h = absurd (cc)
op_is_read (between v w) ts h = refl
op_is_read (among vs) ts h = set_is_read among vs ts h
op_is_read (not_among vs) ts h = set_is_read not_among vs ts h

pub pred_is_read : (p : WrittenPred) (ts : List Lexeme) → (is_attr p.attr && op_is_written p.op) ≡ true → read_pred (pred_tokens p ++ ts) ≡ Some (p, ts)
pred_is_read p ts h =
    let parts = and_parts (is_attr p.attr) (op_is_written p.op) h in
    ap (λ (b : Bool). if b then option_map (with_pred_attr p.attr) (read_op (op_tokens p.op ++ ts)) else None) parts.0
    ∙ ap (option_map (with_pred_attr p.attr)) (op_is_read p.op ts parts.1)

-- fuel for each predicate is enough
preds_are_read : (fuel : ℕ) (p : WrittenPred) (ps : List WrittenPred) → length ps < fuel → are_written (p ∷ ps) ≡ true
    → read_preds fuel (condition_tokens (p ∷ ps)) ≡ Some (p ∷ ps)
preds_are_read zero p ps few h = absurd (omega arith)
preds_are_read (suc fuel) p [] few h =
    let parts = and_parts (is_attr p.attr && op_is_written p.op) true h in
    ap (λ (ts : List Lexeme). option_and_then (λ (r : WrittenPred × List Lexeme). read_joined (read_preds fuel) r.0 r.1) (read_pred ts)) (sym (append-nil (pred_tokens p)))
    ∙ ap (option_and_then (λ (r : WrittenPred × List Lexeme). read_joined (read_preds fuel) r.0 r.1)) (pred_is_read p [] parts.0)
preds_are_read (suc fuel) p (q ∷ ps) few h =
    let parts = and_parts (is_attr p.attr && op_is_written p.op) (are_written (q ∷ ps)) h in
    ap (option_and_then (λ (r : WrittenPred × List Lexeme). read_joined (read_preds fuel) r.0 r.1)) (pred_is_read p (word (codes "and") ∷ condition_tokens (q ∷ ps)) parts.0)
    ∙ ap (option_map (λ (rest : List WrittenPred). p ∷ rest)) (preds_are_read fuel q ps (omega (arith, few)) parts.1)

op_has_tokens : (op : WrittenOp) → 1 ≤ length (op_tokens op)
op_has_tokens (compared operator v) = omega arith
op_has_tokens (between v w) = omega arith
op_has_tokens (among vs) = omega arith
op_has_tokens (not_among vs) = omega arith

tokens_are_many : (p : WrittenPred) (ps : List WrittenPred) → 2 + length ps ≤ length (condition_tokens (p ∷ ps))
tokens_are_many p [] = omega (arith, op_has_tokens p.op)
tokens_are_many p (q ∷ ps) =
    omega (arith, op_has_tokens p.op, tokens_are_many q ps, length-append (pred_tokens p) (word (codes "and") ∷ condition_tokens (q ∷ ps)))

several_are_preds : (ts : List Lexeme) → 2 ≤ length ts → written ts ≡ read_preds (length ts) ts
several_are_preds [] h = absurd (omega arith)
several_are_preds (t ∷ []) h = absurd (omega arith)
several_are_preds (word w ∷ u ∷ ts) h = refl
several_are_preds (t ∷ u ∷ ts) h = refl

-- what the grammar writes is read
pub tokens_are_read : (ps : List WrittenPred) → are_written ps ≡ true → written (condition_tokens ps) ≡ Some ps
tokens_are_read [] h = refl
tokens_are_read (p ∷ ps) h =
    let many = tokens_are_many p ps in
    several_are_preds (condition_tokens (p ∷ ps)) (omega arith)
    ∙ preds_are_read (length (condition_tokens (p ∷ ps))) p ps (omega arith) h

abbrev OpRead : List Lexeme → Read WrittenOp → Type 0
OpRead ts None = Unit
OpRead ts (Some r) = (op_is_written r.0 ≡ true) × (op_tokens r.0 ++ r.1 ≡ ts)

among_is_written : (ts : List Lexeme) (o : Read (List Text)) → ValuesRead ts o
    → OpRead (word (codes "in") ∷ open_brace ∷ ts) (option_map (λ (r : List Text × List Lexeme). (among r.0, r.1)) o)
among_is_written ts None h = tt
among_is_written ts (Some (vs, rest)) h =
    (h.0, ap (λ (after : List Lexeme). word (codes "in") ∷ open_brace ∷ after) (append_assoc (value_tokens vs) (close_brace ∷ []) rest ∙ h.1))

not_among_is_written : (ts : List Lexeme) (o : Read (List Text)) → ValuesRead ts o
    → OpRead (word (codes "not") ∷ word (codes "in") ∷ open_brace ∷ ts) (option_map (λ (r : List Text × List Lexeme). (not_among r.0, r.1)) o)
not_among_is_written ts None h = tt
not_among_is_written ts (Some (vs, rest)) h =
    (h.0, ap (λ (after : List Lexeme). word (codes "not") ∷ word (codes "in") ∷ open_brace ∷ after) (append_assoc (value_tokens vs) (close_brace ∷ []) rest ∙ h.1))

in_is_written : (ts : List Lexeme) → OpRead (word (codes "in") ∷ ts) (read_set among ts)
in_is_written (open_brace ∷ ts) = among_is_written ts (read_values ts) (values_are_written ts)
in_is_written _ = tt

not_in_is_written : (ts : List Lexeme) → OpRead (word (codes "not") ∷ word (codes "in") ∷ ts) (read_set not_among ts)
not_in_is_written (open_brace ∷ ts) = not_among_is_written ts (read_values ts) (values_are_written ts)
not_in_is_written _ = tt

-- by whether the word is the one that is wanted

after_word : {X : Type 0} (w want : Text) (b : Bool) (x y : X) (P : Text → X → Type 0) → same_text w want ≡ b → P want x → P w y → P w (if b then x else y)
after_word w want true x y P e met other = subst (λ (text : Text). P text x) (sym (equal_from_same_text w want e)) met
after_word w want false x y P e met other = other

not_is_written : (ts : List Lexeme) → OpRead (word (codes "not") ∷ ts) (read_not ts)
not_is_written (word w ∷ ts) =
    after_word w (codes "in") (same_text w (codes "in")) (read_set not_among ts) None (λ (text : Text) (o : Read WrittenOp). OpRead (word (codes "not") ∷ word text ∷ ts) o)
    refl (not_in_is_written ts) tt
not_is_written _ = tt

between_is_written : (ts : List Lexeme) → OpRead (word (codes "between") ∷ ts) (read_between ts)
between_is_written (word v ∷ word joiner ∷ word w ∷ ts) =
    after_word joiner (codes "and") (same_text joiner (codes "and")) (Some (between v w, ts)) None
    (λ (text : Text) (o : Read WrittenOp). OpRead (word (codes "between") ∷ word v ∷ word text ∷ word w ∷ ts) o) refl (refl, refl) tt
between_is_written _ = tt

worded_is_written : (w : Text) (ts : List Lexeme) → OpRead (word w ∷ ts) (read_worded w ts)
worded_is_written w ts =
    let P : Text → Read WrittenOp → Type 0 = λ text o. OpRead (word text ∷ ts) o in
    after_word w (codes "between") (same_text w (codes "between")) _ _ P refl (between_is_written ts)
    (after_word w (codes "in") (same_text w (codes "in")) _ _ P refl (in_is_written ts)
    (after_word w (codes "not") (same_text w (codes "not")) _ _ P refl (not_is_written ts) tt))

op_is_as_written : (ts : List Lexeme) → OpRead ts (read_op ts)
op_is_as_written (word w ∷ ts) = worded_is_written w ts
op_is_as_written (less ∷ word v ∷ ts) = (refl, refl)
op_is_as_written (less_or_equal ∷ word v ∷ ts) = (refl, refl)
op_is_as_written (equal ∷ word v ∷ ts) = (refl, refl)
op_is_as_written (not_equal ∷ word v ∷ ts) = (refl, refl)
op_is_as_written (greater_or_equal ∷ word v ∷ ts) = (refl, refl)
op_is_as_written (greater ∷ word v ∷ ts) = (refl, refl)
op_is_as_written (open_brace ∷ word v ∷ ts) = tt
op_is_as_written (close_brace ∷ word v ∷ ts) = tt
op_is_as_written (comma ∷ word v ∷ ts) = tt
op_is_as_written (blank ∷ word v ∷ ts) = tt
op_is_as_written (stray b ∷ word v ∷ ts) = tt
op_is_as_written _ = tt

abbrev pub PredRead : List Lexeme → Read WrittenPred → Type 0
PredRead ts None = Unit
PredRead ts (Some r) = ((is_attr r.0.attr && op_is_written r.0.op) ≡ true) × (pred_tokens r.0 ++ r.1 ≡ ts)

attr_before_op : (a : Text) (b : Bool) (ts : List Lexeme) (o : Read WrittenOp) → is_attr a ≡ b → OpRead ts o
    → PredRead (word a ∷ ts) (if b then option_map (with_pred_attr a) o else None)
attr_before_op a false ts o e h = tt
attr_before_op a true ts None e h = tt
attr_before_op a true ts (Some (op, rest)) e h = (and_from (is_attr a) (op_is_written op) e h.0, ap (λ (after : List Lexeme). word a ∷ after) h.1)

pub pred_is_written : (ts : List Lexeme) → PredRead ts (read_pred ts)
pred_is_written (word a ∷ ts) = attr_before_op a (is_attr a) ts (read_op ts) refl (op_is_as_written ts)
pred_is_written _ = tt

abbrev AreRead : List Lexeme → Option (List WrittenPred) → Type 0
AreRead ts None = Unit
AreRead ts (Some []) = ⊥
AreRead ts (Some (p ∷ ps)) = (are_written (p ∷ ps) ≡ true) × (condition_tokens (p ∷ ps) ≡ ts)

pred_before_preds : (p : WrittenPred) (o : Option (List WrittenPred)) (ts : List Lexeme) → (is_attr p.attr && op_is_written p.op) ≡ true → AreRead ts o
    → AreRead (pred_tokens p ++ word (codes "and") ∷ ts) (option_map (λ ps. p ∷ ps) o)
pred_before_preds p None ts h rest = tt
pred_before_preds p (Some []) ts h rest = absurd rest
pred_before_preds p (Some (q ∷ ps)) ts h rest =
    (and_from (is_attr p.attr && op_is_written p.op) (are_written (q ∷ ps)) h rest.0, ap (λ (after : List Lexeme). pred_tokens p ++ word (codes "and") ∷ after) rest.1)

joined_are_written : (rest : List Lexeme → Option (List WrittenPred)) (p : WrittenPred) (ts : List Lexeme) → ((after : List Lexeme) → AreRead after (rest after))
    → (is_attr p.attr && op_is_written p.op) ≡ true → AreRead (pred_tokens p ++ ts) (read_joined rest p ts)
joined_are_written rest p [] each h = (and_from (is_attr p.attr && op_is_written p.op) true h refl, sym (append-nil (pred_tokens p)))
joined_are_written rest p (word w ∷ ts) each h =
    after_word w (codes "and") (same_text w (codes "and")) _ _ (λ (text : Text) (o : Option (List WrittenPred)). AreRead (pred_tokens p ++ word text ∷ ts) o) refl
    (pred_before_preds p (rest ts) ts h (each ts)) tt
joined_are_written rest p _ each h = tt

first_then_rest : (rest : List Lexeme → Option (List WrittenPred)) (ts : List Lexeme) (o : Read WrittenPred) → ((after : List Lexeme) → AreRead after (rest after)) → PredRead ts o
    → AreRead ts (option_and_then (λ (r : WrittenPred × List Lexeme). read_joined rest r.0 r.1) o)
first_then_rest rest ts None each h = tt
first_then_rest rest ts (Some (p, after)) each h =
    subst (λ (whole : List Lexeme). AreRead whole (read_joined rest p after)) h.1 (joined_are_written rest p after each h.0)

preds_are_as_written : (fuel : ℕ) (ts : List Lexeme) → AreRead ts (read_preds fuel ts)
preds_are_as_written zero ts = tt
preds_are_as_written (suc fuel) ts = first_then_rest (read_preds fuel) ts (read_pred ts) (preds_are_as_written fuel) (pred_is_written ts)

abbrev IsRead : List Lexeme → Option (List WrittenPred) → Type 0
IsRead ts None = Unit
IsRead ts (Some ps) = (are_written ps ≡ true) × (condition_tokens ps ≡ ts)

any_are_read : (ts : List Lexeme) (o : Option (List WrittenPred)) → AreRead ts o → IsRead ts o
any_are_read ts None h = tt
any_are_read ts (Some []) h = absurd h
any_are_read ts (Some (p ∷ ps)) h = h

several_are_read : (ts : List Lexeme) → IsRead ts (read_preds (length ts) ts)
several_are_read ts = any_are_read ts (read_preds (length ts) ts) (preds_are_as_written (length ts) ts)

written_is_read : (ts : List Lexeme) → IsRead ts (written ts)
written_is_read [] = tt
written_is_read (word w ∷ []) =
    after_word w (codes "all") (same_text w (codes "all")) (Some []) None (λ (text : Text) (o : Option (List WrittenPred)). IsRead (word text ∷ []) o) refl (refl, refl) tt
written_is_read (t ∷ []) = tt
written_is_read (word w ∷ u ∷ ts) = several_are_read (word w ∷ u ∷ ts)
written_is_read (t ∷ u ∷ ts) = several_are_read (t ∷ u ∷ ts)

pub reads_are_written : ReadsAreWritten
reads_are_written ts ps = (
  λ h. subst (λ (o : Option (List WrittenPred)). IsRead ts o) h (written_is_read ts),
  λ h. subst (λ (tokens : List Lexeme). written tokens ≡ Some ps) h.1 (tokens_are_read ps h.0),
)
