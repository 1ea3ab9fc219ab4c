-- The tokens of canonical texts.
use Rattle.std.proofs.Common.{◌≡◌, ℤ, List, [], ◌∷◌, ◌++◌, map, All, Some, codes, append_assoc, append-nil, refl, ap, ◌∙◌, arith}
use Rattle.std.proofs.lemmas.List.Elements.{All-head, All-tail}
use Rattle.be_base.specs.Text.{Text, IsWord, is_word_byte}
use Rattle.be_base.specs.Tokens.{Lexeme, word, less, less_or_equal, equal, not_equal, greater_or_equal, greater, tokens}
use Rattle.be_base.specs.Sets.{set_tokens, set_text}
use Rattle.be_base.proofs.SetTokens.{AreWords, Ends, set_then}
use Rattle.be_base.proofs.Joined.{IsWord-from_name, word_then, word_alone, word_space, space_then, less_space, less_or_equal_space, equal_space, not_equal_space, greater_or_equal_space, greater_space}
use Rattle.be_model.specs.declared.ops.Op.{Op}
use Rattle.be_model.specs.declared.ops.Op.TheVariants.{Lt, Le, Eq, Ne, Ge, Gt, Between, OneOf, NoneOf}
use Rattle.be_model.specs.declared.preds.Pred.{Pred}
use Rattle.be_model.specs.Schemas.{Attributes}
use Rattle.be_model.specs.Forms.{AreValues, OpForm}
use Rattle.be_model.specs.Lies.{values_in}
use Rattle.be_model.specs.Texts.{value_text_at, name_at}
use Rattle.be_expr.specs.Grammar.{WrittenOp, compared, between, among, not_among, WrittenPred, op_tokens, pred_tokens, condition_tokens}
use Rattle.be_expr.specs.Writing.{op_text, pred_text, expr_text, IsSpelled}

-- a comparison, as it is written
abbrev pub written_op : (ℤ → Text) → Op → WrittenOp
written_op value (Lt v) = compared less (value v)
written_op value (Le v) = compared less_or_equal (value v)
written_op value (Eq v) = compared equal (value v)
written_op value (Ne v) = compared not_equal (value v)
written_op value (Ge v) = compared greater_or_equal (value v)
written_op value (Gt v) = compared greater (value v)
written_op value (Between v w) = between (value v) (value w)
written_op value (OneOf vs) = among (map value vs)
written_op value (NoneOf vs) = not_among (map value vs)

abbrev pub written_pred : Attributes → Pred → WrittenPred
written_pred s p = record { attr = name_at s p.attr; op = written_op (value_text_at s p.attr) p.op }

set_lexed : (value : ℤ → Text) (vs : List ℤ) (rest : Text) (us : List Lexeme) → AreValues vs → AreWords value vs → tokens rest ≡ Some us
    → tokens (set_text value vs ++ rest) ≡ Some (set_tokens (map value vs) ++ us)
set_lexed value [] rest us form words e = absurd (omega (arith, form.some))
set_lexed value (v ∷ vs) rest us form words e = set_then value v vs rest us words e

pub IsWord-in : IsWord (codes "in")
unfolding is_word_byte
IsWord-in = record { some = omega arith; bytes = refl }

IsWord-not : IsWord (codes "not")
unfolding is_word_byte
IsWord-not = record { some = omega arith; bytes = refl }

pub IsWord-and : IsWord (codes "and")
unfolding is_word_byte
IsWord-and = record { some = omega arith; bytes = refl }

pub IsWord-between : IsWord (codes "between")
unfolding is_word_byte
IsWord-between = record { some = omega arith; bytes = refl }

IsWord-all : IsWord (codes "all")
unfolding is_word_byte
IsWord-all = record { some = omega arith; bytes = refl }

joined_range : (v w rest : Text) → ((v ++ codes " and ") ++ w) ++ rest ≡ v ++ 32 ∷ (codes "and" ++ 32 ∷ (w ++ rest))
joined_range v w rest = append_assoc (v ++ codes " and ") w rest ∙ append_assoc v (codes " and ") (w ++ rest)

op_lexed : (value : ℤ → Text) (op : Op) (rest : Text) (us : List Lexeme) → OpForm op → AreWords value (values_in op) → Ends rest → tokens rest ≡ Some us
    → tokens (op_text value op ++ rest) ≡ Some (op_tokens (written_op value op) ++ us)
op_lexed value (Lt v) rest us form words ends e = less_space (value v ++ rest) (word (value v) ∷ us) (word_then (value v) rest us (All-head (λ x. IsWord (value x)) v [] words) ends e)
op_lexed value (Le v) rest us form words ends e = less_or_equal_space (value v ++ rest) (word (value v) ∷ us) (word_then (value v) rest us (All-head (λ x. IsWord (value x)) v [] words) ends e)
op_lexed value (Eq v) rest us form words ends e = equal_space (value v ++ rest) (word (value v) ∷ us) (word_then (value v) rest us (All-head (λ x. IsWord (value x)) v [] words) ends e)
op_lexed value (Ne v) rest us form words ends e = not_equal_space (value v ++ rest) (word (value v) ∷ us) (word_then (value v) rest us (All-head (λ x. IsWord (value x)) v [] words) ends e)
op_lexed value (Ge v) rest us form words ends e = greater_or_equal_space (value v ++ rest) (word (value v) ∷ us) (word_then (value v) rest us (All-head (λ x. IsWord (value x)) v [] words) ends e)
op_lexed value (Gt v) rest us form words ends e = greater_space (value v ++ rest) (word (value v) ∷ us) (word_then (value v) rest us (All-head (λ x. IsWord (value x)) v [] words) ends e)
op_lexed value (Between v w) rest us form words ends e =
    let high = word_then (value w) rest us (All-head (λ x. IsWord (value x)) w [] (All-tail (λ x. IsWord (value x)) v (w ∷ []) words)) ends e in
    let joined = word_space (codes "and") (value w ++ rest) (word (value w) ∷ us) IsWord-and high in
    ap (λ text. tokens (codes "between" ++ 32 ∷ text)) (joined_range (value v) (value w) rest)
    ∙ word_space (codes "between") (value v ++ 32 ∷ (codes "and" ++ 32 ∷ (value w ++ rest))) (word (value v) ∷ word (codes "and") ∷ word (value w) ∷ us) IsWord-between
    (word_space (value v) (codes "and" ++ 32 ∷ (value w ++ rest)) (word (codes "and") ∷ word (value w) ∷ us) (All-head (λ x. IsWord (value x)) v (w ∷ []) words) joined)
op_lexed value (OneOf vs) rest us form words ends e =
    word_space (codes "in") (set_text value vs ++ rest) (set_tokens (map value vs) ++ us) IsWord-in (set_lexed value vs rest us form words e)
op_lexed value (NoneOf vs) rest us form words ends e =
    word_space (codes "not") (codes "in" ++ 32 ∷ (set_text value vs ++ rest)) (word (codes "in") ∷ (set_tokens (map value vs) ++ us)) IsWord-not
    (word_space (codes "in") (set_text value vs ++ rest) (set_tokens (map value vs) ++ us) IsWord-in (set_lexed value vs rest us form words e))

pred_lexed : (s : Attributes) (p : Pred) (rest : Text) (us : List Lexeme) → OpForm p.op → IsSpelled s p → Ends rest → tokens rest ≡ Some us
    → tokens (pred_text s p ++ rest) ≡ Some (pred_tokens (written_pred s p) ++ us)
pred_lexed s p rest us form spelled ends e =
    let value = value_text_at s p.attr in
    let op = op_text value p.op in
    ap tokens (append_assoc (name_at s p.attr ++ codes " ") op rest ∙ append_assoc (name_at s p.attr) (codes " ") (op ++ rest))
    ∙ word_space (name_at s p.attr) (op ++ rest) (op_tokens (written_op value p.op) ++ us) (IsWord-from_name (name_at s p.attr) spelled.0)
    (op_lexed value p.op rest us form spelled.1 ends e)

preds_lexed : (s : Attributes) (p : Pred) (ps : List Pred) → All (λ (q : Pred). OpForm q.op) (p ∷ ps) → All (IsSpelled s) (p ∷ ps)
    → tokens (expr_text s (p ∷ ps)) ≡ Some (condition_tokens (map (written_pred s) (p ∷ ps)))
unfolding is_word_byte
preds_lexed s p [] forms spelled =
    pred_lexed s p [] [] (All-head (λ (q : Pred). OpForm q.op) p [] forms) (All-head (IsSpelled s) p [] spelled) refl refl
    ∙ ap (λ (ts : List Lexeme). Some ts) (append-nil (pred_tokens (written_pred s p)))
preds_lexed s p (q ∷ qs) forms spelled =
    let after = preds_lexed s q qs (All-tail (λ (x : Pred). OpForm x.op) p (q ∷ qs) forms) (All-tail (IsSpelled s) p (q ∷ qs) spelled) in
    let us = condition_tokens (map (written_pred s) (q ∷ qs)) in
    pred_lexed s p (32 ∷ (codes "and" ++ 32 ∷ expr_text s (q ∷ qs))) (word (codes "and") ∷ us)
    (All-head (λ (x : Pred). OpForm x.op) p (q ∷ qs) forms) (All-head (IsSpelled s) p (q ∷ qs) spelled) refl
    (space_then (codes "and" ++ 32 ∷ expr_text s (q ∷ qs)) (word (codes "and") ∷ us) (word_space (codes "and") (expr_text s (q ∷ qs)) us IsWord-and after))

-- the tokens of a condition's canonical text are those of the condition as it is written
pub expr_lexed : (s : Attributes) (conj : List Pred) → All (λ (q : Pred). OpForm q.op) conj → All (IsSpelled s) conj
    → tokens (expr_text s conj) ≡ Some (condition_tokens (map (written_pred s) conj))
expr_lexed s [] forms spelled = word_alone (codes "all") IsWord-all
expr_lexed s (p ∷ ps) forms spelled = preds_lexed s p ps forms spelled
