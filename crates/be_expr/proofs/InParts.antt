-- Reading part by part.
use Rattle.std.proofs.Common.{◌≡◌, Bool, true, false, List, [], ◌∷◌, Option, Some, None, option_map, option_and_then, codes, refl, sym, ◌∙◌, ap, if◌then◌else◌}
use Rattle.be_base.specs.Text.{Text, same_text}
use Rattle.be_base.specs.Tokens.{Lexeme, word, less, less_or_equal, equal, not_equal, greater_or_equal, greater, open_brace, close_brace, comma, blank, stray}
use Rattle.be_base.specs.Readers.{Read, read_word, after_word}
use Rattle.be_expr.specs.Grammar.{WrittenOp, compared, between, among, not_among, WrittenPred, is_attr}
use Rattle.be_expr.specs.Readings.{with_pred_attr, read_set, read_not, read_between, read_op, read_pred}
use Rattle.be_expr.specs.Parts.{read_attr, read_ends, read_brace, read_opening, read_head, with_values}

-- a word that was read first is the attribute where it may be one
attr_of_word : (ts : List Lexeme) → read_attr ts ≡ option_and_then (λ (r : Text × List Lexeme). if is_attr r.0 then Some r else None) (read_word ts)
attr_of_word (word w ∷ ts) = refl
attr_of_word _ = refl

word_first : (o : Option (List Lexeme)) → option_and_then read_attr o ≡ option_and_then (λ (r : Text × List Lexeme). if is_attr r.0 then Some r else None) (option_and_then read_word o)
word_first None = refl
word_first (Some ts) = attr_of_word ts

kept_if : (w : Text) (b : Bool) (rest : Option (List Lexeme)) → is_attr w ≡ b
    → option_and_then (λ (r : Text × List Lexeme). if is_attr r.0 then Some r else None) (option_map (λ ts. (w, ts)) rest) ≡ (if b then option_map (λ ts. (w, ts)) rest else None)
kept_if w true None e = refl
kept_if w false None e = refl
kept_if w true (Some ts) e = ap (λ (c : Bool). if c then Some (w, ts) else None) e
kept_if w false (Some ts) e = ap (λ (c : Bool). if c then Some (w, ts) else None) e

-- by whether the first word may be an attribute's name
attr_is_read : (w : Text) (b : Bool) (o rest : Option (List Lexeme)) → is_attr w ≡ b → option_map (λ ts. (w, ts)) rest ≡ option_and_then read_word o
    → option_and_then read_attr o ≡ (if b then option_map (λ ts. (w, ts)) rest else None)
attr_is_read w b o rest e h =
    word_first o ∙ ap (option_and_then (λ (r : Text × List Lexeme). if is_attr r.0 then Some r else None)) (sym h) ∙ kept_if w b rest e

abbrev attr_then_op : Text × List Lexeme → Read WrittenPred
attr_then_op r = option_map (with_pred_attr r.0) (read_opening r.1)

head_by_attr : (o : Option (List Lexeme)) → option_and_then read_head o ≡ option_and_then attr_then_op (option_and_then read_attr o)
head_by_attr None = refl
head_by_attr (Some ts) = refl

op_after : (w : Text) (rest : Option (List Lexeme)) → option_and_then attr_then_op (option_map (λ ts. (w, ts)) rest) ≡ option_map (with_pred_attr w) (option_and_then read_opening rest)
op_after w None = refl
op_after w (Some ts) = refl

attr_met : (w attr : Text) (b : Bool) → Some attr ≡ (if b then Some w else None) → (b ≡ true) × (attr ≡ w)
attr_met w attr true h = (refl, cc)
attr_met w attr false h = absurd (cc)

attr_missed : (w : Text) (b : Bool) → None ≡ (if b then Some w else None) → b ≡ false
attr_missed w true h = absurd (cc)
attr_missed w false h = refl

-- the head of a predicate that begins with this attribute
pub head_first : (w attr : Text) (o rest : Option (List Lexeme)) → Some attr ≡ (if is_attr w then Some w else None)
    → option_map (λ ts. (w, ts)) rest ≡ option_and_then read_word o → option_and_then read_head o ≡ option_map (with_pred_attr attr) (option_and_then read_opening rest)
head_first w attr o rest met h =
    let is = attr_met w attr (is_attr w) met in
    head_by_attr o ∙ ap (option_and_then attr_then_op) (attr_is_read w true o rest is.0 h) ∙ op_after w rest
    ∙ ap (λ (a : Text). option_map (with_pred_attr a) (option_and_then read_opening rest)) (sym is.1)

pub no_attr_first : (w : Text) (o rest : Option (List Lexeme)) → None ≡ (if is_attr w then Some w else None)
    → option_map (λ ts. (w, ts)) rest ≡ option_and_then read_word o → option_and_then read_head o ≡ None
no_attr_first w o rest missed h =
    head_by_attr o ∙ ap (option_and_then attr_then_op) (attr_is_read w false o rest (attr_missed w (is_attr w) missed) h)

wrapped : (attr : Text) (op : WrittenOp) (left : Option (List Lexeme))
    → option_map (λ ts. (record { attr = attr; op = op }, ts)) left ≡ option_map (with_pred_attr attr) (option_map (λ ts. (op, ts)) left)
wrapped attr op None = refl
wrapped attr op (Some ts) = refl

pub head_of : (attr : Text) (op : WrittenOp) (left rest : Option (List Lexeme)) → option_map (λ ts. (op, ts)) left ≡ option_and_then read_opening rest
    → option_map (λ ts. (record { attr = attr; op = op }, ts)) left ≡ option_map (with_pred_attr attr) (option_and_then read_opening rest)
head_of attr op left rest h = wrapped attr op left ∙ ap (option_map (with_pred_attr attr)) h

-- an operator as it was read, with the values that are left
abbrev op_then : WrittenOp × List Lexeme → Read WrittenOp
op_then r = with_values r.0 (Some r.1)

abbrev joined_values : Text → Bool → List Lexeme → Read WrittenOp
joined_values v b (word w ∷ ts) = if b then Some (between v w, ts) else None
joined_values v b _ = None

between_joined : (v joiner : Text) (ts : List Lexeme) → read_between (word v ∷ word joiner ∷ ts) ≡ joined_values v (same_text joiner (codes "and")) ts
between_joined v joiner (word w ∷ ts) = refl
between_joined v joiner _ = refl

joined_by_parts : (v : Text) (b : Bool) (ts : List Lexeme)
    → joined_values v b ts ≡ option_and_then op_then (option_map (λ (high : Text × List Lexeme). (between v high.0, high.1)) (option_and_then read_word (if b then Some ts else None)))
joined_by_parts v true (word w ∷ ts) = refl
joined_by_parts v true _ = refl
joined_by_parts v false (word w ∷ ts) = refl
joined_by_parts v false _ = refl

between_by_parts : (ts : List Lexeme) → read_between ts ≡ option_and_then op_then (read_ends ts)
between_by_parts (word v ∷ word joiner ∷ ts) = between_joined v joiner ts ∙ joined_by_parts v (same_text joiner (codes "and")) ts
between_by_parts _ = refl

in_by_parts : (ts : List Lexeme) → read_set among ts ≡ option_and_then op_then (read_brace (among []) ts)
in_by_parts (open_brace ∷ ts) = refl
in_by_parts _ = refl

not_in_by_parts : (ts : List Lexeme) → read_set not_among ts ≡ option_and_then op_then (read_brace (not_among []) ts)
not_in_by_parts (open_brace ∷ ts) = refl
not_in_by_parts _ = refl

not_by_word : (b : Bool) (ts : List Lexeme)
    → (if b then read_set not_among ts else None) ≡ option_and_then op_then (option_and_then (read_brace (not_among [])) (if b then Some ts else None))
not_by_word true ts = not_in_by_parts ts
not_by_word false ts = refl

not_by_parts : (ts : List Lexeme) → read_not ts ≡ option_and_then op_then (option_and_then (read_brace (not_among [])) (after_word (codes "in") ts))
not_by_parts (word w ∷ ts) = not_by_word (same_text w (codes "in")) ts
not_by_parts _ = refl

one_of_three : (a b c : Bool) (x y z x' y' z' : Read WrittenOp) → x ≡ option_and_then op_then x' → y ≡ option_and_then op_then y' → z ≡ option_and_then op_then z'
    → (if a then x else (if b then y else (if c then z else None))) ≡ option_and_then op_then (if a then x' else (if b then y' else (if c then z' else None)))
one_of_three true b c x y z x' y' z' p q r = p
one_of_three false true c x y z x' y' z' p q r = q
one_of_three false false true x y z x' y' z' p q r = r
one_of_three false false false x y z x' y' z' p q r = refl

op_by_parts : (ts : List Lexeme) → read_op ts ≡ option_and_then op_then (read_opening ts)
op_by_parts (word w ∷ ts) =
    one_of_three (same_text w (codes "between")) (same_text w (codes "in")) (same_text w (codes "not")) _ _ _ _ _ _ (between_by_parts ts) (in_by_parts ts) (not_by_parts ts)
op_by_parts (less ∷ word v ∷ ts) = refl
op_by_parts (less_or_equal ∷ word v ∷ ts) = refl
op_by_parts (equal ∷ word v ∷ ts) = refl
op_by_parts (not_equal ∷ word v ∷ ts) = refl
op_by_parts (greater_or_equal ∷ word v ∷ ts) = refl
op_by_parts (greater ∷ word v ∷ ts) = refl
op_by_parts (open_brace ∷ word v ∷ ts) = refl
op_by_parts (close_brace ∷ word v ∷ ts) = refl
op_by_parts (comma ∷ word v ∷ ts) = refl
op_by_parts (blank ∷ word v ∷ ts) = refl
op_by_parts (stray b ∷ word v ∷ ts) = refl
op_by_parts _ = refl

-- a predicate by its head, with the values that are left
abbrev pred_then : WrittenPred × List Lexeme → Read WrittenPred
pred_then r = option_map (with_pred_attr r.0.attr) (with_values r.0.op (Some r.1))

attr_kept : (a : Text) (o : Read WrittenOp) → option_map (with_pred_attr a) (option_and_then op_then o) ≡ option_and_then pred_then (option_map (with_pred_attr a) o)
attr_kept a None = refl
attr_kept a (Some r) = refl

pred_by_attr : (a : Text) (b : Bool) (ts : List Lexeme)
    → (if b then option_map (with_pred_attr a) (read_op ts) else None) ≡ option_and_then pred_then (option_and_then attr_then_op (if b then Some (a, ts) else None))
pred_by_attr a true ts = ap (option_map (with_pred_attr a)) (op_by_parts ts) ∙ attr_kept a (read_opening ts)
pred_by_attr a false ts = refl

pred_by_parts : (ts : List Lexeme) → read_pred ts ≡ option_and_then pred_then (read_head ts)
pred_by_parts (word a ∷ ts) = pred_by_attr a (is_attr a) ts
pred_by_parts _ = refl

pred_by_head : (o : Option (List Lexeme)) → option_and_then read_pred o ≡ option_and_then pred_then (option_and_then read_head o)
pred_by_head None = refl
pred_by_head (Some ts) = pred_by_parts ts

nothing_left : (op : WrittenOp) → with_values op None ≡ None
nothing_left (compared operator v) = refl
nothing_left (between v w) = refl
nothing_left (among vs) = refl
nothing_left (not_among vs) = refl

values_left : (head : WrittenPred) (left : Option (List Lexeme))
    → option_and_then pred_then (option_map (λ ts. (head, ts)) left) ≡ option_map (with_pred_attr head.attr) (with_values head.op left)
values_left head None = ap (option_map (with_pred_attr head.attr)) (sym (nothing_left head.op))
values_left head (Some ts) = refl

-- a predicate with this head
pub pred_first : (head : WrittenPred) (o left : Option (List Lexeme)) → option_map (λ ts. (head, ts)) left ≡ option_and_then read_head o
    → option_and_then read_pred o ≡ option_map (with_pred_attr head.attr) (with_values head.op left)
pred_first head o left h = pred_by_head o ∙ ap (option_and_then pred_then) (sym h) ∙ values_left head left

pub no_pred_first : (o : Option (List Lexeme)) → None ≡ option_and_then read_head o → option_and_then read_pred o ≡ None
no_pred_first o h = pred_by_head o ∙ ap (option_and_then pred_then) (sym h)
