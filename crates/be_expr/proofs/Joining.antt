-- The predicates of a text, one after the other.
use Rattle.std.proofs.Common.{◌≡◌, ℕ, zero, suc, ◌+◌, ◌-◌, ◌≤◌, ◌<◌, ◌&&◌, Bool, true, false, List, [], ◌∷◌, length, length-append, Option, Some, None, IfSome, Bor, option_map, option_and_then, codes, refl, sym, ◌∙◌, ap, subst, arith, if◌then◌else◌}
use Rattle.std.specs.Option.{option_map_or, option_or}
use Rattle.std.proofs.lemmas.Bool.{and_parts, false≢true}
use Rattle.be_base.specs.Text.{Text, same_text}
use Rattle.be_base.specs.Tokens.{Lexeme, word, tokens}
use Rattle.be_base.specs.Readers.{Read}
use Rattle.be_expr.specs.Grammar.{WrittenPred, is_attr, pred_tokens}
use Rattle.be_expr.specs.Readings.{with_pred_attr, read_pred, read_joined, read_preds, written}
use Rattle.be_expr.specs.Parts.{is_all, read_end, end_of}
use Rattle.be_expr.specs.Faults.{preds_in}
use Rattle.be_expr.proofs.Grammar.{PredRead, pred_is_written}

shorter_behind : (ts : List Lexeme) (r : WrittenPred × List Lexeme) → PredRead ts (Some r) → length r.1 < length ts
shorter_behind ts r h =
    subst (λ (whole : List Lexeme). length r.1 < length whole) h.1 (omega (arith, length-append (pred_tokens r.0) r.1))

-- a predicate takes a token at least
pred_shortens : (ts : List Lexeme) (o : Read WrittenPred) (r : WrittenPred × List Lexeme) → read_pred ts ≡ o → o ≡ Some r → length r.1 < length ts
pred_shortens ts o r e h = shorter_behind ts r (subst (PredRead ts) (e ∙ h) (pred_is_written ts))

joined_alike : (f g : List Lexeme → Option (List WrittenPred)) (p : WrittenPred) (rest : List Lexeme) (n : ℕ)
    → ((ts : List Lexeme) → length ts ≤ n → f ts ≡ g ts) → length rest ≤ n + 1 → read_joined f p rest ≡ read_joined g p rest
joined_alike f g p [] n each few = refl
joined_alike f g p (word w ∷ ts) n each few =
    ap (λ (o : Option (List WrittenPred)). if same_text w (codes "and") then option_map (λ ps. p ∷ ps) o else None) (each ts (omega (arith, few)))
joined_alike f g p _ n each few = refl

first_alike : (f g : List Lexeme → Option (List WrittenPred)) (o : Read WrittenPred) (n : ℕ) → ((ts : List Lexeme) → length ts ≤ n → f ts ≡ g ts)
    → ((r : WrittenPred × List Lexeme) → o ≡ Some r → length r.1 ≤ n + 1)
    → option_and_then (λ (r : WrittenPred × List Lexeme). read_joined f r.0 r.1) o ≡ option_and_then (λ (r : WrittenPred × List Lexeme). read_joined g r.0 r.1) o
first_alike f g None n each few = refl
first_alike f g (Some r) n each few = joined_alike f g r.0 r.1 n each (few r refl)

-- more fuel than tokens changes nothing
fuel_is_enough : (fuel more : ℕ) (ts : List Lexeme) → length ts ≤ fuel → length ts ≤ more → read_preds fuel ts ≡ read_preds more ts
fuel_is_enough zero zero ts p q = refl
fuel_is_enough zero (suc more) [] p q = refl
fuel_is_enough zero (suc more) (t ∷ ts) p q = absurd (omega arith)
fuel_is_enough (suc fuel) zero [] p q = refl
fuel_is_enough (suc fuel) zero (t ∷ ts) p q = absurd (omega arith)
fuel_is_enough (suc fuel) (suc more) ts p q =
    first_alike (read_preds fuel) (read_preds more) (read_pred ts) (length ts - 1)
    (λ after few. fuel_is_enough fuel more after (omega (arith, few)) (omega (arith, few)))
    (λ r e. let less_left : length r.1 < length ts = pred_shortens ts (read_pred ts) r refl e in omega arith)

pred_is_some : (ts : List Lexeme) (n : ℕ) → length ts ≡ n → read_preds n ts ≡ option_and_then (λ (r : WrittenPred × List Lexeme). read_joined preds_in r.0 r.1) (read_pred ts)
pred_is_some [] zero e = refl
pred_is_some (t ∷ ts) zero e = absurd (omega arith)
pred_is_some ts (suc n) e =
    first_alike (read_preds n) preds_in (read_pred ts) n
    (λ after few. fuel_is_enough n (length after) after few (omega arith))
    (λ r h. let less_left : length r.1 < length ts = pred_shortens ts (read_pred ts) r refl h in omega arith)

-- the first predicate, and those behind it
first_pred : (ts : List Lexeme) → preds_in ts ≡ option_and_then (λ (r : WrittenPred × List Lexeme). read_joined preds_in r.0 r.1) (read_pred ts)
first_pred ts = pred_is_some ts (length ts) refl

-- the predicates behind another one
abbrev pub preds_behind : Option (List Lexeme) → Option (List WrittenPred)
preds_behind None = Some []
preds_behind (Some ts) = preds_in ts

joined_if : (p : WrittenPred) (b : Bool) (ts : List Lexeme)
    → (if b then option_map (λ ps. p ∷ ps) (preds_in ts) else None) ≡ option_map (λ ps. p ∷ ps) (option_and_then preds_behind (if b then Some (Some ts) else None))
joined_if p true ts = refl
joined_if p false ts = refl

joined_by_end : (p : WrittenPred) (ts : List Lexeme) → read_joined preds_in p ts ≡ option_map (λ ps. p ∷ ps) (option_and_then preds_behind (read_end ts))
joined_by_end p [] = refl
joined_by_end p (word w ∷ ts) = joined_if p (same_text w (codes "and")) ts
joined_by_end p _ = refl

abbrev pub preds_then : WrittenPred × List Lexeme → Option (List WrittenPred)
preds_then r = option_map (λ ps. r.0 ∷ ps) (option_and_then preds_behind (read_end r.1))

then_alike : (o : Read WrittenPred) → option_and_then (λ (r : WrittenPred × List Lexeme). read_joined preds_in r.0 r.1) o ≡ option_and_then preds_then o
then_alike None = refl
then_alike (Some r) = joined_by_end r.0 r.1

pub preds_by_first : (o : Option (List Lexeme)) → option_and_then preds_in o ≡ option_and_then preds_then (option_and_then read_pred o)
preds_by_first None = refl
preds_by_first (Some ts) = first_pred ts ∙ then_alike (read_pred ts)

abbrev pub before : {X : Type 0} → X → List Lexeme → X × List Lexeme
before x ts = (x, ts)

abbrev pub first_as : {X : Type 0} → (WrittenPred → X) → WrittenPred × List Lexeme → X × List Lexeme
first_as f r = (f r.0, r.1)

mapped_behind : {X Y : Type 0} (f : WrittenPred → X) (h : List WrittenPred → Y) (k : X → Y → Y) (p : WrittenPred) (o : Option (List WrittenPred))
    → ((ps : List WrittenPred) → h (p ∷ ps) ≡ k (f p) (h ps)) → option_map h (option_map (λ ps. p ∷ ps) o) ≡ option_map (k (f p)) (option_map h o)
mapped_behind f h k p None each = refl
mapped_behind f h k p (Some ps) each = ap (λ y. Some y) (each ps)

mapped_then : {X Y : Type 0} (f : WrittenPred → X) (h : List WrittenPred → Y) (k : X → Y → Y) (o : Read WrittenPred) (x : X) (left : Option (List Lexeme)) (end : Option (Option (List Lexeme)))
    → ((p : WrittenPred) (ps : List WrittenPred) → h (p ∷ ps) ≡ k (f p) (h ps))
    → option_map (before x) left ≡ option_map (first_as f) o → end ≡ option_and_then read_end left
    → option_map h (option_and_then preds_then o) ≡ option_map (k x) (option_map h (option_and_then preds_behind end))
mapped_then f h k None x None end each p q = ap (λ e. option_map (k x) (option_map h (option_and_then preds_behind e))) (sym q)
mapped_then f h k (Some r) x None end each p q = absurd (cc)
mapped_then f h k None x (Some ts) end each p q = absurd (cc)
mapped_then f h k (Some r) x (Some ts) end each p q =
    let first : x ≡ f r.0 = ap (λ o. option_map_or (λ y. y.0) o x) p in
    let rest : ts ≡ r.1 = ap (λ o. option_map_or (λ y. y.1) o ts) p in
    let ends : read_end r.1 ≡ end = ap read_end (sym rest) ∙ sym q in
    mapped_behind f h k r.0 (option_and_then preds_behind (read_end r.1)) (each r.0)
    ∙ ap (λ e. option_map (k (f r.0)) (option_map h (option_and_then preds_behind e))) ends
    ∙ ap (λ y. option_map (k y) (option_map h (option_and_then preds_behind end))) (sym first)

-- one predicate more, where a function of the predicates goes by the first one
pub preds_step : {X Y : Type 0} (f : WrittenPred → X) (h : List WrittenPred → Y) (k : X → Y → Y) (o : Option (List Lexeme)) (x : X) (left : Option (List Lexeme)) (end : Option (Option (List Lexeme)))
    → ((p : WrittenPred) (ps : List WrittenPred) → h (p ∷ ps) ≡ k (f p) (h ps))
    → option_map (before x) left ≡ option_map (first_as f) (option_and_then read_pred o) → end ≡ option_and_then read_end left
    → option_map h (option_and_then preds_in o) ≡ option_map (k x) (option_map h (option_and_then preds_behind end))
preds_step f h k o x left end each p q =
    ap (option_map h) (preds_by_first o) ∙ mapped_then f h k (option_and_then read_pred o) x left end each p q

-- the predicates that are left
abbrev pub preds_left : Option (Bor Text) → Option (List WrittenPred)
preds_left None = Some []
preds_left (Some text) = option_and_then preds_in (tokens text.now)

abbrev pub left_size : Option (Bor Text) → ℕ
left_size None = 0
left_size (Some text) = length text.now + 1

pub left_size_within : (left : Option (Bor Text)) (n : ℕ) → IfSome left (λ (rest : Bor Text). length rest.now < n) → left_size left ≤ n
left_size_within None n h = omega arith
left_size_within (Some text) n h = omega (arith, h)

left_behind : (o : Option (List Lexeme)) → option_and_then preds_behind (option_map (λ ts. Some ts) o) ≡ option_and_then preds_in o
left_behind None = refl
left_behind (Some ts) = refl

pub left_by_end : (left : Option (Bor Text)) → option_and_then preds_behind (end_of (Some left)) ≡ preds_left left
left_by_end None = refl
left_by_end (Some text) = left_behind (tokens text.now)

no_op_alone : (a : Text) (b : Bool) → (if b then option_map (with_pred_attr a) None else None) ≡ None
no_op_alone a true = refl
no_op_alone a false = refl

one_word : (w : Text) → preds_in (word w ∷ []) ≡ None
one_word w = ap (option_and_then (λ (r : WrittenPred × List Lexeme). read_joined (read_preds 0) r.0 r.1)) (no_op_alone w (is_attr w))

one_if : (w : Text) (b : Bool) → same_text w (codes "all") ≡ b → (if b then Some [] else None) ≡ option_or (preds_in (word w ∷ [])) (if b && true then Some [] else None)
one_if w true e = ap (λ o. option_or o (Some [])) (sym (one_word w))
one_if w false e = ap (λ o. option_or o None) (sym (one_word w))

never : (b : Bool) (o : Option (List WrittenPred)) → o ≡ option_or o (if b && false then Some [] else None)
never true None = refl
never false None = refl
never b (Some ps) = refl

written_by_preds : (ts : List Lexeme) → written ts ≡ option_or (preds_in ts) (if is_all ts then Some [] else None)
written_by_preds [] = refl
written_by_preds (word w ∷ []) = one_if w (same_text w (codes "all")) refl
written_by_preds (t ∷ []) = refl
written_by_preds (word w ∷ u ∷ ts) = never (same_text w (codes "all")) (preds_in (word w ∷ u ∷ ts))
written_by_preds (t ∷ u ∷ ts) = never false (preds_in (t ∷ u ∷ ts))

-- predicates, or else `all` alone
written_if : (o : Option (List Lexeme)) → option_and_then written o ≡ option_or (option_and_then preds_in o) (if option_map_or is_all o false then Some [] else None)
written_if None = refl
written_if (Some ts) = written_by_preds ts

pub preds_are_written : (o : Option (List Lexeme)) (ps : List WrittenPred) → option_and_then preds_in o ≡ Some ps → option_and_then written o ≡ Some ps
preds_are_written o ps h = written_if o ∙ ap (λ q. option_or q (if option_map_or is_all o false then Some [] else None)) h

-- nothing else is read
either : (o : Option (List WrittenPred)) → option_or o None ≡ o
either None = refl
either (Some ps) = refl

-- a text other than `all`
pub written_if_preds : (o : Option (List Lexeme)) → option_map_or is_all o false ≡ false → option_and_then written o ≡ option_and_then preds_in o
written_if_preds o all =
    written_if o ∙ ap (λ (b : Bool). option_or (option_and_then preds_in o) (if b then Some [] else None)) all ∙ either (option_and_then preds_in o)

all_alone : (ts : List Lexeme) → is_all ts ≡ true → written ts ≡ Some []
all_alone (word w ∷ []) h = ap (λ (b : Bool). if b then Some [] else None) (and_parts (same_text w (codes "all")) true h).0
all_alone (word w ∷ t ∷ ts) h = absurd (false≢true (and_parts (same_text w (codes "all")) false h).1)
all_alone _ h = absurd (false≢true h)

pub all_is_written : (o : Option (List Lexeme)) → option_map_or is_all o false ≡ true → option_and_then written o ≡ Some []
all_is_written None h = absurd (false≢true h)
all_is_written (Some ts) h = all_alone ts h
