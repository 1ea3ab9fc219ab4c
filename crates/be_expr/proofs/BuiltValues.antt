-- The values of a set, and a predicate's operator, as they are built.
use Rattle.std.proofs.Common.{◌≡◌, ℕ, ℤ, ◌+◌, ◌≤◌, ◌<◌, ◌&&◌, ◌||◌, not, Bool, true, false, List, [], ◌∷◌, length, nat_lt, Option, Some, None, option_map, option_and_then, refl, sym, ◌∙◌, ap, arith, if◌then◌else◌}
use Rattle.std.specs.Option.{is_none}
use Rattle.std.proofs.lemmas.Bool.{and_right, not_from_true, lt-ltb}
use Rattle.be_base.specs.Text.{Text}
use Rattle.be_base.specs.Tokens.{Lexeme}
use Rattle.be_base.specs.Readers.{Read}
use Rattle.be_base.specs.Sets.{with_value, read_values, read_value}
use Rattle.be_base.specs.declared.names.AttrNo.{AttrNo}
use Rattle.be_base.proofs.SetReadings.{ValuesRead, values_are_written, values_after, value_first, no_value_first}
use Rattle.be_model.specs.Schemas.{Attributes, value_at}
use Rattle.be_model.specs.declared.ops.Op.{Op}
use Rattle.be_model.specs.SetTexts.{has_outside, meant_values, values_with}
use Rattle.be_expr.specs.Grammar.{WrittenOp}
use Rattle.be_expr.specs.Build.{are_fine_words, built_values, built_op}

-- words were read that each have a value, with n more at most 64
abbrev pub are_fine_behind : Attributes → AttrNo → ℕ → Read (List Text) → Bool
are_fine_behind s a n None = false
are_fine_behind s a n (Some r) = not (has_outside s a r.0) && not (nat_lt 64 (n + length r.0))

-- a word with a value counts as one of the 64
fine_by_one : (s : Attributes) (a : AttrNo) (n : ℕ) (w : Text) (v : ℤ) (o : Read (List Text)) → value_at s a w ≡ Some v
    → are_fine_behind s a n (option_map (with_value w) o) ≡ are_fine_behind s a (n + 1) o
fine_by_one s a n w v None e = refl
fine_by_one s a n w v (Some r) e =
    let more : n + length (w ∷ r.0) ≡ (n + 1) + length r.0 = omega arith in
    ap (λ (m : ℕ). not (has_outside s a (w ∷ r.0)) && not (nat_lt 64 m)) more
    ∙ ap (λ (x : Option ℤ). not (is_none x || has_outside s a r.0) && not (nat_lt 64 ((n + 1) + length r.0))) e

pub next_is_fine : (s : Attributes) (a : AttrNo) (n : ℕ) (w : Text) (v : ℤ) (is_last : Bool) (o rest : Option (List Lexeme)) → value_at s a w ≡ Some v
    → option_map (λ ts. ((w, is_last), ts)) rest ≡ option_and_then read_value o
    → are_fine_behind s a n (option_and_then read_values o) ≡ are_fine_behind s a (n + 1) (values_after is_last rest)
next_is_fine s a n w v is_last o rest e h =
    ap (are_fine_behind s a n) (value_first w is_last o rest h) ∙ fine_by_one s a n w v (values_after is_last rest) e

valueless : (s : Attributes) (a : AttrNo) (n : ℕ) (w : Text) (o : Read (List Text)) → value_at s a w ≡ None → are_fine_behind s a n (option_map (with_value w) o) ≡ false
valueless s a n w None e = refl
valueless s a n w (Some r) e = ap (λ (x : Option ℤ). not (is_none x || has_outside s a r.0) && not (nat_lt 64 (n + length (w ∷ r.0)))) e

-- the next word has no value
pub next_is_outside : (s : Attributes) (a : AttrNo) (n : ℕ) (w : Text) (is_last : Bool) (o rest : Option (List Lexeme)) → value_at s a w ≡ None
    → option_map (λ ts. ((w, is_last), ts)) rest ≡ option_and_then read_value o → are_fine_behind s a n (option_and_then read_values o) ≡ false
next_is_outside s a n w is_last o rest e h =
    ap (are_fine_behind s a n) (value_first w is_last o rest h) ∙ valueless s a n w (values_after is_last rest) e

pub none_is_next : (s : Attributes) (a : AttrNo) (n : ℕ) (o : Option (List Lexeme)) → None ≡ option_and_then read_value o → are_fine_behind s a n (option_and_then read_values o) ≡ false
none_is_next s a n o h = ap (are_fine_behind s a n) (no_value_first o h)

crowded : (s : Attributes) (a : AttrNo) (n : ℕ) (ts : List Lexeme) (o : Read (List Text)) → 64 ≤ n → ValuesRead ts o → are_fine_behind s a n o ≡ false
crowded s a n ts None full h = refl
crowded s a n ts (Some ([], rest)) full h = absurd (cc (h.0))
crowded s a n ts (Some (w ∷ ws, rest)) full h =
    let more : 64 < n + length (w ∷ ws) = omega (arith, full) in
    and_right (not (has_outside s a (w ∷ ws))) (not (nat_lt 64 (n + length (w ∷ ws)))) (not_from_true (nat_lt 64 (n + length (w ∷ ws))) (lt-ltb 64 (n + length (w ∷ ws)) more))

-- behind 64 words none more is fine
pub no_room : (s : Attributes) (a : AttrNo) (n : ℕ) (o : Option (List Lexeme)) → 64 ≤ n → are_fine_behind s a n (option_and_then read_values o) ≡ false
no_room s a n None full = refl
no_room s a n (Some ts) full = crowded s a n ts (read_values ts) full (values_are_written ts)

fine_alone : (s : Attributes) (a : AttrNo) (r : List Text × List Lexeme) → are_fine_behind s a 0 (Some r) ≡ are_fine_words s a r.0
fine_alone s a r = let none : 0 + length r.0 ≡ length r.0 = omega arith in ap (λ (n : ℕ). not (has_outside s a r.0) && not (nat_lt 64 n)) none

-- words that aren't fine are built into nothing
pub none_built : (s : Attributes) (a : AttrNo) (o : Read (List Text)) → are_fine_behind s a 0 o ≡ false → None ≡ option_and_then (built_values s a) o
none_built s a None h = refl
none_built s a (Some r) h = sym (ap (λ (b : Bool). if b then Some (values_with s a r) else None) (sym (fine_alone s a r) ∙ h))

pub value_met : {X Y : Type 0} (f : X → Option Y) (o : Option X) (y : Option Y) → option_map f o ≡ Some y → option_and_then f o ≡ y
value_met f None y h = absurd (cc)
value_met f (Some x) y h = cc

-- a set of either kind, by its values
abbrev with_op : (List ℤ → Op) → List ℤ × List Lexeme → Op × List Lexeme
with_op f r = (f r.0, r.1)

abbrev pub IsSet : Attributes → AttrNo → (List ℤ → Op) → (List Text → WrittenOp) → Type 0
IsSet s a f g = (r : List Text × List Lexeme) → built_op s a (g r.0, r.1) ≡ (if are_fine_words s a r.0 then Some (f (meant_values s a r.0), r.1) else None)

set_if : (s : Attributes) (a : AttrNo) (f : List ℤ → Op) (r : List Text × List Lexeme) (b : Bool)
    → option_map (with_op f) (if b then Some (values_with s a r) else None) ≡ (if b then Some (f (meant_values s a r.0), r.1) else None)
set_if s a f r true = refl
set_if s a f r false = refl

by_values : (s : Attributes) (a : AttrNo) (f : List ℤ → Op) (g : List Text → WrittenOp) (o : Read (List Text)) → IsSet s a f g
    → option_map (with_op f) (option_and_then (built_values s a) o) ≡ option_and_then (built_op s a) (option_map (λ r. (g r.0, r.1)) o)
by_values s a f g None each = refl
by_values s a f g (Some r) each = set_if s a f r (are_fine_words s a r.0) ∙ sym (each r)

set_wrapped : (f : List ℤ → Op) (vs : List ℤ) (left : Option (List Lexeme)) → option_map (λ ts. (f vs, ts)) left ≡ option_map (with_op f) (option_map (λ ts. (vs, ts)) left)
set_wrapped f vs None = refl
set_wrapped f vs (Some ts) = refl

pub set_is_built : (s : Attributes) (a : AttrNo) (f : List ℤ → Op) (g : List Text → WrittenOp) (vs : List ℤ) (o : Read (List Text)) (left : Option (List Lexeme)) → IsSet s a f g
    → option_map (λ ts. (vs, ts)) left ≡ option_and_then (built_values s a) o → option_map (λ ts. (f vs, ts)) left ≡ option_and_then (built_op s a) (option_map (λ r. (g r.0, r.1)) o)
set_is_built s a f g vs o left each h = set_wrapped f vs left ∙ ap (option_map (with_op f)) h ∙ by_values s a f g o each

pub no_set_built : (s : Attributes) (a : AttrNo) (f : List ℤ → Op) (g : List Text → WrittenOp) (o : Read (List Text)) → IsSet s a f g
    → None ≡ option_and_then (built_values s a) o → None ≡ option_and_then (built_op s a) (option_map (λ r. (g r.0, r.1)) o)
no_set_built s a f g o each h = ap (option_map (with_op f)) h ∙ by_values s a f g o each
