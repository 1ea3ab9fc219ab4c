-- Reading a set is the grammar's, and goes value by value.
use Rattle.std.proofs.Common.{◌≡◌, Bool, true, false, List, [], ◌∷◌, ◌++◌, Option, Some, None, option_map, option_and_then, refl, sym, ◌∙◌, ap}
use Rattle.be_base.specs.Text.{Text}
use Rattle.be_base.specs.Tokens.{Lexeme, word, close_brace, comma}
use Rattle.be_base.specs.Readers.{Read}
use Rattle.be_base.specs.Sets.{value_tokens, is_filled, with_value, read_values, read_value}

-- written values are read
pub read_values-value_tokens : (v : Text) (vs : List Text) (ts : List Lexeme) → read_values (value_tokens (v ∷ vs) ++ close_brace ∷ ts) ≡ Some (v ∷ vs, ts)
read_values-value_tokens v [] ts = refl
read_values-value_tokens v (w ∷ vs) ts = ap (option_map (with_value v)) (read_values-value_tokens w vs ts)

-- values that were read are written so
abbrev pub ValuesRead : List Lexeme → Read (List Text) → Type 0
ValuesRead ts None = Unit
ValuesRead ts (Some r) = (is_filled r.0 ≡ true) × (value_tokens r.0 ++ close_brace ∷ r.1 ≡ ts)

one_more_value : (v : Text) (ts : List Lexeme) (o : Read (List Text)) → ValuesRead ts o → ValuesRead (word v ∷ comma ∷ ts) (option_map (with_value v) o)
one_more_value v ts None h = tt
one_more_value v ts (Some ([], rest)) h = absurd (cc (h.0))
one_more_value v ts (Some (w ∷ ws, rest)) h = (refl, ap (λ (after : List Lexeme). word v ∷ comma ∷ after) h.1)

pub values_are_written : (ts : List Lexeme) → ValuesRead ts (read_values ts)
values_are_written (word v ∷ comma ∷ ts) = one_more_value v ts (read_values ts) (values_are_written ts)
values_are_written (word v ∷ close_brace ∷ ts) = (refl, refl)
values_are_written _ = tt

-- the values that are left: none behind the last one
abbrev pub values_after : Bool → Option (List Lexeme) → Read (List Text)
values_after true o = option_map (λ ts. ([], ts)) o
values_after false o = option_and_then read_values o

abbrev one_then : (Text × Bool) × List Lexeme → Read (List Text)
one_then r = option_map (with_value r.0.0) (values_after r.0.1 (Some r.1))

values_by_one : (ts : List Lexeme) → read_values ts ≡ option_and_then one_then (read_value ts)
values_by_one (word v ∷ comma ∷ ts) = refl
values_by_one (word v ∷ close_brace ∷ ts) = refl
values_by_one _ = refl

values_are_by_one : (o : Option (List Lexeme)) → option_and_then read_values o ≡ option_and_then one_then (option_and_then read_value o)
values_are_by_one None = refl
values_are_by_one (Some ts) = values_by_one ts

one_met : (v : Text) (is_last : Bool) (rest : Option (List Lexeme))
    → option_and_then one_then (option_map (λ ts. ((v, is_last), ts)) rest) ≡ option_map (with_value v) (values_after is_last rest)
one_met v true None = refl
one_met v false None = refl
one_met v true (Some ts) = refl
one_met v false (Some ts) = refl

-- a value, and those behind it
pub value_first : (v : Text) (is_last : Bool) (o rest : Option (List Lexeme)) → option_map (λ ts. ((v, is_last), ts)) rest ≡ option_and_then read_value o
    → option_and_then read_values o ≡ option_map (with_value v) (values_after is_last rest)
value_first v is_last o rest h = values_are_by_one o ∙ ap (option_and_then one_then) (sym h) ∙ one_met v is_last rest

pub no_value_first : (o : Option (List Lexeme)) → None ≡ option_and_then read_value o → option_and_then read_values o ≡ None
no_value_first o h = values_are_by_one o ∙ ap (option_and_then one_then) (sym h)
