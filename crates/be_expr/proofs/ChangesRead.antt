-- The texts of changes are read back.
use Rattle.std.proofs.Common.{◌≡◌, ℕ, ◌<◌, ◌^◌, List, [], ◌∷◌, ◌++◌, Option, Some, None, Ok, codes, append_assoc, refl, sym, ap, ◌∙◌, arith}
use Rattle.std.specs.Prelude.{decimal}
use Rattle.be_base.specs.Text.{Text, IsName, IsWord, is_word_byte}
use Rattle.be_base.specs.Numbers.{count_of}
use Rattle.be_base.specs.Tokens.{Lexeme, word, tokens, put_token}
use Rattle.be_base.proofs.Joined.{IsWord-from_name, tokens_word_then, word_alone}
use Rattle.be_base.proofs.Lexing.{tokens_blank}
use Rattle.be_base.proofs.Decimals.{count_of-decimal, IsWord-decimal}
use Rattle.be_base.proofs.NameForms.{name_of-Ok}
use Rattle.be_model.specs.declared.changes.Row.{Row}
use Rattle.be_model.specs.Entries.{subscribed, unsubscribed, left}
use Rattle.be_model.specs.Schemas.{Attributes}
use Rattle.be_expr.specs.Expressions.{condition, expression}
use Rattle.be_expr.specs.Named.{naming}
use Rattle.be_expr.specs.Writing.{expr_text}
use Rattle.be_expr.specs.Changes.{head_text, change_text, change_by, change_of, change, subscribing, unsubscribing, IsReadBack, ChangesAreRead}
use Rattle.be_expr.proofs.CanonicalMeaning.{texts_are_read}

-- a word, a space and other tokens
word_before : (w rest : Text) → IsWord w → tokens (w ++ 32 ∷ rest) ≡ put_token (word w) (tokens rest)
unfolding is_word_byte
word_before w rest h = tokens_word_then w (32 ∷ rest) h refl ∙ ap (put_token (word w)) (tokens_blank 32 rest refl)

-- the words of a change's head
abbrev with_head : Text → ℕ → ℕ → Option (List Lexeme) → Option (List Lexeme)
with_head kind k n rest = put_token (word kind) (put_token (word (decimal k)) (put_token (word (decimal n)) rest))

head_joined : (kind : Text) (k n : ℕ) (rest : Text) → (head_text kind k n ++ codes " ") ++ rest ≡ kind ++ 32 ∷ (decimal k ++ 32 ∷ (decimal n ++ 32 ∷ rest))
head_joined kind k n rest =
    append_assoc (head_text kind k n) (codes " ") rest
    ∙ append_assoc (((kind ++ codes " ") ++ decimal k) ++ codes " ") (decimal n) (32 ∷ rest)
    ∙ append_assoc ((kind ++ codes " ") ++ decimal k) (codes " ") (decimal n ++ 32 ∷ rest)
    ∙ append_assoc (kind ++ codes " ") (decimal k) (32 ∷ (decimal n ++ 32 ∷ rest))
    ∙ append_assoc kind (codes " ") (decimal k ++ 32 ∷ (decimal n ++ 32 ∷ rest))

head_lexed : (kind : Text) (k n : ℕ) (rest : Text) → IsWord kind → k < 2 ^ 63 → n < 2 ^ 63
    → tokens ((head_text kind k n ++ codes " ") ++ rest) ≡ with_head kind k n (tokens rest)
head_lexed kind k n rest w hk hn =
    ap tokens (head_joined kind k n rest)
    ∙ word_before kind (decimal k ++ 32 ∷ (decimal n ++ 32 ∷ rest)) w
    ∙ ap (put_token (word kind)) (word_before (decimal k) (decimal n ++ 32 ∷ rest) (IsWord-decimal k (omega arith))
    ∙ ap (put_token (word (decimal k))) (word_before (decimal n) rest (IsWord-decimal n (omega arith))))

bare_head_lexed : (kind : Text) (k n : ℕ) → IsWord kind → k < 2 ^ 63 → n < 2 ^ 63
    → tokens (head_text kind k n) ≡ with_head kind k n (Some [])
bare_head_lexed kind k n w hk hn =
    ap tokens (append_assoc ((kind ++ codes " ") ++ decimal k) (codes " ") (decimal n)
    ∙ append_assoc (kind ++ codes " ") (decimal k) (32 ∷ decimal n)
    ∙ append_assoc kind (codes " ") (decimal k ++ 32 ∷ decimal n))
    ∙ word_before kind (decimal k ++ 32 ∷ decimal n) w
    ∙ ap (put_token (word kind)) (word_before (decimal k) (decimal n) (IsWord-decimal k (omega arith))
    ∙ ap (put_token (word (decimal k))) (word_alone (decimal n) (IsWord-decimal n (omega arith))))

counts_read : (s : Attributes) (id : ℕ) (kind : Text) (k n : ℕ) (ts : List Lexeme) → k < 2 ^ 63 → n < 2 ^ 63
    → change_by s id kind (count_of (decimal k)) (count_of (decimal n)) ts ≡ change_by s id kind (Some k) (Some n) ts
counts_read s id kind k n ts hk hn =
    ap (λ o. change_by s id kind o (count_of (decimal n)) ts) (count_of-decimal k hk)
    ∙ ap (λ o. change_by s id kind (Some k) o ts) (count_of-decimal n hn)

IsWord-sub : IsWord (codes "SUB")
unfolding is_word_byte
IsWord-sub = record { some = omega arith; bytes = refl }

IsWord-unsub : IsWord (codes "UNSUB")
unfolding is_word_byte
IsWord-unsub = record { some = omega arith; bytes = refl }

IsWord-bye : IsWord (codes "BYE")
unfolding is_word_byte
IsWord-bye = record { some = omega arith; bytes = refl }

pub bye_is_read : (s : Attributes) (k n : ℕ) → IsReadBack s (change_text s (left k n)) (left k n)
bye_is_read s k n id h =
    ap (change_of s id) (bare_head_lexed (codes "BYE") k n IsWord-bye h.0 h.1) ∙ counts_read s id (codes "BYE") k n [] h.0 h.1

pub unsub_is_read : (s : Attributes) (k n : ℕ) (name : Text) → IsName name → IsReadBack s (change_text s (unsubscribed k n name)) (unsubscribed k n name)
unsub_is_read s k n name named id h =
    ap (change_of s id) (head_lexed (codes "UNSUB") k n name IsWord-unsub h.0 h.1
    ∙ ap (with_head (codes "UNSUB") k n) (word_alone name (IsWord-from_name name named)))
    ∙ counts_read s id (codes "UNSUB") k n (word name ∷ []) h.0 h.1
    ∙ ap (unsubscribing k n) (name_of-Ok name named)

-- the tokens of what is read as a condition, and the row that they make
sub_by_tokens : (s : Attributes) (k n : ℕ) (row : Row) (o : Option (List Lexeme)) → IsName row.name → condition s o ≡ Ok row.conj
    → k < 2 ^ 63 → n < 2 ^ 63 → row.session.0 ≡ k
    → change_of s row.id.0 (with_head (codes "SUB") k n (put_token (word row.name) o)) ≡ Ok (subscribed k n row)
sub_by_tokens s k n row None named e hk hn own = absurd (cc)
sub_by_tokens s k n row (Some ts) named e hk hn own =
    counts_read s row.id.0 (codes "SUB") k n (word row.name ∷ ts) hk hn
    ∙ ap (λ r. subscribing row.id.0 k n (naming r (condition s (Some ts)))) (name_of-Ok row.name named)
    ∙ ap (λ r. subscribing row.id.0 k n (naming (Ok row.name) r)) e
    ∙ ap (λ session. Ok (subscribed k n (record { id = row.id; session = record { 0 = session }; name = row.name; conj = row.conj }))) (sym own)

sub_joined : (s : Attributes) (k n : ℕ) (row : Row) → change_text s (subscribed k n row) ≡ (head_text (codes "SUB") k n ++ codes " ") ++ (row.name ++ 32 ∷ expr_text s row.conj)
sub_joined s k n row =
    let front = head_text (codes "SUB") k n ++ codes " " in
    append_assoc (front ++ row.name) (codes " ") (expr_text s row.conj) ∙ append_assoc front row.name (32 ∷ expr_text s row.conj)

pub sub_is_read : (s : Attributes) (k n : ℕ) (row : Row) → IsName row.name → expression s (expr_text s row.conj) ≡ Ok row.conj
    → IsReadBack s (change_text s (subscribed k n row)) (subscribed k n row)
sub_is_read s k n row named e id h =
    let text = expr_text s row.conj in
    ap (change s id) (sub_joined s k n row)
    ∙ ap (change_of s id) (head_lexed (codes "SUB") k n (row.name ++ 32 ∷ text) IsWord-sub h.0 h.1
    ∙ ap (with_head (codes "SUB") k n) (word_before row.name text (IsWord-from_name row.name named)))
    ∙ ap (λ i. change_of s i (with_head (codes "SUB") k n (put_token (word row.name) (tokens text)))) (sym h.2)
    ∙ sub_by_tokens s k n row (tokens text) named e h.0 h.1 h.3

pub changes_are_read : ChangesAreRead
changes_are_read s (subscribed k n row) f names form lies = sub_is_read s k n row form.0 (texts_are_read s row.conj f names form.1 lies)
changes_are_read s (unsubscribed k n name) f names form lies = unsub_is_read s k n name form
changes_are_read s (left k n) f names form lies = bye_is_read s k n
