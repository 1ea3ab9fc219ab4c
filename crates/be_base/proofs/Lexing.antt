-- The tokens of a text, by what it begins with.
use Rattle.std.proofs.Common.{◌<◌, suc, zero, length, take, drop, length-drop, ◌≡◌, ℕ, ◌==◌, ◌||◌, Bool, true, false, cond, List, [], ◌∷◌, ◌++◌, None, inl, inr, ◌⊎◌, ap, ◌∙◌, arith, refl}
use Rattle.std.proofs.lemmas.Bool.{and_parts, cond_both}
use Rattle.std.proofs.lemmas.Bool.Decides.{nat_tests}
use Rattle.std.proofs.lemmas.List.{take-append-drop}
use Rattle.std.specs.List.{list_all}
use Rattle.be_base.specs.Text.{Text, is_word_byte}
use Rattle.be_base.specs.Fronts.{is_equal, starts_with}
use Rattle.be_base.specs.Tokens.{Lexeme, word, less, less_or_equal, equal, not_equal, greater_or_equal, greater, open_brace, close_brace, comma, blank, stray, is_blank, lexeme_of, put_before, lexemes, put_token, tokens_in, tokens}

-- a byte that joins a `=` behind it
abbrev pub is_paired : ℕ → Bool
is_paired b = b == 60 || (b == 62 || b == 33)

abbrev begins_word : List Lexeme → Bool
begins_word (word text ∷ rest) = true
begins_word rest = false

abbrev begins_equal : List Lexeme → Bool
begins_equal (equal ∷ rest) = true
begins_equal rest = false

pub list_all_head : (p : ℕ → Bool) (b : ℕ) (text : Text) → list_all p (b ∷ text) ≡ true → (p b ≡ true) × (list_all p text ≡ true)
list_all_head p b text h = and_parts (p b) (list_all p text) h

-- a byte alone, by what it is
lexeme_by : (P : Lexeme → Type 0) (b : ℕ) → (is_word_byte b ≡ true → P (word (b ∷ []))) → P less → (is_equal b ≡ true → P equal)
    → P greater → P open_brace → P close_brace → P comma → P blank → P (stray b) → P (lexeme_of b)
lexeme_by P b w l e g o c m n s =
    cond_both (is_word_byte b) _ _ P w (λ _. cond_both (b == 60) _ _ P (λ _. l) (λ _. cond_both (b == 61) _ _ P e (λ _.
    cond_both (b == 62) _ _ P (λ _. g) (λ _. cond_both (b == 123) _ _ P (λ _. o) (λ _. cond_both (b == 125) _ _ P (λ _. c) (λ _.
    cond_both (b == 44) _ _ P (λ _. m) (λ _. cond_both (is_blank b) _ _ P (λ _. n) (λ _. s))))))))

-- a byte before others, by what it joins
put_by : (P : List Lexeme → Type 0) (b : ℕ) (ls : List Lexeme) → ((text : Text) (rest : List Lexeme) → is_word_byte b ≡ true → P (word (b ∷ text) ∷ rest))
    → ((rest : List Lexeme) → P (less_or_equal ∷ rest)) → ((rest : List Lexeme) → P (greater_or_equal ∷ rest)) → ((rest : List Lexeme) → P (not_equal ∷ rest))
    → P (lexeme_of b ∷ ls) → P (put_before b ls)
put_by P b (word text ∷ rest) w l g n alone = cond_both (is_word_byte b) _ _ P (w text rest) (λ _. alone)
put_by P b (equal ∷ rest) w l g n alone =
    cond_both (b == 60) _ _ P (λ _. l rest) (λ _. cond_both (b == 62) _ _ P (λ _. g rest) (λ _. cond_both (b == 33) _ _ P (λ _. n rest) (λ _. alone)))
put_by P b ls w l g n alone = alone

lexemes_no_word : (text : Text) → starts_with is_word_byte text ≡ false → begins_word (lexemes text) ≡ false
lexemes_no_word [] h = refl
lexemes_no_word (b ∷ text) h =
    let P : List Lexeme → Type 0 = λ ls. begins_word ls ≡ false in
    put_by P b (lexemes text) (λ t rest is. absurd (cc)) (λ rest. refl) (λ rest. refl) (λ rest. refl)
    (lexeme_by (λ t. P (t ∷ lexemes text)) b (λ is. absurd (cc)) refl (λ is. refl) refl refl refl refl refl refl)

lexemes_no_equal : (text : Text) → starts_with is_equal text ≡ false → begins_equal (lexemes text) ≡ false
lexemes_no_equal [] h = refl
lexemes_no_equal (b ∷ text) h =
    let P : List Lexeme → Type 0 = λ ls. begins_equal ls ≡ false in
    put_by P b (lexemes text) (λ t rest is. refl) (λ rest. refl) (λ rest. refl) (λ rest. refl)
    (lexeme_by (λ t. P (t ∷ lexemes text)) b (λ is. refl) refl (λ is. absurd (cc)) refl refl refl refl refl refl)

unpaired : (b : ℕ) (x y z w : List Lexeme) → is_paired b ≡ false → cond (b == 60) x (cond (b == 62) y (cond (b == 33) z w)) ≡ w
unpaired b x y z w h = grind (arith, nat_tests)

-- a byte that joins nothing behind it stands alone
put_alone : (b : ℕ) (ls : List Lexeme) → (is_word_byte b ≡ false) ⊎ (begins_word ls ≡ false) → (is_paired b ≡ false) ⊎ (begins_equal ls ≡ false)
    → put_before b ls ≡ lexeme_of b ∷ ls
put_alone b (word text ∷ rest) (inl h) p = rw h refl
put_alone b (word text ∷ rest) (inr h) p = absurd (cc)
put_alone b (equal ∷ rest) h (inl p) = unpaired b _ _ _ _ p
put_alone b (equal ∷ rest) h (inr p) = absurd (cc)
put_alone b ls h p = refl

-- a byte that is of no word and joins no `=`
pub tokens_alone : (b : ℕ) (text : Text) → is_word_byte b ≡ false → (is_paired b ≡ false) ⊎ (starts_with is_equal text ≡ false)
    → tokens (b ∷ text) ≡ put_token (lexeme_of b) (tokens text)
tokens_alone b text h (inl p) = ap tokens_in (put_alone b (lexemes text) (inl h) (inl p))
tokens_alone b text h (inr p) = ap tokens_in (put_alone b (lexemes text) (inl h) (inr (lexemes_no_equal text p)))

-- `<=`, `>=` and `!=`
pub tokens_less_or_equal : (text : Text) → tokens (60 ∷ 61 ∷ text) ≡ put_token less_or_equal (tokens text)
unfolding is_word_byte
tokens_less_or_equal text = ap (λ (ls : List Lexeme). tokens_in (put_before 60 ls)) (put_alone 61 (lexemes text) (inl refl) (inl refl))

pub tokens_greater_or_equal : (text : Text) → tokens (62 ∷ 61 ∷ text) ≡ put_token greater_or_equal (tokens text)
unfolding is_word_byte
tokens_greater_or_equal text = ap (λ (ls : List Lexeme). tokens_in (put_before 62 ls)) (put_alone 61 (lexemes text) (inl refl) (inl refl))

pub tokens_not_equal : (text : Text) → tokens (33 ∷ 61 ∷ text) ≡ put_token not_equal (tokens text)
unfolding is_word_byte
tokens_not_equal text = ap (λ (ls : List Lexeme). tokens_in (put_before 33 ls)) (put_alone 61 (lexemes text) (inl refl) (inl refl))

word_unpaired : (b : ℕ) → is_word_byte b ≡ true → is_paired b ≡ false
unfolding is_word_byte
word_unpaired b h = grind (arith, nat_tests)

pub lexemes_word : (b : ℕ) (text rest : Text) → is_word_byte b ≡ true → list_all is_word_byte text ≡ true → starts_with is_word_byte rest ≡ false
    → lexemes (b ∷ (text ++ rest)) ≡ word (b ∷ text) ∷ lexemes rest
lexemes_word b [] rest h t r =
    put_alone b (lexemes rest) (inr (lexemes_no_word rest r)) (inl (word_unpaired b h)) ∙ rw h refl
lexemes_word b (c ∷ text) rest h t r =
    let k = list_all_head is_word_byte c text t in
    rw (lexemes_word c text rest k.0 k.1 r, h) refl

-- a word is as long as it can be
pub tokens_word : (n : ℕ) (text : Text) → starts_with is_word_byte text ≡ true → list_all is_word_byte (take n text) ≡ true
    → starts_with is_word_byte (drop n text) ≡ false → tokens text ≡ put_token (word (take n text)) (tokens (drop n text))
tokens_word zero text s t r = absurd (cc)
tokens_word (suc n) [] s t r = absurd (cc)
tokens_word (suc n) (b ∷ text) s t r =
    let k = list_all_head is_word_byte b (take n text) t in
    let e : lexemes (b ∷ (take n text ++ drop n text)) ≡ word (b ∷ take n text) ∷ lexemes (drop n text) = lexemes_word b (take n text) (drop n text) s k.1 r in
    ap tokens_in (rw (take-append-drop n text) at e)

pub word_shortens : (n : ℕ) (text : Text) → starts_with is_word_byte text ≡ true → starts_with is_word_byte (drop n text) ≡ false
    → length (drop n text) < length text
word_shortens zero text s r = absurd (cc)
word_shortens (suc n) [] s r = absurd (cc)
word_shortens (suc n) (b ∷ text) s r = omega (arith, length-drop n text)

blank_cases : (b : ℕ) → is_blank b ≡ true → (b ≡ 32) ⊎ (b ≡ 9)
blank_cases b h = grind (arith, nat_tests)

at_blank : (b : ℕ) → (b ≡ 32) ⊎ (b ≡ 9) → (is_word_byte b ≡ false) × (is_paired b ≡ false) × (lexeme_of b ≡ blank)
unfolding is_word_byte
at_blank b (inl e) = rw e (refl, refl, refl)
at_blank b (inr e) = rw e (refl, refl, refl)

blank_alone : (b : ℕ) → is_blank b ≡ true → (is_word_byte b ≡ false) × (is_paired b ≡ false) × (lexeme_of b ≡ blank)
blank_alone b h = at_blank b (blank_cases b h)

-- a blank in front changes nothing
pub tokens_blank : (b : ℕ) (text : Text) → is_blank b ≡ true → tokens (b ∷ text) ≡ tokens text
tokens_blank b text h =
    let k = blank_alone b h in
    tokens_alone b text k.0 (inl k.1) ∙ ap (λ (t : Lexeme). put_token t (tokens text)) k.2

-- nor do many
pub tokens_blanks : (blanks text : Text) → list_all is_blank blanks ≡ true → tokens (blanks ++ text) ≡ tokens text
tokens_blanks [] text h = refl
tokens_blanks (b ∷ blanks) text h =
    let k = list_all_head is_blank b blanks h in
    tokens_blank b (blanks ++ text) k.0 ∙ tokens_blanks blanks text k.1

-- a byte that no token has
pub tokens_stray : (b : ℕ) (text : Text) → lexeme_of b ≡ stray b → is_word_byte b ≡ false
    → (is_paired b ≡ false) ⊎ (starts_with is_equal text ≡ false) → tokens (b ∷ text) ≡ None
tokens_stray b text s h p = tokens_alone b text h p ∙ ap (λ (t : Lexeme). put_token t (tokens text)) s

-- what a scan answers at a word that w and r split off
pub word_scanned : (n : ℕ) (text w r : Text) → w ≡ take n text → r ≡ drop n text → starts_with is_word_byte text ≡ true
    → list_all is_word_byte (take n text) ≡ true → starts_with is_word_byte (drop n text) ≡ false
    → (tokens text ≡ put_token (word w) (tokens r)) × (length r < length text)
word_scanned n text w r we re s t e =
    rw (we, re) (tokens_word n text s t e, word_shortens n text s e)
