-- The form of names.
use Rattle.std.proofs.Common.{◌≡◌, ◌≢◌, ◌+◌, Option, ℕ, suc, get_or, cond, not, ltb, leb, false, ◌∙◌, ◌&&◌, sym, ◌-◌, ◌<◌, ◌≤◌, List, [], ◌∷◌, ◌++◌, length, take, drop, Bool, true, Some, None, Ok, arith, refl, length-append, length-drop}
use Rattle.std.proofs.Math.ListN.{replicate}
use Rattle.std.proofs.lemmas.List.{take_at, drop_at, drop-replicate, length-replicate}
use Rattle.std.proofs.lemmas.Str.{IsUtf8-from_ascii}
use Rattle.std.proofs.lemmas.Str.Ascii.{IsAscii-nil, IsAscii-cons}
use Rattle.be_base.proofs.Lexing.{list_all_head}
use Rattle.std.specs.Str.{IsAscii, IsUtf8}
use Rattle.std.specs.List.{list_all, position, position_or_len}
use Rattle.std.proofs.lemmas.List.Folds.{list_all_at}
use Rattle.std.proofs.lemmas.List.Quantifiers.{position-Some}
use Rattle.std.proofs.lemmas.Bool.{not-true, le-leb, leb-true}
use Rattle.std.proofs.lemmas.Bool.Decides.{nat_tests}
use Rattle.be_base.specs.declared.limits.TheConstants.{NAME_BYTES}
use Rattle.be_base.specs.Text.{Text, IsName, is_word_byte, is_stray, name_of}

pub word_byte_below : (b : ℕ) → is_word_byte b ≡ true → b < 128
unfolding is_word_byte
word_byte_below b h = grind (arith, nat_tests)

words_IsAscii : (text : Text) → list_all is_word_byte text ≡ true → IsAscii text
words_IsAscii [] h = IsAscii-nil
words_IsAscii (b ∷ text) h =
    let k = list_all_head is_word_byte b text h in
    IsAscii-cons b text (word_byte_below b k.0) (words_IsAscii text k.1)

-- a name's bytes are text
pub IsUtf8-from_words : (text : Text) → list_all is_word_byte text ≡ true → IsUtf8 text
IsUtf8-from_words text h = IsUtf8-from_ascii text (words_IsAscii text h)

one_more : (w rest : Bool) (n m : ℕ) → leb n m ≡ rest → leb (suc n) (cond (not (not w)) (1 + m) 0) ≡ (w && rest)
one_more true rest n m h = grind (arith, nat_tests)
one_more false rest n m h = grind (arith, nat_tests)

-- no stray byte stands anywhere exactly where all are bytes of words
stray_nowhere : (text : Text) → leb (length text) (position_or_len is_stray text) ≡ list_all is_word_byte text
stray_nowhere [] = refl
stray_nowhere (b ∷ text) =
    one_more (is_word_byte b) (list_all is_word_byte text) (length text) (position_or_len is_stray text) (stray_nowhere text)

all_words : (text : Text) → length text ≤ position_or_len is_stray text → list_all is_word_byte text ≡ true
all_words text h = sym (stray_nowhere text) ∙ le-leb (length text) (position_or_len is_stray text) h

no_place : (r : Option ℕ) (n m : ℕ) → r ≡ None → r ≡ cond (ltb n m) (Some n) None → m ≤ n
no_place r n m e h = grind (arith, nat_tests)

-- a name's form, from the three tests of a read
pub IsName-from_tests : (text : Text) → length text ≢ 0 → length text ≤ NAME_BYTES → None ≡ position is_stray text → IsName text
IsName-from_tests text some short none =
    record { some = omega arith; short = short; bytes = all_words text (no_place None (position_or_len is_stray text) (length text) refl none) }

-- a text with a byte that no name has is no name
pub no_name : (text : Text) (place : ℕ) → Some place ≡ position is_stray text → IsName text → ⊥
no_name text place is h =
    let k = position-Some is_stray text place 0 (sym is) in
    let f : is_word_byte (get_or text place 0) ≡ false = not-true (is_word_byte (get_or text place 0)) k.1 in
    let e : list_all is_word_byte text ≡ false = list_all_at is_word_byte text place 0 k.0 f in
    absurd (cc (e, h.bytes))

abbrev zeros : List ℕ
zeros = replicate NAME_BYTES 0

-- the invariant of a name that is made of a text
pub made : (text new rest : Text) → IsName text → new ≡ text → rest ≡ drop (length text) (replicate NAME_BYTES 0)
    → IsName (take (length text) (new ++ rest)) × (length text ≤ NAME_BYTES) × (length (new ++ rest) ≡ NAME_BYTES) × (drop (length text) (new ++ rest) ≡ replicate (NAME_BYTES - length text) 0)
made text new rest h e r =
    let front : take (length text) (text ++ drop (length text) zeros) ≡ text = take_at text (drop (length text) zeros) (length text) refl in
    let back : drop (length text) (text ++ drop (length text) zeros) ≡ drop (length text) zeros = drop_at text (drop (length text) zeros) (length text) refl in
    let whole : length (text ++ drop (length text) zeros) ≡ NAME_BYTES = omega (arith, h.short, length-append text (drop (length text) zeros), length-drop {A = ℕ} (length text) zeros, length-replicate {A = ℕ} NAME_BYTES 0) in
    rw (e, r, front, back) (h, h.short, whole, drop-replicate (length text) NAME_BYTES 0)

-- a text of the form of a name is that name
pub name_of-Ok : (text : Text) → IsName text → name_of text ≡ Ok text
name_of-Ok text h = grind (arith, nat_tests, h.some, h.short, leb-true (length text) (position_or_len is_stray text) (stray_nowhere text ∙ h.bytes))

-- a name that a text is is the text, and has the form of a name
pub IsName-from_name_of : (text name : Text) → name_of text ≡ Ok name → (name ≡ text) × IsName text
IsName-from_name_of text name h = grind (arith, nat_tests, all_words text)
