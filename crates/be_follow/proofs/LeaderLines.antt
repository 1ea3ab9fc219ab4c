-- What the lines of a leader's replies to TAIL say.
use Rattle.std.proofs.Common.{◌≡◌, ℕ, ◌<◌, Bool, true, false, cond, List, [], ◌∷◌, ◌++◌, length, take, nat_lt, Option, Some, None, Ok, codes, refl, sym, ap, ◌∙◌, subst, arith, append_assoc}
use Rattle.std.specs.Prelude.{decimal, slice_get}
use Rattle.std.proofs.lemmas.List.{length-take-le}
use Rattle.std.proofs.lemmas.List.Sums.{AllPass-from_list_all}
use Rattle.std.proofs.lemmas.Option.{slice_get_within, get_or_from_slice_get}
use Rattle.be_base.specs.Text.{Text, IsWord, is_word_byte}
use Rattle.be_base.specs.Numbers.{count_of}
use Rattle.be_base.specs.Tokens.{Lexeme, word, tokens}
use Rattle.be_base.specs.declared.limits.TheConstants.{COUNT_END, FEED_LINE_BYTES}
use Rattle.be_base.proofs.Joined.{word_alone, word_space}
use Rattle.be_base.proofs.Decimals.{count_of-decimal, IsWord-decimal}
use Rattle.be_io.specs.Lines.{has_lf}
use Rattle.be_model.specs.Lies.{entry_lies}
use Rattle.be_model.specs.Schemas.{Attributes, IsSchema}
use Rattle.be_model.specs.Texts.{NamesAreNames}
use Rattle.be_change.specs.History.{Entry, subscribed, unsubscribed, left, MayFollow}
use Rattle.be_change.proofs.Forms.{formed_each}
use Rattle.be_expr.specs.Changes.{change_text, change_of, change, IsNumbered}
use Rattle.be_expr.proofs.ChangesRead.{changes_are_read}
use Rattle.be_protocol.specs.Replies.{number, part}
use Rattle.be_follow.specs.Feeds.{PlainSaid, nothing, at, faulty, placed, change_at, counted, said_of, said}
use Rattle.be_follow.specs.Laws.{IsWritten, IsLeaders}
use Rattle.be_follow.proofs.CleanTexts.{clean_by_tokens}
use Rattle.be_follow.proofs.Lengths.{line_short, ended_short}

-- a leader's line of a change at a place, and the last line of a reply
abbrev pub at_line : Attributes → ℕ → Entry → Text
at_line s place e = (codes "AT" ++ number place) ++ part (change_text s e)

abbrev pub ended_line : ℕ → ℕ → Text
ended_line n count = (codes "TAILED" ++ number n) ++ number count

-- a line has no LF, and says this
pub record IsLine (s : Attributes) (line : Text) (x : PlainSaid) : Type 0 where
  pub clean : has_lf line ≡ false
  pub says : said s line ≡ x

line_says : (s : Attributes) (line : Text) (ts : List Lexeme) (x : PlainSaid) → tokens line ≡ Some ts → nat_lt FEED_LINE_BYTES (length line) ≡ false → said_of s (Some ts) ≡ x → IsLine s line x
line_says s line ts x lexed short says = record {
  clean = clean_by_tokens line ts lexed;
  says = ap (λ (b : Bool). cond b faulty (said_of s (tokens line))) short ∙ ap (said_of s) lexed ∙ says;
}

-- a word, a number and more
line_lexed : (head : Text) (n : ℕ) (text : Text) (ts : List Lexeme) → IsWord head → n < COUNT_END → tokens text ≡ Some ts → tokens ((head ++ number n) ++ part text) ≡ Some (word head ∷ word (decimal n) ∷ ts)
line_lexed head n text ts is low lexed =
    ap tokens (append_assoc head (number n) (part text))
    ∙ word_space head (decimal n ++ 32 ∷ text) (word (decimal n) ∷ ts) is (word_space (decimal n) text ts (IsWord-decimal n (omega (arith, low))) lexed)

IsWord-at : IsWord (codes "AT")
unfolding is_word_byte
IsWord-at = record { some = omega arith; bytes = refl }

IsWord-tailed : IsWord (codes "TAILED")
unfolding is_word_byte
IsWord-tailed = record { some = omega arith; bytes = refl }

-- the numbers of a change that may come next, at its place
numbered : (h : List Entry) (e : Entry) → MayFollow h e → IsWritten e → IsNumbered (length h) e
numbered h (subscribed k n row) m w = (w.session, w.serial, m.allowed.1, m.allowed.2)
numbered h (unsubscribed k n name) m w = (w.session, w.serial)
numbered h (left k n) m w = (w.session, w.serial)

-- what is read has tokens
lexed_by : (s : Attributes) (place : ℕ) (e : Entry) (o : Option (List Lexeme)) → change_of s place o ≡ Ok e → (ts : List Lexeme) × (o ≡ Some ts)
lexed_by s place e None read = absurd cc
lexed_by s place e (Some ts) read = (ts, refl)

change_line : (s : Attributes) (place : ℕ) (e : Entry) → IsSchema s → NamesAreNames s → place < COUNT_END → IsNumbered place e → IsWritten e → entry_lies s e ≡ true → IsLine s (at_line s place e) (at place e)
change_line s place e valid names low n w lies =
    let read : change s place (change_text s e) ≡ Ok e = changes_are_read s e valid names w.form lies place n in
    let lexed = lexed_by s place e (tokens (change_text s e)) read in
    let read2 : change_of s place (Some lexed.0) ≡ Ok e = ap (change_of s place) (sym lexed.1) ∙ read in
    line_says s (at_line s place e) (word (codes "AT") ∷ word (decimal place) ∷ lexed.0) (at place e)
    (line_lexed (codes "AT") place (change_text s e) lexed.0 IsWord-at low lexed.1)
    (line_short s place e valid names low w lies)
    (ap (λ o. change_at s o (Some lexed.0)) (count_of-decimal place low) ∙ ap (placed place) read2)

-- the line of a change that stands in a leader's list
pub leaders_line : (s : Attributes) (h : List Entry) (place : ℕ) (e : Entry) → IsSchema s → NamesAreNames s → IsLeaders s h → slice_get h place ≡ Some e → IsLine s (at_line s place e) (at place e)
leaders_line s h place e valid names leads there =
    let within : place < length h = slice_get_within h place e there in
    let same = get_or_from_slice_get h place e e there in
    let front : length (take place h) ≡ place = length-take-le place h (omega (arith, within)) in
    let written : IsWritten e = subst IsWritten same (leads.written place e within) in
    let lies : entry_lies s e ≡ true = subst (λ (x : Entry). entry_lies s x ≡ true) same (AllPass-from_list_all (entry_lies s) h leads.lies place e within) in
    change_line s place e valid names (omega (arith, within, leads.few))
    (subst (λ (n : ℕ). IsNumbered n e) front (numbered (take place h) e (formed_each h leads.formed place e there) written)) written lies

-- the last line of a reply
pub last_says : (s : Attributes) (n count : ℕ) → n < COUNT_END → count < COUNT_END → IsLine s (ended_line n count) nothing
last_says s n count low low2 =
    line_says s (ended_line n count) (word (codes "TAILED") ∷ word (decimal n) ∷ word (decimal count) ∷ []) nothing
    (line_lexed (codes "TAILED") n (decimal count) (word (decimal count) ∷ []) IsWord-tailed low (word_alone (decimal count) (IsWord-decimal count (omega (arith, low2)))))
    (ended_short n count low low2)
    (ap (λ o. counted o (count_of (decimal count))) (count_of-decimal n low) ∙ ap (counted (Some n)) (count_of-decimal count low2))
