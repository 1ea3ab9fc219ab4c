-- Texts that stay within a line: short, without control bytes.
use Rattle.std.proofs.Common.{◌≡◌, ℕ, ◌+◌, ◌^◌, ◌<◌, ◌≤◌, Bool, true, [], ◌∷◌, ◌++◌, length, length-append, leb, refl, ◌∙◌, arith, decimal}
use Rattle.std.specs.List.{list_all}
use Rattle.std.proofs.lemmas.Bool.{and_from}
use Rattle.std.proofs.lemmas.Bool.Decides.{nat_tests}
use Rattle.std.proofs.lemmas.Fmt.{length-decimal-le}
use Rattle.std.proofs.lemmas.List.Folds.{list_all-append}
use Rattle.be_base.specs.Text.{Text}
use Rattle.be_base.specs.Numbers.{is_digit}
use Rattle.be_base.proofs.Decimals.{AreDigitsOf-decimal}
use Rattle.be_base.proofs.Lexing.{list_all_head}

-- no control byte, so neither LF nor CR
abbrev pub is_plain : ℕ → Bool
is_plain b = leb 32 b

pub record IsPlain (most : ℕ) (text : Text) : Type 0 where
  pub bytes : list_all is_plain text ≡ true
  pub short : length text ≤ most

pub plain_append : (m n : ℕ) (a b : Text) → IsPlain m a → IsPlain n b → IsPlain (m + n) (a ++ b)
plain_append m n a b h k = record {
  bytes = list_all-append is_plain a b ∙ and_from (list_all is_plain a) (list_all is_plain b) h.bytes k.bytes;
  short = omega (arith, length-append a b, h.short, k.short);
}

pub plain_within : (m n : ℕ) (a : Text) → m ≤ n → IsPlain m a → IsPlain n a
plain_within m n a le h = record { bytes = h.bytes; short = omega (arith, h.short) }

digit_is_plain : (b : ℕ) → is_digit b ≡ true → is_plain b ≡ true
digit_is_plain b h = grind (arith, nat_tests)

digits_are_plain : (ds : Text) → list_all is_digit ds ≡ true → list_all is_plain ds ≡ true
digits_are_plain [] h = refl
digits_are_plain (b ∷ ds) h =
    let k = list_all_head is_digit b ds h in
    and_from (is_plain b) (list_all is_plain ds) (digit_is_plain b k.0) (digits_are_plain ds k.1)

pub decimal_plain : (n : ℕ) → n < 2 ^ 64 → list_all is_plain (decimal n) ≡ true
decimal_plain n h = digits_are_plain (decimal n) (AreDigitsOf-decimal n h).digits

-- the text of a drawn value
pub value_plain : (v : ℕ) → v < 1000 → IsPlain 3 (decimal v)
value_plain v h = record {
  bytes = decimal_plain v (omega arith);
  short = length-decimal-le 3 v (omega arith) (omega arith) (omega arith);
}

pub number_plain : (n : ℕ) → n < 10 ^ 19 → IsPlain 19 (decimal n)
number_plain n h = record {
  bytes = decimal_plain n (omega arith);
  short = length-decimal-le 19 n (omega arith) h (omega arith);
}
