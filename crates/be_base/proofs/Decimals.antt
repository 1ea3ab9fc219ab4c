-- Decimal texts are read as their numbers.
use Rattle.std.proofs.Common.{◌≡◌, ℕ, ◌+◌, ◌*◌, ◌-◌, ◌/◌, ◌%◌, ◌^◌, ◌<◌, ◌≤◌, true, false, ◌&&◌, not, eqb, ltb, cond, min, [], ◌∷◌, ◌++◌, length, length-append, Some, None, refl, ap, ◌∙◌, arith}
use Rattle.std.specs.Prelude.{ℤ, pos, negsuc, suc, unsigned_abs, decimal}
use Rattle.std.specs.Fmt.{signed_decimal}
use Rattle.std.specs.List.{list_all}
use Rattle.std.proofs.lemmas.Fmt.{decimal_by_steps}
use Rattle.std.proofs.lemmas.Bool.{and_from}
use Rattle.std.proofs.lemmas.Bool.Decides.{nat_tests}
use Rattle.std.proofs.lemmas.List.Sums.{fold-append}
use Rattle.std.proofs.lemmas.List.Folds.{list_all-append}
use Rattle.be_base.specs.declared.limits.TheConstants.{COUNT_END, INT_SIZE}
use Rattle.be_base.specs.Text.{Text, IsWord, is_word_byte}
use Rattle.be_base.specs.Numbers.{is_digit, are_digits, decimal_value, count_of, size_of_digits, positive, negative, int_of}
use Rattle.be_base.proofs.Lexing.{list_all_head}

-- digits that have this value
pub record AreDigitsOf (n : ℕ) (ds : Text) : Type 0 where
  pub some : 0 < length ds
  pub digits : list_all is_digit ds ≡ true
  pub value : decimal_value ds ≡ n

digit_passes : (n : ℕ) → n < 10 → is_digit (48 + n) ≡ true
digit_passes n h = grind (arith, nat_tests)

one_digit : (n : ℕ) → n < 10 → AreDigitsOf n ((48 + n) ∷ [])
one_digit n h = record {
  some = omega arith;
  digits = and_from (is_digit (48 + n)) true (digit_passes n h) refl;
  value = omega arith;
}

one_more : (n : ℕ) (ds : Text) → 10 ≤ n → AreDigitsOf (n / 10) ds → AreDigitsOf n (ds ++ ((48 + n % 10) ∷ []))
one_more n ds h k = record {
  some = omega (arith, length-append ds ((48 + n % 10) ∷ []), k.some);
  digits = list_all-append is_digit ds ((48 + n % 10) ∷ []) ∙ and_from (list_all is_digit ds) _ k.digits (and_from (is_digit (48 + n % 10)) true (digit_passes (n % 10) (omega arith)) refl);
  value = fold-append (λ value digit. 10 * value + (digit - 48)) 0 ds ((48 + n % 10) ∷ []) ∙ omega (arith, k.value);
}

-- the text of a number is digits of this value
pub AreDigitsOf-decimal : (n : ℕ) → n < 2 ^ 64 → AreDigitsOf n (decimal n)
AreDigitsOf-decimal n h = decimal_by_steps AreDigitsOf one_digit one_more n h

digit_of_word : (b : ℕ) → is_digit b ≡ true → is_word_byte b ≡ true
unfolding is_word_byte
digit_of_word b h = grind (arith, nat_tests)

digits_of_word : (ds : Text) → list_all is_digit ds ≡ true → list_all is_word_byte ds ≡ true
digits_of_word [] h = refl
digits_of_word (b ∷ ds) h =
    let k = list_all_head is_digit b ds h in
    and_from (is_word_byte b) (list_all is_word_byte ds) (digit_of_word b k.0) (digits_of_word ds k.1)

pub IsWord-decimal : (n : ℕ) → n < 2 ^ 64 → IsWord (decimal n)
IsWord-decimal n h = let k = AreDigitsOf-decimal n h in record { some = k.some; bytes = digits_of_word (decimal n) k.digits }

not_empty : (n : ℕ) → 0 < n → not (eqb n 0) ≡ true
not_empty n h = grind (arith, nat_tests)

pub are_digits_of : (n : ℕ) (ds : Text) → AreDigitsOf n ds → are_digits ds ≡ true
are_digits_of n ds k = and_from (not (eqb (length ds) 0)) (list_all is_digit ds) (not_empty (length ds) k.some) k.digits

counted : (n v : ℕ) → v ≡ n → n < 2 ^ 63 → cond (ltb v COUNT_END) (Some v) None ≡ Some n
counted n v e h = grind (arith, nat_tests)

-- a number below 2^63 is read back from its text
pub count_of-decimal : (n : ℕ) → n < 2 ^ 63 → count_of (decimal n) ≡ Some n
count_of-decimal n h =
    let k = AreDigitsOf-decimal n (omega arith) in
    ap (λ b. cond (b && ltb (decimal_value (decimal n)) COUNT_END) (Some (decimal_value (decimal n))) None) (are_digits_of n (decimal n) k)
    ∙ counted n (decimal_value (decimal n)) k.value h

capped : (n v : ℕ) → v ≡ n → n ≤ INT_SIZE → Some (min v INT_SIZE) ≡ Some n
capped n v e h = grind (arith, nat_tests)

pub size_of_decimal : (n : ℕ) → n ≤ INT_SIZE → size_of_digits (decimal n) ≡ Some n
size_of_decimal n h =
    let k = AreDigitsOf-decimal n (omega arith) in
    ap (λ b. cond b (Some (min (decimal_value (decimal n)) INT_SIZE)) None) (are_digits_of n (decimal n) k)
    ∙ capped n (decimal_value (decimal n)) k.value h

digit_no_sign : (b : ℕ) → is_digit b ≡ true → eqb b 45 ≡ false
digit_no_sign b h = grind (arith, nat_tests)

unsigned : (ds : Text) → 0 < length ds → list_all is_digit ds ≡ true → int_of ds ≡ positive (size_of_digits ds)
unsigned [] some h = absurd (omega arith)
unsigned (b ∷ ds) some h =
    let k = list_all_head is_digit b ds h in
    ap (λ t. cond t (negative (size_of_digits ds)) (positive (size_of_digits (b ∷ ds)))) (digit_no_sign b k.0)

-- a whole number of a size up to 2^40 is read back from its text
pub int_of-signed_decimal : (v : ℤ) → unsigned_abs v ≤ INT_SIZE → int_of (signed_decimal v) ≡ Some v
int_of-signed_decimal (pos n) h =
    let k = AreDigitsOf-decimal n (omega arith) in
    unsigned (decimal n) k.some k.digits ∙ ap positive (size_of_decimal n h)
int_of-signed_decimal (negsuc n) h = ap negative (size_of_decimal (suc n) h)

pub IsWord-signed_decimal : (v : ℤ) → unsigned_abs v ≤ INT_SIZE → IsWord (signed_decimal v)
unfolding is_word_byte
IsWord-signed_decimal (pos n) h = IsWord-decimal n (omega arith)
IsWord-signed_decimal (negsuc n) h =
    let k = AreDigitsOf-decimal (suc n) (omega arith) in
    record { some = omega arith; bytes = digits_of_word (decimal (suc n)) k.digits }
