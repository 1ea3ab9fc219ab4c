-- Numbers in texts.
use Rattle.std.specs.Prelude.{ℕ, ◌+◌, ◌*◌, ◌-◌, ◌==◌, ◌&&◌, Bool, [], ◌∷◌, length, min, nat_lt, not, Option, Some, None, ℤ, pos, neg_ℤ, fold, if◌then◌else◌}
use Rattle.std.specs.List.{list_all}
use Rattle.be_base.specs.declared.limits.TheConstants.{COUNT_END, INT_SIZE}
use Rattle.be_base.specs.Text.{Text, is_between}

abbrev pub is_digit : ℕ → Bool
is_digit b = is_between 48 57 b

-- one or more digits
abbrev pub are_digits : Text → Bool
are_digits text = not (length text == 0) && list_all is_digit text

-- the value of digits in base ten
abbrev pub decimal_value : Text → ℕ
decimal_value text = fold (λ value digit. 10 * value + (digit - 48)) 0 text

-- the number that a text of digits is, where it is below the end of counts
abbrev pub count_of : Text → Option ℕ
count_of text =
    if are_digits text && nat_lt (decimal_value text) COUNT_END then Some (decimal_value text) else None

-- a greater size is read as the greatest
abbrev pub size_of_digits : Text → Option ℕ
size_of_digits text = if are_digits text then Some (min (decimal_value text) INT_SIZE) else None

abbrev pub positive : Option ℕ → Option ℤ
positive None = None
positive (Some n) = Some (pos n)

abbrev pub negative : Option ℕ → Option ℤ
negative None = None
negative (Some n) = Some (neg_ℤ (pos n))

-- the whole number that a text is: an optional `-` and digits
abbrev pub int_of : Text → Option ℤ
int_of [] = None
int_of (b ∷ text) = if b == 45 then negative (size_of_digits text) else positive (size_of_digits (b ∷ text))
