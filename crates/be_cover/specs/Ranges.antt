-- Sets of values as lists of ranges, and their least values.
use Rattle.std.specs.Prelude.{◌≡◌, ℕ, zero, suc, ℤ, pos, ◌+ℤ◌, ◌<ℤ◌, ◌&&◌, Bool, true, false, List, [], ◌∷◌, find, int_le, int_lt, Option, Some, None, MatchOption, if◌then◌else◌}
use Rattle.std.specs.List.{list_any, list_all}
use Rattle.std.specs.Option.{option_or}
use Rattle.be_model.specs.Domains.{Range, is_within, width}

-- some range holds the value
abbrev pub is_in : List Range → ℤ → Bool
is_in ranges v = list_any (λ r. is_within r v) ranges

-- the second range is above the first, with a value between them
abbrev pub is_beyond : Range → Range → Bool
is_beyond r later = int_lt (r.1 +ℤ pos 1) later.0

-- no range is empty, and each later one is above it and doesn't touch it
abbrev pub rise_apart : List Range → Bool
rise_apart [] = true
rise_apart (r ∷ more) = int_le r.0 r.1 && (list_all (is_beyond r) more && rise_apart more)

-- the least value that passes, or that none passes
abbrev pub IsLeast : (ℤ → Bool) → Option ℤ → Type 0
IsLeast passes least = MatchOption least ((v : ℤ) → passes v ≡ false) (λ v. (passes v ≡ true) × ((w : ℤ) → w <ℤ v → passes w ≡ false))

-- the same, computed: the first of the n values from v on that passes
abbrev pub first_passing : (ℤ → Bool) → ℕ → ℤ → Option ℤ
first_passing passes zero v = None
first_passing passes (suc n) v = if passes v then Some v else first_passing passes n (v +ℤ pos 1)

-- the least value of a range that passes
unfoldable pub least_in : (ℤ → Bool) → Option Range → Option ℤ
least_in passes None = None
least_in passes (Some r) = first_passing passes (width r) r.0

-- the value behind the one range that holds the least value of another, where the other goes on
abbrev pub least_behind : Range → Option Range → Option ℤ
least_behind r None = Some r.0
least_behind r (Some holds) = if int_lt holds.1 r.1 then Some (holds.1 +ℤ pos 1) else None

-- the least value of a range that isn't in ranges that rise and don't touch
abbrev pub least_outside : List Range → Range → Option ℤ
least_outside others r = least_behind r (find (λ x. is_within x r.0) others)

-- the least value of ranges that rise that isn't in the others
abbrev pub least_beyond : List Range → List Range → Option ℤ
least_beyond others [] = None
least_beyond others (r ∷ more) = option_or (least_outside others r) (least_beyond others more)
