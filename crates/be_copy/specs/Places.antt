-- Places of rows, each under a number.
use Rattle.std.specs.Prelude.{◌≡◌, ℕ, ◌^◌, ◌<◌, ◌≤◌, ◌==◌, ◌&&◌, Bool, true, false, List, Option, Some, None}
use Rattle.std.specs.List.{list_any}

-- whether the place stands under the key
abbrev pub is_listed : List (ℕ × ℕ) → ℕ → ℕ → Bool
is_listed pairs key place = list_any (λ (p : ℕ × ℕ). (p.0 == key) && (p.1 == place)) pairs

abbrev pub is_pair : (key place k i : ℕ) → Bool
is_pair key place k i = (key == k) && (place == i)

-- the least number of 64 bits, from a first one on, that passes the test; none where none passes
abbrev pub IsLeast : (ℕ → Bool) → ℕ → Option ℕ → Type 0
IsLeast test from None = (i : ℕ) → from ≤ i → i < 2 ^ 64 → test i ≡ false
IsLeast test from (Some place) =
    (from ≤ place) × (test place ≡ true) × ((i : ℕ) → from ≤ i → i < place → test i ≡ false)
