-- What an object of the outside tells of the bytes that it holds or has left. None claims nothing.
use Rattle.std.specs.Prelude.{◌≡◌, ℕ, ◌≤◌, ◌++◌, List, [], length, take, drop, Option, Some, None, option_map, IfSome}

-- the source gave its next k bytes into the front of the buffer. It gave none exactly at its end
abbrev pub GivesBytes : Option (List ℕ) → Option (List ℕ) → List ℕ → ℕ → Type 0
GivesBytes before after buf k =
    (k ≤ length buf) × (after ≡ option_map (λ left. drop k left) before)
    × IfSome before (λ left. (k ≤ length left) × (take k buf ≡ take k left) × (k ≡ 0 → left ≡ []))

-- the sink holds the first k of these bytes beside what it held
abbrev pub HoldsMore : Option (List ℕ) → Option (List ℕ) → List ℕ → Type 0
HoldsMore before after bytes = after ≡ option_map (λ held. held ++ bytes) before

-- of both what is told, where it is told
abbrev pub WhereTold : Option (List ℕ) → Option (List ℕ) → (List ℕ → List ℕ → Type 0) → Type 0
WhereTold None None P = Unit {0}
WhereTold (Some before) (Some after) P = P before after
WhereTold (Some before) None P = ⊥
WhereTold None (Some after) P = ⊥
