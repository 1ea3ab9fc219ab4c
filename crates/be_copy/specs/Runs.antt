-- Texts that stand in one run of bytes.
use Rattle.std.specs.Prelude.{◌≡◌, ℕ, ◌-◌, ◌≤◌, List, [], ◌∷◌, length, take, drop}
use Rattle.be_base.specs.Text.{Text}

-- the texts in these bytes, which stand from `start` on, by the places where the texts end
abbrev pub cut_at : (start : ℕ) → (ends bytes : List ℕ) → List Text
cut_at start [] bytes = []
cut_at start (end ∷ ends) bytes = take (end - start) bytes ∷ cut_at end ends (drop (end - start) bytes)

-- each text ends no earlier than it begins, and the last one where the bytes end
abbrev pub AreEnds : (start : ℕ) → (ends bytes : List ℕ) → Type 0
AreEnds start [] bytes = bytes ≡ []
AreEnds start (end ∷ ends) bytes = (start ≤ end) × (end - start ≤ length bytes) × AreEnds end ends (drop (end - start) bytes)
