-- What a set note says.
use Rattle.std.proofs.Common.{◌≡◌, ℕ, ◌+◌, ◌*◌, ◌<◌, true, ap₂, ◌∙◌, arith}
use Rattle.std.specs.Prelude.{◌/◌, ◌%◌}
use Rattle.be_model.specs.Matching.{Assignments}
use Rattle.be_shape.specs.Lanes.{Few}
use Rattle.be_shape.specs.SetNotes.{passes_at, passes_note}

place_of : (at m : ℕ) → m < 64 → (at * 64 + m) / 64 ≡ at
place_of at m l = omega arith

bits_of : (at m : ℕ) → m < 64 → (at * 64 + m) % 64 ≡ m
bits_of at m l = omega arith

-- the note of a place and of bits says these
pub noted : (at m : ℕ) (t : Few) (e : Assignments) → m < 64 → passes_at at m t e ≡ true → passes_note (at * 64 + m) t e ≡ true
noted at m t e l h = ap₂ (λ (n k : ℕ). passes_at n k t e) (place_of at m l) (bits_of at m l) ∙ h
